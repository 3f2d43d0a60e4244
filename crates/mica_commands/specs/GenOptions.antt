-- The ranges of the options of a generated trace.
use Rattle.std.specs.Prelude.{ℕ, ◌+◌, ◌-◌, ◌*◌, ◌/◌, Bool, ◌&&◌, nat_le, nat_lt}
use Rattle.std.specs.Int.{is_in_range}
use Rattle.mica_trace.specs.declared.limits.TheConstants.{MAX_LINES, MAX_ROUNDS}
use Rattle.server_words.specs.declared.limits.TheConstants.{MAX_SOURCE_LEN}
use Rattle.mica_commands.specs.declared.gen_options.GenOptions.{GenOptions}

-- each number is in its range
abbrev pub are_in_ranges : GenOptions → Bool
are_in_ranges options =
    is_in_range 1 100000 options.ops
    && is_in_range 1 65536 options.keys
    && is_in_range 8 255 options.key_len
    && is_in_range 8 1024 options.value_len
    && is_in_range 0 100 options.gets
    && is_in_range 0 100 options.dels
    && is_in_range 0 100 options.hot
    && is_in_range 1 100000 options.every

-- how many syncs the trace has: one behind every so many operations, but at its end
abbrev pub syncs_of : GenOptions → ℕ
syncs_of options = (options.ops - 1) / options.every

-- the longest text of the trace, which has puts alone
abbrev pub longest_text : GenOptions → ℕ
longest_text options = options.ops * (6 + options.key_len + options.value_len) + 5 * syncs_of options

-- the kinds of operation share one hundred, and the trace has no more rounds, lines and bytes than a trace may have
abbrev pub has_room : GenOptions → Bool
has_room options =
    nat_le (options.gets + options.dels) 100
    && nat_lt (syncs_of options) MAX_ROUNDS
    && nat_le (options.ops + syncs_of options) MAX_LINES
    && nat_le (longest_text options) MAX_SOURCE_LEN

-- whether each number is in its range, and a trace of them has room
abbrev pub is_valid : GenOptions → Bool
is_valid options = are_in_ranges options && has_room options
