-- The trace that options generate.
use Rattle.std.specs.Prelude.{ℕ, ◌+◌, ◌-◌, ◌*◌, ◌/◌, ◌%◌, ◌==◌, ◌&&◌, Bool, nat_lt, max, List, [], ◌∷◌, ◌++◌, length, replicate, flat_map, if◌then◌else◌}
use Rattle.std.specs.List.{range_with_len}
use Rattle.std.specs.Fmt.{decimal}
use Rattle.rand_pcg.specs.Lcg.{Lcg, advance, started, increment_of}
use Rattle.rand_pcg.specs.Pcg.{multiplier_64, output_xsh_rr}
use Rattle.mica_trace.specs.declared.line.TraceOp.TheVariants as op
use Rattle.mica_trace.specs.declared.line.TraceLine.{TraceLine}
use Rattle.mica_trace.specs.TraceGrammar.{sync_line}
use Rattle.mica_commands.specs.declared.gen_options.GenOptions.{GenOptions}
use Rattle.mica_commands.specs.declared.draw.OpKind.{OpKind}
use Rattle.mica_commands.specs.declared.draw.OpKind.TheVariants.{Put, Del, Get}
use Rattle.mica_commands.specs.declared.draw.Draw.{Draw}

-- PCG32 (XSH RR 64/32) on stream 54, with the seed as its state, after n words
abbrev pub generator : GenOptions → ℕ → Lcg
generator options n = advance 64 multiplier_64 n (started 64 multiplier_64 options.seed (increment_of 64 54))

-- its word n, from 0
abbrev pub word : GenOptions → ℕ → ℕ
word options n = output_xsh_rr (generator options n).state

-- the kind of operation that a word chooses
abbrev pub kind_by : GenOptions → ℕ → OpKind
kind_by options word =
    if nat_lt (word % 100) options.gets then Get
    else (if nat_lt (word % 100) (options.gets + options.dels) then Del else Put)

-- the number of the key: where the first word says so, it is one of the first hundredth
abbrev pub key_number : GenOptions → ℕ → ℕ → ℕ
key_number options spot word =
    if nat_lt (spot % 100) options.hot then word % max (options.keys / 100) 1 else word % options.keys

-- a number in decimal, with zeros before it
abbrev pub padded : ℕ → ℕ → List ℕ
padded len number = replicate (len - length (decimal number)) 48 ++ decimal number

-- the key of a number: `k` and the number
abbrev pub drawn_key : GenOptions → ℕ → List ℕ
drawn_key options number = 107 ∷ padded (options.key_len - 1) number

-- operation i, from 0, whatever its kind, draws three words
abbrev pub drawn : GenOptions → ℕ → Draw
drawn options i = record {
  kind = kind_by options (word options (3 * i));
  key = key_number options (word options (3 * i + 1)) (word options (3 * i + 2));
  number = i;
}

-- the line of a kind of operation; only a put has a value
abbrev pub line_by : OpKind → List ℕ → List ℕ → TraceLine
line_by Put key value = record { op = op.Put; key = key; value = value }
line_by Del key value = record { op = op.Del; key = key; value = [] }
line_by Get key value = record { op = op.Get; key = key; value = [] }

-- the line of an operation: its value writes its number
abbrev pub drawn_line : GenOptions → Draw → TraceLine
drawn_line options draw = line_by draw.kind (drawn_key options draw.key) (padded options.value_len draw.number)

-- a sync stands behind every so many operations, but not at the end
abbrev pub ends_round : GenOptions → ℕ → Bool
ends_round options i = (i + 1) % options.every == 0 && nat_lt (i + 1) options.ops

-- the line of an operation, and the sync behind it
abbrev pub drawn_lines : GenOptions → Draw → List TraceLine
drawn_lines options draw = drawn_line options draw ∷ (if ends_round options draw.number then sync_line ∷ [] else [])

-- the lines of operation i
abbrev pub generated_at : GenOptions → ℕ → List TraceLine
generated_at options i = drawn_lines options (drawn options i)

-- the whole trace
abbrev pub generated : GenOptions → List TraceLine
generated options = flat_map (generated_at options) (range_with_len 0 options.ops)
