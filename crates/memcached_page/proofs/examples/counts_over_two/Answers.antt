use Rattle.std.proofs.Common.{ℕ, false, true≢false, List, [], ◌∷◌, inl, inr, refl, ap, arith}
use Rattle.std.specs.Fmt.{digits}
use Rattle.std.specs.Prelude.{codes}
use Rattle.memcached_text.specs.Block.{block_at}
use Rattle.memcached_text.specs.Forms.{line_of, ends_as_http}
use Rattle.memcached_text.specs.KeyLine.{get_line, counted, count_line}
use Rattle.memcached_text.specs.Lifetimes.{lifetime_of}
use Rattle.memcached_text.specs.Line.{quiet_tail}
use Rattle.memcached_text.specs.Lines.{words_of}
use Rattle.memcached_text.specs.Next.{storing_at, says_at, next_in, is_get, most_line, next_of as next_line}
use Rattle.memcached_text.specs.Numbers.{number_of}
use Rattle.memcached_text.specs.Replies.{number_text, value_text}
use Rattle.memcached_text.specs.StorageLine.{item_of, stored, set_line}
use Rattle.memcached_commands.specs.Counting.{number_in}
use Rattle.memcached_commands.specs.Decide.{decide}
use Rattle.memcached_commands.specs.Moments.{end_of}
use Rattle.memcached_meta.specs.Next.{next_meta}
use Rattle.memcached_requests.specs.Next.{next_of}
use Rattle.memcached_requests.specs.Replies.{said_text}
use Rattle.memcached_page.specs.Course.{Deed}
use Rattle.memcached_page.specs.Exchange.{Exchange}
use Rattle.memcached_page.specs.Examples.{counting, sets, shows, item}
use Rattle.memcached_page.specs.Talk.{done_for}
use Rattle.memcached_page.proofs.Answered.{is_command, nothing_told}
use Rattle.memcached_page.proofs.examples.counts_over_two.Goals as goal

pub returns-clause-course : goal.returns-clause-course
unfolding decide end_of number_in number_of digits
returns-clause-course c = λ mode. ((omega arith, inl refl), ((omega arith, inl refl), ((omega arith, inl refl), refl)))

-- what bytes begin with, carried out by this
abbrev first_in : List ℕ → Deed → Exchange
first_in bytes deed = record { next = next_of bytes; deeds = deed ∷ []; told = nothing_told; lacked = false }

pub returns-clause-first : goal.returns-clause-first
unfolding next_of next_meta said_text next_line next_in most_line is_get says_at storing_at line_of words_of set_line item_of stored get_line quiet_tail number_of lifetime_of block_at ends_as_http value_text digits
returns-clause-first c =
    let bytes : List ℕ = codes "set n 0 0 1\r\n5\r\nget n\r\n" in
    let later : List ℕ = codes "get n\r\n" in
    record {
      said = first_in bytes (sets 1 (codes "n") (codes "5")) ∷ first_in later (shows 3 (codes "n") (item 2 (codes "7"))) ∷ [];
      rest = [];
      reads = (
        record { next = refl; some = λ e. true≢false (ap is_command e); carried_out = (refl, tt); held = refl },
        inr (refl, refl),
        (record { next = refl; some = λ e. true≢false (ap is_command e); carried_out = (refl, tt); held = refl }, inl refl, refl),
      );
      done = refl;
      unsent = [];
      begins = refl;
    }

pub returns-clause-second : goal.returns-clause-second
unfolding next_of next_meta said_text next_line next_in most_line is_get says_at line_of words_of count_line counted quiet_tail number_of ends_as_http number_text digits
returns-clause-second c = record {
  said = record { next = next_of (codes "incr n 2\r\n"); deeds = done_for 1 counting; told = nothing_told; lacked = false } ∷ [];
  rest = [];
  reads = (record { next = refl; some = λ e. true≢false (ap is_command e); carried_out = (refl, tt); held = refl }, inl refl, refl);
  done = refl;
  unsent = [];
  begins = refl;
}
