use Rattle.memcached_text.specs.Spelling.{IsKey}
use Rattle.memcached_text.proofs.SpelledLaws.{IsCountText, count_begins}
use Rattle.memcached_text.proofs.spelled.spelled_count.Goals as goal

pub returns : goal.returns
returns c =
    let from = c.args.from.now in
    let key = c.in_ok-key.key.now in
    let more = c.in_ok-quiet.more.now in
    let fits = c.is_key_len.ensures c.if-not-is_key_len.false in
    let is_key : IsKey key = record { some = fits.0; short = fits.1; no_space = c.in_ok-key.ensures.1; no_feed = c.in_ok-key.ensures.2; no_zero = c.in_ok-key.ensures.3 } in
    let read : IsCountText c.in_ok-direction.direction from key more c.in_ok-delta.delta c.in_ok-quiet.quiet = record {
      text = c.in_ok-direction.text.now;
      behind_key = c.in_ok-key.numbers.now;
      numbers = c.in_ok-numbers.numbers.now;
      tail = c.in_ok-delta.end.now;
      whole = c.in_ok-direction.ensures;
      parts = c.in_ok-key.ensures.0;
      space = c.in_ok-numbers.ensures;
      delta_read = c.in_ok-delta.ensures.1;
      tail_read = c.in_ok-quiet.ensures;
    } in
    count_begins c.in_ok-direction.direction from key more c.in_ok-delta.delta c.in_ok-quiet.quiet read is_key c.in_ok-delta.ensures.0
