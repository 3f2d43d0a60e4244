use Rattle.std.proofs.Common.{◌-◌, length, sym, subst}
use Rattle.memcached_text.specs.declared.command.Command.TheVariants.{Store}
use Rattle.memcached_text.specs.declared.command.Wants.TheVariants.{Whatever}
use Rattle.memcached_text.specs.Spelling.{IsKey, BeginsAs}
use Rattle.memcached_text.proofs.SpelledLaws.{IsSetText, set_begins}
use Rattle.memcached_text.proofs.spelled.spelled_set.Goals as goal

pub returns : goal.returns
returns c =
    let from = c.args.from.now in
    let key = c.in_ok-key.key.now in
    let value = c.in_ok-value.value.now in
    let more = c.in_ok-value.more.now in
    let fits = c.is_key_len.ensures c.if-not-is_key_len.false in
    let is_key : IsKey key = record { some = fits.0; short = fits.1; no_space = c.in_ok-key.ensures.1; no_feed = c.in_ok-key.ensures.2; no_zero = c.in_ok-key.ensures.3 } in
    let read : IsSetText from key value more c.in_ok-flags.flags c.in_ok-expiry.expiry c.in_ok-value_len.value_len c.in_ok-quiet.quiet = record {
      text = c.in_ok-text.text.now;
      behind_key = c.in_ok-key.numbers.now;
      numbers = c.in_ok-numbers.numbers.now;
      behind_flags = c.in_ok-flags.numbers.now;
      behind_expiry = c.in_ok-expiry.numbers.now;
      tail = c.in_ok-value_len.end.now;
      block = c.in_ok-quiet.block.now;
      whole = c.in_ok-text.ensures;
      parts = c.in_ok-key.ensures.0;
      space = c.in_ok-numbers.ensures;
      flags_read = c.in_ok-flags.ensures.1;
      expiry_read = c.in_ok-expiry.ensures.1;
      len_read = c.in_ok-value_len.ensures.1;
      tail_read = c.in_ok-quiet.ensures;
      block_read = c.in_ok-value.ensures.1;
    } in
    subst (λ lifetime. BeginsAs from (Store Whatever key c.in_ok-flags.flags lifetime value c.in_ok-quiet.quiet) (length from - length more)) (sym c.lifetime_at.ensures)
    (set_begins from key value more c.in_ok-flags.flags c.in_ok-expiry.expiry c.in_ok-value_len.value_len c.in_ok-quiet.quiet read is_key c.in_ok-flags.ensures.0 c.if-expiry-gt-LAST_SAID.false c.in_ok-value.ensures.0 c.if-value_len-gt-MAX_TEXT_LEN.false)
