use Rattle.memcached_text.proofs.SpelledLaws.{get_begins}
use Rattle.memcached_text.proofs.spelled.spelled_get.Goals as goal

pub returns : goal.returns
returns c =
    let len = c.is_key_len.ensures c.if-not-is_key_len.false in
    get_begins c.args.from.now c.in_ok-text.text.now c.in_ok-line.line.now c.in_ok-line.end.now _ c.in_ok-key.key.now
    c.in_ok-text.ensures c.in_ok-line.ensures.0 c.in_ok-line.ensures.1 c.in_ok-line.ensures.2 c.in_ok-line.ensures.3 c.in_ok-_rest.ensures c.in_ok-key.ensures len.0 len.1
