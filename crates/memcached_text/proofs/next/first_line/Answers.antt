use Rattle.std.proofs.Common.{◌≤◌, length, sym, subst, arith}
use Rattle.memcached_text.specs.Lines.{HasLine}
use Rattle.memcached_text.proofs.NextLaws.{line_among, line_is, most_here}
use Rattle.memcached_text.proofs.next.first_line.Goals as goal

pub split_at-requires : goal.split_at-requires
split_at-requires c =
    let within : c.min.result ≤ length c.args.from.now = omega arith in
    let among = line_among c.args.from.now c.in_ok-line.line.now c.in_ok-line.field-0-1.now c.min.result within c.in_ok-line.ensures.0 in
    omega arith

pub returns : goal.returns
returns c =
    let within : c.min.result ≤ length c.args.from.now = omega arith in
    let among = line_among c.args.from.now c.in_ok-line.line.now c.in_ok-line.field-0-1.now c.min.result within c.in_ok-line.ensures.0 in
    let has = line_is c.args.from.now c.in_ok-line.line.now c.in_ok-line.field-0-1.now c.min.result c.in_ok-line.ensures.0 c.in_ok-line.ensures.1 in
    (subst (HasLine c.args.from.now c.in_ok-line.line.now) (sym c.split_at.ensures.back) has, let same = most_here c.args.from.now c.in_ok-line.line.now _ has in omega (arith, same, among))
