use Rattle.std.proofs.Common.{rules, ◌+◌, ◌∷◌, ◌++◌, [], None, map, refl, sym, ap, ◌∙◌, subst, arith}
use Rattle.std.proofs.lemmas.List.{map-append}
use Rattle.connections.specs.Shares.{GivesShares}
use Rattle.connections.proofs.Shares.{gives_none, gives_on, gives_one}
use Rattle.tcp_connections.specs.Facts.{facts_of}
use Rattle.tcp_connections.proofs.tcp_listeners.give_all.Goals as goal

pub loop-k-init : goal.loop-k-init
loop-k-init g c = record {
  gives = gives_none None c.args.first (map facts_of c.args.out.now.items);
  left = search rules;
  len = omega arith;
  capacity = refl;
}

pub loop-k-preserved : goal.loop-k-preserved
loop-k-preserved g c =
    let inv = c.loop-k.invariant in
    let first = c.args.first in
    let k = c.loop-k.k in
    let old = map facts_of c.args.out.now.items in
    let mid = map facts_of c.loop-k.out.items in
    let share = facts_of c.new.result in
    let one = gives_one None (first + k) mid share (record { share_is = c.new.ensures.0; no_faults = c.new.ensures.1; unended = c.new.ensures.2; fresh = tt; waited_is = tt }) in
    let given = gives_on None None first k 1 old mid (mid ++ share ∷ []) inv.gives refl one in
    record {
      gives = subst (GivesShares None first (k + 1) old) (sym (ap (map facts_of) c.push_reserved.ensures.items ∙ map-append facts_of c.loop-k.out.items (c.new.result ∷ []))) given;
      left = search rules;
      len = omega (arith, c.push_reserved.ensures.len, inv.len);
      capacity = c.push_reserved.ensures.capacity ∙ inv.capacity;
    }
