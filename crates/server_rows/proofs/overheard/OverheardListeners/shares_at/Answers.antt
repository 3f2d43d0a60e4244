use Rattle.std.proofs.Common.{rules, ◌≡◌, ◌+◌, ◌∷◌, ◌++◌, [], None, map, refl, sym, ap, ℕ, ◌∙◌, subst, arith}
use Rattle.std.proofs.lemmas.List.{map-append}
use Rattle.connections.specs.Shares.{GivesShares}
use Rattle.connections.proofs.Shares.{gives_on, gives_one}
use Rattle.server_rows.specs.Heard.{facts_of}
use Rattle.server_rows.proofs.Shares.{none_made}
use Rattle.server_rows.proofs.overheard.OverheardListeners.shares_at.Goals as goal

pub loop-behind-init : goal.loop-behind-init
loop-behind-init c = record { gives = none_made c.args.self.now.given _ (search rules); len = search rules; room = search rules }

pub loop-behind-preserved : goal.loop-behind-preserved
loop-behind-preserved c =
    let inv = c.loop-behind.invariant in
    let first = c.args.self.now.given in
    let k = c.loop-behind.behind in
    let mid = map facts_of c.loop-behind.all.items in
    let share = facts_of c.in-Some.connections in
    let one = gives_one None (first + k) mid share c.in-Some.ensures in
    let gives = gives_on None None first k 1 [] mid (mid ++ share ∷ []) inv.gives refl one in
    record {
      gives = subst (GivesShares None first (k + 1) []) (sym (ap (map facts_of) c.push_reserved.ensures.items ∙ map-append facts_of c.loop-behind.all.items (c.in-Some.connections ∷ []))) gives;
      len = omega (arith, c.push_reserved.ensures.len, inv.len);
      room = omega (arith, c.push_reserved.ensures.capacity, inv.room);
    }

pub returns : goal.returns
returns c =
    let all : c.loop-behind.behind ≡ c.args.shares = omega (arith, c.loop-behind.auto.behind-end, c.loop-behind-test.false) in
    subst (λ (n : ℕ). GivesShares None c.args.self.now.given n [] (map facts_of c.loop-behind.all.items)) all c.loop-behind.invariant.gives
