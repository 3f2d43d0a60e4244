use Rattle.std.proofs.Common.{◌≡◌, false, List, [], ◌∷◌, ◌++◌, map, ap, ◌∙◌, subst}
use Rattle.std.specs.Option.{option_to_list}
use Rattle.std.proofs.lemmas.List.{append_assoc}
use Rattle.connections.specs.Shares.{GivesShares, share_facts}
use Rattle.mica_tests.proofs.Only.{given_open}
use Rattle.mica_tests.proofs.port.both_shares.Goals as goal

pub returns-in-Some-Some : goal.returns-in-Some-Some
returns-in-Some-Some g c =
    let it = g.L.Port.Connections in
    let facts = share_facts it.share it.faults it.has_ended it.log in
    let gave = subst (λ (l : List _). GivesShares (g.L.Listeners.waits c.args.listeners.now) (g.L.Listeners.given c.args.listeners.now) 2 (map facts l) (map facts c.listen.new.out.items)) c.requires.none c.in-Ok.ensures.all in
    let first = c.in-Some-Some.first in
    let second = c.in-Some-Some.second in
    let one = c.pop-2.new.self.items in
    let two = c.pop.new.self.items in
    let last : c.listen.new.out.items ≡ two ++ second ∷ [] = c.pop.ensures.items ∙ ap (λ r. two ++ option_to_list r) c.in-Some-Some.is-0 in
    let before : two ≡ one ++ first ∷ [] = c.pop-2.ensures.items ∙ ap (λ r. one ++ option_to_list r) c.in-Some-Some.is-1 in
    let unended = given_open it.share it.faults it.has_ended it.log in
    (unended one first (second ∷ []) gave (last ∙ ap (λ l. l ++ second ∷ []) before ∙ append_assoc one (first ∷ []) (second ∷ [])), unended two second [] gave last)
