use Rattle.std.proofs.Common.{rules, ◌≡◌, ◌<◌, [], ℕ, List, Option, length, vec_len, map, sym, ap, ◌∙◌, subst, arith}
use Rattle.std.specs.Prelude.{⊤, Result, OnErr, is_err}
use Rattle.std.specs.Global.{Vec}
use Rattle.std.proofs.lemmas.Result.{err_from_is_err_and}
use Rattle.std.proofs.lemmas.List.{length-map}
use Rattle.outside.specs.declared.fault.Failed.{Failed}
use Rattle.outside.specs.Faults.{Rose, faults_after}
use Rattle.connections.specs.Shares.{ShareFacts, ShareLogs, GivesShares}
use Rattle.connections.proofs.Shares.{gives_none}
use Rattle.locked_server.specs.Streams.{AreNewShares, KeepsListeners, ListenFacts, listen_facts, stream_facts}
use Rattle.locked_server.proofs.Heard.{gave_all, gave_none, kept_unheard, new_shares}
use Rattle.locked_server.proofs.listening.listen_all.Given as given
use Rattle.locked_server.proofs.listening.listen_all.Goals as goal

abbrev facts : (g : given.Over) → g.row.L-Port.Denot → ShareFacts
facts g = stream_facts g.L.Port.Connections

abbrev listens_at : (g : given.Over) → g.row.L.Denot → ListenFacts
listens_at g = listen_facts g.L.Listeners

-- there are no shares yet
none_new : (g : given.Over) (l : g.row.L.Denot) {items : List g.row.L-Port.Denot} → items ≡ [] → AreNewShares (g.L.Listeners.waits l) (g.L.Listeners.given l) (map (facts g) items)
none_new g l none = subst (λ (items : List _). AreNewShares (g.L.Listeners.waits l) (g.L.Listeners.given l) (map (facts g) items)) (sym none)
    (new_shares (g.L.Listeners.waits l) (g.L.Listeners.given l) 0 [] (gives_none (g.L.Listeners.waits l) (g.L.Listeners.given l) []))

pub returns-then-places-eq0-clause-new : goal.returns-then-places-eq0-clause-new
returns-then-places-eq0-clause-new g c = none_new g c.args.listeners.now c.requires.none

pub returns-then-places-eq0-clause-kept : goal.returns-then-places-eq0-clause-kept
returns-then-places-eq0-clause-kept g c =
    let all = listens_at g c.args.listeners.now in
    let none : 0 ≡ vec_len c.args.connections.now = omega (arith, ap length c.requires.none, c.args.connections.now.ok) in
    subst (λ (n : ℕ). KeepsListeners n c.args.places all all) none (kept_unheard c.args.places all)

-- what the place gave, there being no shares before
gave_on : {waits : Option ShareLogs} {first count : ℕ} (g : given.Over) {old : List g.row.L-Port.Denot} (new : List g.row.L-Port.Denot) → old ≡ []
    → GivesShares waits first count (map (facts g) old) (map (facts g) new) → GivesShares waits first count [] (map (facts g) new)
gave_on {waits} {first} {count} g new none gave = subst (λ (l : List _). GivesShares waits first count (map (facts g) l) (map (facts g) new)) none gave

-- so many are there then
many_of : {waits : Option ShareLogs} {first count : ℕ} (g : given.Over) (v : Vec g.row.L-Port.Denot) → GivesShares waits first count [] (map (facts g) v.items) → vec_len v ≡ count
many_of g v gave = omega (arith, gave.many, ap length gave.behind, length-map v.items (facts g), v.ok)

pub listen-requires-clause-there : goal.listen-requires-clause-there
listen-requires-clause-there g c = let some : 0 < c.args.places = search rules in c.requires.places some

pub returns-clause-new : goal.returns-clause-new
returns-clause-new g c = new_shares (g.L.Listeners.waits c.args.listeners.now) (g.L.Listeners.given c.args.listeners.now) c.args.places (map (facts g) c.listen.new.out.items)
    (gave_on g c.listen.new.out.items c.requires.none c.in_ok-listen.ensures.all)

-- all shares were had
pub returns-clause-all : goal.returns-clause-all
returns-clause-all g c = many_of g c.listen.new.out (gave_on g c.listen.new.out.items c.requires.none c.in_ok-listen.ensures.all)

pub returns-clause-few : goal.returns-clause-few
returns-clause-few g c = omega (arith, many_of g c.listen.new.out (gave_on g c.listen.new.out.items c.requires.none c.in_ok-listen.ensures.all))

pub returns-clause-steady : goal.returns-clause-steady
returns-clause-steady g c =
    c.listen.ensures.counted ∙ ap (λ (r : Result ⊤ Failed). faults_after (is_err r) (g.L.Listeners.faults c.args.listeners.now)) c.in_ok-listen.was

pub returns-clause-kept : goal.returns-clause-kept
returns-clause-kept g c =
    let gave = c.in_ok-listen.ensures in
    let before = listens_at g c.args.listeners.now in
    let after = listens_at g c.listen.new.self in
    let some : 0 < c.args.places = search rules in
    subst (λ (n : ℕ). KeepsListeners n c.args.places before after) (sym (many_of g c.listen.new.out (gave_on g c.listen.new.out.items c.requires.none gave.all)))
    (gave_all c.args.places before after some gave.heard gave.gives c.listen.ensures.never_fall gave.taken c.listen.ensures.places c.listen.ensures.most)

pub returns-in_err-listen-clause-new : goal.returns-in_err-listen-clause-new
returns-in_err-listen-clause-new g c = none_new g c.args.listeners.now (c.in_err-listen.ensures.none ∙ c.requires.none)

pub returns-in_err-listen-clause-kept : goal.returns-in_err-listen-clause-kept
returns-in_err-listen-clause-kept g c =
    let failed = c.in_err-listen.ensures in
    let before = listens_at g c.args.listeners.now in
    let after = listens_at g c.listen.new.self in
    let some : 0 < c.args.places = search rules in
    let none : 0 ≡ vec_len c.listen.new.out = omega (arith, ap length (failed.none ∙ c.requires.none), c.listen.new.out.ok) in
    subst (λ (n : ℕ). KeepsListeners n c.args.places before after) none
    (gave_none c.args.places before after some failed.unheard failed.ungiven c.listen.ensures.never_fall failed.unmoved c.listen.ensures.places c.listen.ensures.most)

pub returns-in_err-listen-clause-cause : goal.returns-in_err-listen-clause-cause
returns-in_err-listen-clause-cause g c =
    let is = err_from_is_err_and c.from_residual.result c.from_residual.ensures.1 in
    subst (λ (r : Result ⊤ Failed). OnErr r (Rose (g.L.Listeners.faults c.args.listeners.now) (g.L.Listeners.faults c.listen.new.self))) (sym is.1) c.in_err-listen.ensures.cause
