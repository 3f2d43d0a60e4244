-- Why connections were closed, and what those wait for that were not: on the page.
use Rattle.std.specs.Prelude.{◌==◌, ◌||◌, IfSome}
use Rattle.std.specs.List.{list_any}
use Rattle.std.proofs.Common.{◌≡◌, inl, inr, ℕ, Bool, true, false, List, [], ◌∷◌, ◌++◌, length, Option, Some, None, refl, sym, ap, ◌∙◌, arith}
use Rattle.std.proofs.lemmas.Bool.{eq-eqb}
use Rattle.partition_model.specs.declared.options.Options.{Options}
use Rattle.connections.specs.declared.schedule.Step.{Step}
use Rattle.connections.specs.declared.schedule.Step.TheVariants.{Opens, TurnsAway, Reports, Happens}
use Rattle.connections.specs.Connection.{Connection}
use Rattle.fronts.specs.Answered.{Answered}
use Rattle.connection_loop.specs.Moments.{IsAmong}
use Rattle.connection_loop.specs.Talk.{Talk}
use Rattle.connection_loop.specs.Closing as loop
use Rattle.connection_loop.specs.Traffic.{IsToCome}
use Rattle.memcached_page.specs.Course.{Deed}
use Rattle.memcached_requests.specs.Next.{next_of}
use Rattle.memcached_page.specs.Talk.{Talks, ClosesFor, broke, left, ended, RestsFor, shut, idle, reports}
use Rattle.client_stories.proofs.Talks.{OnPage, has_left_so, all_done_so}

pub if_then : {X : Type 0} {P Q : X → Type 0} (o : Option X) → IfSome o P → ((x : X) → P x → Q x) → IfSome o Q
if_then None is f = tt
if_then (Some x) is f = f x is

among : (c : ℕ) (earlier later : List ℕ) → list_any (λ d. d == c) (earlier ++ c ∷ later) ≡ true
among c [] later = ap (λ t. t || list_any (λ d. d == c) later) (eq-eqb c c refl)
among c (d ∷ earlier) later = ap (λ t. (d == c) || t) (among c earlier later) ∙ or_true (d == c)
  where
    or_true : (b : Bool) → (b || true) ≡ true
    or_true true = refl
    or_true false = refl

pub is_among : (c : ℕ) (all : List ℕ) → IsAmong c all → list_any (λ d. d == c) all ≡ true
is_among c all is = ap (list_any (λ d. d == c)) is.2 ∙ among c is.0 is.1

pub is_to_come : (c : ℕ) (later : List Step) → IsToCome c later → list_any (reports c) later ≡ true
is_to_come c [] is = absurd is
is_to_come c (Opens window bytes ∷ later) is = is_to_come c later is
is_to_come c (TurnsAway ∷ later) is = is_to_come c later is
is_to_come c (Reports d change ∷ later) (inl same) = ap (λ t. t || list_any (reports c) later) (eq-eqb d c same)
is_to_come c (Reports d change ∷ later) (inr is) = ap (λ t. (d == c) || t) (is_to_come c later is) ∙ or_true (d == c)
  where
    or_true : (b : Bool) → (b || true) ≡ true
    or_true true = refl
    or_true false = refl
is_to_come c (Happens d change ∷ later) (inl same) = ap (λ t. t || list_any (reports c) later) (eq-eqb d c same)
is_to_come c (Happens d change ∷ later) (inr is) = ap (λ t. (d == c) || t) (is_to_come c later is) ∙ or_true (d == c)
  where
    or_true : (b : Bool) → (b || true) ≡ true
    or_true true = refl
    or_true false = refl

module _ (options : Options) (base : ℕ) (received sent : List ℕ) (answers : List Answered) (deeds : List Deed) where
  pub closes_for : (connection : Connection) (talk : Talk options base received sent answers) → OnPage options base received sent deeds talk.said talk.rest
      → loop.Cause options base connection sent talk.said talk.rest
      → (page : Talks options.partitions received sent deeds) × ClosesFor options.partitions connection sent page.said page.rest
  closes_for connection talk on (loop.broke is) = (on.talk, broke is)
  closes_for connection talk on (loop.left all wants) = (on.talk, left (all ∙ sym on.due) (has_left_so options base talk.said on.talk.said on.alike wants))
  closes_for connection talk on (loop.ended all is read done) =
      let whole = all_done_so options base received talk.said talk.rest on.talk.said talk.spells on.alike done.0 in
      (on.talk, ended (all ∙ sym on.due) is read (whole.0, whole.1, ap next_of on.rest_is ∙ done.1))

  pub rests_for : (connection : Connection) (talk : Talk options base received sent answers) → OnPage options base received sent deeds talk.said talk.rest
      → loop.Waits options base connection sent talk.said talk.rest
      → (page : Talks options.partitions received sent deeds) × RestsFor options.partitions connection sent page.said page.rest
  rests_for connection talk on (loop.shut less is) = (on.talk, shut (let same = ap length on.due in omega (arith, less, same)) is)
  rests_for connection talk on (loop.idle all read on_going done) =
      let whole = all_done_so options base received talk.said talk.rest on.talk.said talk.spells on.alike done.0 in
      (on.talk, idle (all ∙ sym on.due) read on_going (whole.0, whole.1, ap next_of on.rest_is ∙ done.1))
