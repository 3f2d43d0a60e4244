-- What one answer came to: its deeds, and which of them a client asked for.
use Rattle.std.specs.Prelude.{◌==◌, ◌&&◌, is_some, nat_lt, if◌then◌else◌}
use Rattle.std.specs.List.{AllByRecursion}
use Rattle.std.proofs.Common.{◌≡◌, ◌+◌, ℕ, Bool, true, false, cond, List, [], ◌∷◌, ◌++◌, map, filter, Option, Some, None, refl, sym, ap, ◌∙◌}
use Rattle.std.proofs.lemmas.Bool.{true≢false}
use Rattle.mica_words.specs.Hash.{partition_of}
use Rattle.partition_model.specs.declared.options.Options.{Options}
use Rattle.partition_model.specs.Write.{is_accepted}
use Rattle.partition_model.specs.Run.{RunStep}
use Rattle.memcached_commands.specs.declared.asks.Asked.{Asked}
use Rattle.fronts.specs.declared.flushes.Flush.{Flush}
use Rattle.fronts.specs.Answered.{Answered, wrote, got, changed, kept, partition_in}
use Rattle.fronts.specs.Flushes.{is_flush, flush_in}
use Rattle.fronts.specs.Looks.{Look}
use Rattle.command_answers.specs.Seconds.{second_in, second_asked}
use Rattle.command_answers.specs.AskAnswers.{AnswersAsk, order_of, said_of}
use Rattle.memcached_decisions.specs.Numbered.{becoming_by, numbered}
use Rattle.memcached_page.specs.Course.{Deed, carried, flushed, went, Done}
use Rattle.memcached_page.specs.Page.{part_of, is_asked}
use Rattle.memcached_page.specs.Talk.{second_of}
use Rattle.part_courses.specs.Courses.{Purpose, asks, flushes, sweeps, Served, IsFor, goes_first, deeds_of, done_by}
use Rattle.part_courses.proofs.Courses.{own_key}
use Rattle.client_stories.proofs.Marks.{Mark, is_wanted}
use Rattle.client_stories.proofs.Talks.{IsDeedOf}

and_then : (p q : Bool) (o : Option ℕ) → cond (p && q) o None ≡ cond p (cond q o None) None
and_then true q o = refl
and_then false q o = refl

module _ (options : Options) (base : ℕ) where
  abbrev pub part : List ℕ → ℕ
  part key = partition_of options.hashing key options.partitions

  pub record IsMark (m : Mark) : Type 0 where
    pub for : IsFor options base (partition_in options m.answered) m.purpose m.answered
    pub wanted : is_some m.client ≡ is_wanted m.purpose

  abbrev pub served : ℕ → Mark → Served
  served share m = record { share = share; client = m.client; purpose = m.purpose; answered = m.answered }

  -- a deed of it stands in its part, and was done at its second
  pub record IsOwnDeed (share : ℕ) (a : Answered) (done : Done) : Type 0 where
    pub own : done.share ≡ share
    pub in_part : part_of part done.deed ≡ partition_in options a
    pub asked : is_some done.client ≡ is_asked done.deed
    pub second : second_of done.deed ≡ second_in options a

  -- the one that its client asked for; none, where nobody did
  abbrev pub AskedIn : Option ℕ → Mark → List Done → Type 0
  AskedIn None m dones = dones ≡ []
  AskedIn (Some c) m dones = (done : Done) × (dones ≡ done ∷ []) × (done.client ≡ Some c) × IsDeedOf options base m.answered m.purpose done.deed × (second_of done.deed ≡ second_in options m.answered)

  -- a deed that a client asked for, by its mark
  abbrev pub IsAskedDeed : Mark → Done → Type 0
  IsAskedDeed m done = (done.client ≡ m.client) × IsDeedOf options base m.answered m.purpose done.deed × (second_of done.deed ≡ second_in options m.answered)

  pub record IsPiece (share : ℕ) (m : Mark) (dones : List Done) : Type 0 where
    pub each : AllByRecursion (IsOwnDeed share m.answered) dones
    pub asked : AskedIn m.client m (filter (λ done. is_some done.client) dones)

  -- the key of what is answered to an ask
  ask_key : (asked : Asked) (step : RunStep) (look : Look) → AnswersAsk base asked (changed step look) → step.write.key ≡ asked.key
  ask_key asked step look is = own_key asked.key look.value (becoming_by (order_of base asked) look.when look.value) step.write is

  flush_second : (p number : ℕ) (step : RunStep) (flush : Flush) (accepted : Bool) → is_flush options.hashing options.buckets step.write ≡ true → flush_in step.write.key ≡ flush → partition_of options.hashing step.write.key options.partitions ≡ p
      → second_of (flushed p number flush accepted) ≡ second_in options (wrote step)
  flush_second p number step flush accepted is own in_p =
      (λ i. if ((sym in_p i) == 0) && nat_lt 0 (sym own i).due then Some (sym own i).asked else None)
      ∙ and_then (partition_of options.hashing step.write.key options.partitions == 0) (nat_lt 0 (flush_in step.write.key).due) (Some (flush_in step.write.key).asked)
      ∙ ap (λ b. if b && (partition_of options.hashing step.write.key options.partitions == 0) then second_asked (flush_in step.write.key) else None) (sym is)

  module _ (p written share : ℕ) where
    abbrev Came : Mark → Type 0
    Came m = IsPiece share m (map (done_by (served share m)) (deeds_of base p written m.purpose m.answered))

    abbrev mark_of : Option ℕ → Purpose → Answered → Mark
    mark_of client purpose a = record { answered = a; client = client; purpose = purpose }

    changed_came : (asked : Asked) (step : RunStep) (look : Look) (c : ℕ) → step.write.key ≡ asked.key → Came (mark_of (Some c) (asks asked) (changed step look))
    changed_came asked step look c key = by (goes_first base step look)
      where
        m : Mark
        m = mark_of (Some c) (asks asked) (changed step look)

        here : part asked.key ≡ partition_in options (changed step look)
        here = ap part (sym key)

        first : Deed
        first = went look.when.second asked.key

        last : Deed
        last = carried look.when.second (numbered base written) asked (said_of base asked (changed step look))

        by : (b : Bool) → IsPiece share m (map (done_by (served share m)) (cond b (first ∷ []) [] ++ last ∷ []))
        by true = record {
          each = (record { own = refl; in_part = here; asked = refl; second = refl }, (record { own = refl; in_part = here; asked = refl; second = refl }, tt));
          asked = (done_by (served share m) last, refl, refl, (refl, refl, refl), refl);
        }
        by false = record {
          each = (record { own = refl; in_part = here; asked = refl; second = refl }, tt);
          asked = (done_by (served share m) last, refl, refl, (refl, refl, refl), refl);
        }

    swept_came : (step : RunStep) (look : Look) → Came (mark_of None sweeps (changed step look))
    swept_came step look = by (is_accepted step.outcome)
      where
        m : Mark
        m = mark_of None sweeps (changed step look)

        by : (b : Bool) → IsPiece share m (map (done_by (served share m)) (cond b (went look.when.second step.write.key ∷ []) []))
        by true = record { each = (record { own = refl; in_part = refl; asked = refl; second = refl }, tt); asked = refl }
        by false = record { each = tt; asked = refl }

    pub piece : (client : Option ℕ) (purpose : Purpose) (a : Answered) → IsMark (mark_of client purpose a) → partition_in options a ≡ p → Came (mark_of client purpose a)
    piece None (asks asked) a is in_p = absurd (true≢false (sym is.wanted))
    piece None (flushes flush) a is in_p = absurd (true≢false (sym is.wanted))
    piece (Some c) sweeps a is in_p = absurd (true≢false is.wanted)
    piece (Some c) (asks asked) (wrote step) is in_p = absurd is.for.1
    piece (Some c) (asks asked) (got key stamp value) is in_p = absurd is.for.1
    piece (Some c) (asks asked) (changed step look) is in_p = changed_came asked step look c (ask_key asked step look is.for.1)
    piece (Some c) (asks asked) (kept key stamp look) is in_p = record {
      each = (record { own = refl; in_part = ap part (sym is.for.1.0); asked = refl; second = refl }, tt);
      asked = (_, refl, refl, (refl, refl, refl), refl);
    }
    piece (Some c) (flushes flush) (wrote step) is in_p = record {
      each = (record { own = refl; in_part = sym in_p; asked = refl; second = at }, tt);
      asked = (_, refl, refl, (refl, sym in_p, refl), at);
    }
      where
        at : second_of (flushed p (numbered base (written + 1)) flush (is_accepted step.outcome)) ≡ second_in options (wrote step)
        at = flush_second p (numbered base (written + 1)) step flush (is_accepted step.outcome) is.for.0 is.for.1 in_p
    piece (Some c) (flushes flush) (got key stamp value) is in_p = absurd is.for
    piece (Some c) (flushes flush) (changed step look) is in_p = absurd is.for
    piece (Some c) (flushes flush) (kept key stamp look) is in_p = absurd is.for
    piece None sweeps (wrote step) is in_p = record { each = tt; asked = refl }
    piece None sweeps (got key stamp value) is in_p = record { each = tt; asked = refl }
    piece None sweeps (changed step look) is in_p = swept_came step look
    piece None sweeps (kept key stamp look) is in_p = record { each = tt; asked = refl }
