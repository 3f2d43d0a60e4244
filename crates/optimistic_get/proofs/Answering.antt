-- What a try's loads, its stamp and its two epochs tell together.
use Rattle.std.proofs.Common.{le_refl, ◌≡◌, ◌≢◌, ℕ, ◌+◌, ◌*◌, ◌%◌, ◌<◌, ◌≤◌, List, [], ◌∷◌, ◌++◌, Bool, false, refl, sym, ap, ◌∙◌, subst, arith, eq-eqb, Option, Some, None, inl, inr, if◌then◌else◌}
use Rattle.std.specs.Prelude.{Contains, IfSome}
use Rattle.mica_words.specs.declared.entry.TheConstants.{SLOTS}
use Rattle.mica_words.specs.Hash.{bucket_of}
use Rattle.mica_words.specs.Entry.{entry_offset}
use Rattle.mica_words.specs.Packing.{AreBytes}
use Rattle.partition_model.specs.declared.options.Mode.{Mode}
use Rattle.partition_model.specs.declared.options.Mode.TheVariants.{Cache, Store}
use Rattle.partition_model.specs.History.{History, IsPrefix, stamp_of, answer_of, writes_to_bucket}
use Rattle.partition_words.specs.declared.shape.Shape.{Shape}
use Rattle.partition_words.specs.declared.state.Phase.{Phase}
use Rattle.partition_words.specs.declared.state.Phase.TheVariants.{Idle}
use Rattle.partition_words.specs.declared.state.OwnerState.{OwnerState}
use Rattle.partition_words.specs.declared.reading.Plan.{Plan}
use Rattle.partition_words.specs.declared.reader.Try.{Try}
use Rattle.partition_words.specs.declared.reader.ReaderState.{ReaderState}
use Rattle.partition_words.specs.Shape.{options_of, IsMain}
use Rattle.partition_words.specs.OwnerState.{epoch_in, begun_in, marked_in}
use Rattle.partition_words.specs.Plan.{Rests, owner_found, FindsEpoch, FindsLastEpoch, FindsHistory}
use Rattle.partition_words.specs.LiveEntry.{IsLiveItem}
use Rattle.partition_words.specs.Failures.{failure}
use Rattle.partition_words.specs.ReaderState.{new_try, opened, with_cut, stamped, fails_after, closes, shut}
use Rattle.partition_words.specs.Spelt.{Loads, LinksTo, HasLinks, ShowsItem, IsNoEntryOf, by_tag as no_tag, by_stamp as no_stamp, by_item as no_item, SpellsAnswer}
use Rattle.partition_words.specs.ReaderKept.{TellsTry, Tells}
use Rattle.optimistic_get.specs.Loading.{most_loads, loads_of, loads_in, TryGoesOn}
use Rattle.optimistic_get.specs.Search.{IsWeighed, by_tag, by_item, by_best, IsBest, IsSlotSeen, Searches}
use Rattle.optimistic_get.specs.declared.getting.Got.{Got}
use Rattle.optimistic_get.proofs.Entries.{tagged}
use Rattle.optimistic_get.specs.Settled.{TriesAtRest}
use Rattle.optimistic_get.specs.Gets.{is_again, IsAnsweredAt, TriesMade, TryAnswers}

-- What the loads spell

live_later : (mode : Mode) (words stamp p q : ℕ) → p ≤ q → IsLiveItem mode words stamp p → IsLiveItem mode words stamp q
live_later Cache words stamp p q less live = omega arith
live_later Store words stamp p q less live = tt

module _ (shape : Shape) (loads : Loads) (stamp b : ℕ) (key behind : List ℕ) where
  -- the best item, where it is live
  spells_hit : (p : ℕ) (value : List ℕ) → LinksTo shape loads shape.spares b behind → IsBest shape loads (b ∷ behind) key (Some p) value
      → IsLiveItem shape.mode shape.words stamp p → SpellsAnswer shape loads stamp b key (Some value)
  spells_hit p value links best live = record {
    behind = behind;
    links = links;
    entry = best.0;
    of_key = best.1;
    live = (tagged shape.hashing best.0 key best.1.tag, subst (IsLiveItem shape.mode shape.words stamp) (sym best.2) live);
    item = subst (λ (z : ℕ). ShowsItem shape loads z key value) (sym best.2) best.3;
  }

  -- none, where no best item is live
  spells_miss : (best : Option ℕ) → ((p : ℕ) → best ≡ Some p → ¬ (IsLiveItem shape.mode shape.words stamp p)) → HasLinks shape loads shape.spares b behind
      → ((c slot : ℕ) → Contains (b ∷ behind) c → slot < SLOTS → IsSlotSeen shape loads key best c slot)
      → SpellsAnswer shape loads stamp b key None
  spells_miss best dead links slots = record {
    behind = behind;
    links = links;
    slots = λ c slot h l. elim (slots c slot h l) [ inl empty ↦ inl empty | inr at ↦ inr (at.0, at.1, no_entry at.0 at.2) ];
  }
    where
      no_entry : (entry : ℕ) → IsWeighed shape loads key best entry → IsNoEntryOf shape loads stamp key entry
      no_entry entry (by_tag n) = no_tag n
      no_entry entry (by_item shows) = no_item shows
      no_entry entry (by_best p is less) = no_stamp (λ live. dead p is (live_later shape.mode shape.words stamp (entry_offset entry) p less live.1))

-- each item of store mode is live
none_in_store : (mode : Mode) (words stamp : ℕ) (best : Option ℕ) → ((p : ℕ) → best ≡ Some p → ¬ (IsLiveItem mode words stamp p)) → mode ≡ Store → best ≡ None
none_in_store mode words stamp None dead store = refl
none_in_store mode words stamp (Some p) dead store = absurd (dead p refl (subst (λ (m : Mode). IsLiveItem m words stamp p) (sym store) tt))

-- The owner's state at rest

found_at_rest : (plan : Plan) (o : OwnerState) (r q : ReaderState) → Rests plan r.loads o → r.loads ≤ q.loads → owner_found plan q ≡ o
found_at_rest plan o r q rests later = rests.still (q.loads + 1) (omega arith)

even_at_rest : (plan : Plan) (o : OwnerState) (r : ReaderState) (b n : ℕ) → IsMain r.shape b → Rests plan r.loads o → FindsEpoch r b n plan → n % 2 ≡ 0
even_at_rest plan o r b n main rests finds =
    let found : OwnerState = owner_found plan r in
    let idle : found.phase ≡ Idle = ap (λ (z : OwnerState). z.phase) (found_at_rest plan o r r rests (omega arith)) ∙ rests.idle in
    let marked = ap (λ (z : Phase). marked_in z b) idle in
    let begun = ap (λ (z : Phase). begun_in z b) idle in
    let epochs = finds.kept.epochs b (subst (λ (z : Shape). IsMain z b) (sym finds.shape) main) in
    let epoch = finds.epoch in
    omega arith

-- The states of one try

le_of : {a b : ℕ} → a < b → a ≤ b
le_of less = omega arith

goes_to : (t : Try) (c : Option Try) → TryGoesOn (Some t) c → c ≡ Some (record t { loads = loads_of c })
goes_to t None g = absurd g
goes_to t (Some u) g = ap (λ (z : Try). Some z) g.0

module _ (r q : ReaderState) (b n : ℕ) (first : q ≡ opened b n r) (least : 2 * writes_to_bucket (options_of r.shape) r.done b ≤ n) where
  -- no plan finds an odd epoch at rest
  pub odd_rests : IsMain r.shape b → n % 2 ≡ 1 → (got : Got) (plan : Option Plan) → IfSome plan (FindsEpoch r b n) → IfSome plan (TriesAtRest r got q)
  odd_rests main odd got None finds = tt
  odd_rests main odd got (Some plan) finds = λ o rests. absurd (let even = even_at_rest plan o r b n main rests finds in omega (arith, odd, even))

  module _ (even : n % 2 ≡ 0) (key : List ℕ) (best : Option ℕ) (value : List ℕ) (q2 q3 q4 : ReaderState) (search : Searches q b key best value q2)
      (stamp last : ℕ) (cut : q3 ≡ stamped q3.seen q2) (more : IsPrefix q2.seen q3.seen) (stamped_is : stamp ≡ stamp_of (options_of q2.shape) q3.seen)
      (end : q4 ≡ shut last q3) (tells : Tells last q3) where
    now_try : q.current ≡ Some (new_try b n)
    now_try = ap (λ (z : ReaderState). z.current) first ∙ ap (λ (z : Bool). if z then Some (new_try b n) else None) (eq-eqb (n % 2) 0 even)

    abbrev tried : Try
    tried = record { bucket = b; first = n; loads = loads_in q2; at = Some (record { history = q3.seen; loads = loads_in q2 }) }

    cut_try : q3.current ≡ Some tried
    cut_try = ap (λ (z : ReaderState). z.current) cut
        ∙ ap (with_cut q3.seen) (goes_to (new_try b n) q2.current (subst (λ (c : Option Try). TryGoesOn c q2.current) now_try search.on.current))

    shape2 : q2.shape ≡ r.shape
    shape2 = ap (λ (z : ReaderState). z.shape) search.on.same ∙ ap (λ (z : ReaderState). z.shape) first

    shape3 : q3.shape ≡ r.shape
    shape3 = ap (λ (z : ReaderState). z.shape) cut ∙ shape2

    shape4 : q4.shape ≡ r.shape
    shape4 = ap (λ (z : ReaderState). z.shape) end ∙ shape3

    seen4 : q4.seen ≡ q3.seen
    seen4 = ap (λ (z : ReaderState). z.seen) end

    told : TellsTry r.shape last tried
    told = subst (λ (z : Shape). TellsTry z last tried) shape3 (subst (λ (c : Option Try). IfSome c (TellsTry q3.shape last)) cut_try tells)

    seen_before : q2.seen ≡ r.seen
    seen_before = ap (λ (z : ReaderState). z.seen) search.on.same ∙ ap (λ (z : ReaderState). z.seen) first

    fails_before : q3.fails ≡ r.fails
    fails_before =
        ap (λ (z : ReaderState). z.fails) cut
        ∙ (ap (λ (z : ReaderState). z.fails) search.on.same
        ∙ (ap (λ (z : ReaderState). z.fails) first ∙ ap (λ (z : Bool). if z then r.fails else (r.fails ++ failure b n n ∷ [])) (eq-eqb (n % 2) 0 even)))

    closed_before : q3.closed ≡ r.closed
    closed_before = ap (λ (z : ReaderState). z.closed) cut ∙ (ap (λ (z : ReaderState). z.closed) search.on.same ∙ ap (λ (z : ReaderState). z.closed) first)

    fails_now : q4.fails ≡ fails_after last (Some tried) r.fails
    fails_now = ap (λ (z : ReaderState). z.fails) end ∙ (λ i. fails_after last (cut_try i) (fails_before i))

    closed_now : q4.closed ≡ r.closed + closes last (Some tried)
    closed_now = ap (λ (z : ReaderState). z.closed) end ∙ (λ i. closed_before i + closes last (cut_try i))

    tried_now : q4.tried ≡ r.tried + 1
    tried_now =
        ap (λ (z : ReaderState). z.tried) end
        ∙ (ap (λ (z : ReaderState). z.tried) cut ∙ (ap (λ (z : ReaderState). z.tried) search.on.same ∙ ap (λ (z : ReaderState). z.tried) first))

    done_now : q4.done ≡ r.done
    done_now =
        ap (λ (z : ReaderState). z.done) end
        ∙ (ap (λ (z : ReaderState). z.done) cut ∙ (ap (λ (z : ReaderState). z.done) search.on.same ∙ ap (λ (z : ReaderState). z.done) first))

    met_now : q4.met ≡ r.met
    met_now =
        ap (λ (z : ReaderState). z.met) end
        ∙ (ap (λ (z : ReaderState). z.met) cut ∙ (ap (λ (z : ReaderState). z.met) search.on.same ∙ ap (λ (z : ReaderState). z.met) first))

    once : TriesMade r 1 q4
    once = record {
      same = λ i. record {
        shape = shape4 i;
        seen = q4.seen;
        done = done_now i;
        met = met_now i;
        loads = q4.loads;
        tried = tried_now i;
        fails = q4.fails;
        closed = q4.closed;
        current = q4.current;
      };
      seen = subst (IsPrefix r.seen) (sym seen4) (subst (λ (z : History). IsPrefix z q3.seen) seen_before more);
      ended = λ _. ap (λ (z : ReaderState). z.current) end;
    }

    loads_once : q4.loads ≤ r.loads + most_loads r.shape
    loads_once =
        let one = ap (λ (z : ReaderState). z.loads) first in
        let two = search.on.most in
        let three = ap (λ (z : ReaderState). z.loads) cut in
        let four = ap (λ (z : ReaderState). z.loads) end in
        let same = ap (λ (z : ReaderState). z.shape.spares) first in
        omega arith

    stamped_at : stamp ≡ stamp_of (options_of q4.shape) q4.seen
    stamped_at = stamped_is ∙ (λ i. stamp_of (options_of ((shape2 ∙ sym shape4) i)) (sym seen4 i))

    -- where the epoch has not moved, what the loads spell is the answer
    answered : last ≡ n → AreBytes key → bucket_of r.shape.hashing key r.shape.buckets ≡ b → (answer : Option (List ℕ)) → SpellsAnswer q2.shape (loads_in q2) stamp b key answer
        → IsAnsweredAt q4 key answer stamp
    answered still bytes here answer spell = record {
      stamped = stamped_at;
      answered = subst (λ (z : Shape × History). answer_of (options_of z.0) z.1 key ≡ answer) (λ i. (sym shape4 i, sym seen4 i))
          (told.spelt still key answer bytes here
          (subst (λ (z : Shape × ℕ). SpellsAnswer z.0 (loads_in q2) z.1 b key answer)
          (λ i. (shape2 i, (stamped_is ∙ (λ j. stamp_of (options_of (shape2 j)) q3.seen)) i)) spell));
    }

    same_fails : last ≡ n → q4.fails ≡ r.fails
    same_fails still = fails_now ∙ ap (λ (z : Bool). if z then r.fails else (r.fails ++ failure b n last ∷ [])) (eq-eqb last n still)

    one_closed : last ≡ n → q4.closed ≡ r.closed + 1
    one_closed still = closed_now ∙ ap (λ (z : Bool). r.closed + (if z then 1 else 0)) (eq-eqb last n still)

    live_then : (s : Shape) (p : ℕ) → s ≡ q4.shape → IsLiveItem s.mode s.words stamp p → IsLiveItem q2.shape.mode q2.shape.words stamp p
    live_then s p same = subst (λ (z : Shape). IsLiveItem z.mode z.words stamp p) (same ∙ (shape4 ∙ sym shape2))

    live_now : (s : Shape) (p : ℕ) → s ≡ q4.shape → IsLiveItem q2.shape.mode q2.shape.words stamp p → IsLiveItem s.mode s.words stamp p
    live_now s p same = subst (λ (z : Shape). IsLiveItem z.mode z.words stamp p) (sym (same ∙ (shape4 ∙ sym shape2)))

    pub hits : (s : Shape) (p : ℕ) → s ≡ q4.shape → best ≡ Some p → IsLiveItem s.mode s.words stamp p → last ≡ n → AreBytes key → bucket_of r.shape.hashing key r.shape.buckets ≡ b
        → TryAnswers r key (Some value) stamp q4
    hits s p same is live still bytes here = record {
      made = once;
      loads = loads_once;
      fails = same_fails still;
      closed = one_closed still;
      answered = answered still bytes here (Some value)
          (spells_hit q2.shape (loads_in q2) stamp b key search.behind p value search.links
          (subst (λ (z : Option ℕ). IsBest q2.shape (loads_in q2) (b ∷ search.behind) key z value) is search.found) (live_then s p same live));
    }

    pub misses : (s : Shape) → s ≡ q4.shape → ((p : ℕ) → best ≡ Some p → ¬ (IsLiveItem s.mode s.words stamp p)) → last ≡ n → AreBytes key → bucket_of r.shape.hashing key r.shape.buckets ≡ b
        → TryAnswers r key None stamp q4
    misses s same dead still bytes here =
        let no_item : (p : ℕ) → best ≡ Some p → ¬ (IsLiveItem q2.shape.mode q2.shape.words stamp p) = λ p is live. dead p is (live_now s p same live) in
        let whole = search.whole (none_in_store q2.shape.mode q2.shape.words stamp best no_item) in
        record {
          made = once;
          loads = loads_once;
          fails = same_fails still;
          closed = one_closed still;
          answered = answered still bytes here None (spells_miss q2.shape (loads_in q2) stamp b key search.behind best no_item whole.0 whole.1);
        }

    -- the loads of a plan at rest

    after_first : r.loads < q2.loads
    after_first = let one = ap (λ (z : ReaderState). z.loads) first in let more = search.on.least in omega arith

    after_cut : r.loads < q3.loads
    after_cut = let before = after_first in let one = ap (λ (z : ReaderState). z.loads) cut in omega arith

    after_all : r.loads < q4.loads
    after_all = let before = after_cut in let one = ap (λ (z : ReaderState). z.loads) end in omega arith

    pub sees_rest : (got : Got) → is_again got ≡ false → (plan : Option Plan) → IfSome plan (FindsHistory q2 q3.seen) → IfSome plan (TriesAtRest r got q4)
    sees_rest got answers None finds = tt
    sees_rest got answers (Some plan) finds = λ o rests. record {
      answered = answers;
      later = after_all;
      seen = seen4 ∙ (finds ∙ ap (λ (z : OwnerState). z.history) (found_at_rest plan o r q2 rests (le_of after_first)));
    }

    pub moved_rests : last ≢ n → (got : Got) (plan : Option Plan) → IfSome plan (FindsEpoch r b n) → IfSome plan (FindsLastEpoch q3 last) → IfSome plan (TriesAtRest r got q4)
    moved_rests other got None finds ends = tt
    moved_rests other got (Some plan) finds ends = λ o rests. absurd (other (
        subst (λ (c : Option Try). IfSome c (λ t. last ≡ epoch_in (owner_found plan q3) t.bucket)) cut_try ends
        ∙ ap (λ (z : OwnerState). epoch_in z b) (found_at_rest plan o r q3 rests (le_of after_cut) ∙ sym (found_at_rest plan o r r rests (le_refl r.loads)))
        ∙ sym finds.epoch
        ))

-- the main buckets stay

pub main_opened : (r q : ReaderState) (b c n : ℕ) → q ≡ opened c n r → IsMain r.shape b → IsMain q.shape b
main_opened r q b c n is = subst (λ (z : Shape). IsMain z b) (sym (ap (λ (z : ReaderState). z.shape) is))

pub main_stamped : (r q : ReaderState) (b : ℕ) (history : History) → q ≡ stamped history r → IsMain r.shape b → IsMain q.shape b
main_stamped r q b history is = subst (λ (z : Shape). IsMain z b) (sym (ap (λ (z : ReaderState). z.shape) is))
