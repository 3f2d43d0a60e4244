-- What a feeder has sent: the numbers of each partition's lines so far, and then the ends.
use Rattle.std.proofs.Common.{◌≡◌, ℕ, ◌+◌, ◌<◌, ◌==◌, inl, inr, take, get_or, List, [], ◌∷◌, ◌++◌, length, map, filter, Some, refl, sym, ap, ◌∙◌, subst, cond, true, false, not, slice_get, slice_set, eq-eqb, ne_eqb, append-nil, arith}
use Rattle.std.specs.Prelude.{◌&&◌}
use Rattle.std.specs.List.{list_any}
use Rattle.std.proofs.lemmas.List.{take_more, length-take-le, length-set}
use Rattle.std.proofs.lemmas.Option.{slice_get_within, slice_get_read, same_Some}
use Rattle.list_laws.proofs.UpTo.{UpTo, up_one}
use Rattle.list_laws.proofs.Places.{element_at, set_cases}
use Rattle.partition_model.specs.declared.options.Options.{Options}
use Rattle.mica_trace.specs.declared.line.TraceLine.{TraceLine}
use Rattle.mica_trace.specs.TraceGrammar.{is_sync}
use Rattle.mica_trace.specs.Rounds.{partition_in, is_in_partition}
use Rattle.mica_trace.specs.LineReply.{is_for}
use Rattle.exclusive_replay.specs.declared.queue.Sent.{Sent}
use Rattle.exclusive_replay.specs.declared.queue.Sent.TheVariants as sent
use Rattle.exclusive_replay.specs.declared.feeder.Feeder.{Feeder}
use Rattle.exclusive_replay.specs.Sent.{is_end, MayFollow}
use Rattle.exclusive_replay.specs.LineEnds.{LineBox, line_box}
use Rattle.exclusive_replay.specs.Workers.{numbered, IsReadyFeeder, HasFed}

-- the numbers of a partition's lines, as they are sent
abbrev pub sent_from : Options → ℕ → ℕ → List TraceLine → List Sent
sent_from options p n lines = map (λ (pair : ℕ × TraceLine). sent.Line pair.0) (filter (λ (pair : ℕ × TraceLine). is_for options p pair.1) (numbered n lines))

sent_more : (options : Options) (p n : ℕ) (lines : List TraceLine) (line : TraceLine) (m : ℕ) → m ≡ n + length lines
    → sent_from options p n (lines ++ line ∷ []) ≡ sent_from options p n lines ++ cond (is_for options p line) (sent.Line m ∷ []) []
sent_more options p n [] line m is =
    let same : n ≡ m = omega arith in
    elim (is_for options p line) as (λ b. map (λ (pair : ℕ × TraceLine). sent.Line pair.0) (cond b ((n, line) ∷ []) []) ≡ cond b (sent.Line m ∷ []) []) [
      | true ↦ ap (λ (k : ℕ). sent.Line k ∷ []) same
      | false ↦ refl
    ]
sent_more options p n (x ∷ lines) line m is =
    let more = sent_more options p (n + 1) lines line m (omega arith) in
    elim (is_for options p x) as (λ b. map (λ (pair : ℕ × TraceLine). sent.Line pair.0) (cond b ((n, x) ∷ filter (λ (pair : ℕ × TraceLine). is_for options p pair.1) (numbered (n + 1) (lines ++ line ∷ []))) (filter (λ (pair : ℕ × TraceLine). is_for options p pair.1) (numbered (n + 1) (lines ++ line ∷ []))))
    ≡ map (λ (pair : ℕ × TraceLine). sent.Line pair.0) (cond b ((n, x) ∷ filter (λ (pair : ℕ × TraceLine). is_for options p pair.1) (numbered (n + 1) lines)) (filter (λ (pair : ℕ × TraceLine). is_for options p pair.1) (numbered (n + 1) lines))) ++ cond (is_for options p line) (sent.Line m ∷ []) []) [
      | true ↦ ap (λ (l : List Sent). sent.Line n ∷ l) more
      | false ↦ more
    ]

lines_alone : (pairs : List (ℕ × TraceLine)) → list_any is_end (map (λ (pair : ℕ × TraceLine). sent.Line pair.0) pairs) ≡ false
lines_alone [] = refl
lines_alone (x ∷ pairs) = lines_alone pairs

-- the first n lines were sent
pub record IsFeeding (options : Options) (trace : List TraceLine) (n : ℕ) (olds news : List LineBox) : Type 0 where
  pub many : length news ≡ length olds
  pub each : (p : ℕ) (old new : LineBox) → slice_get olds p ≡ Some old → slice_get news p ≡ Some new → new ≡ line_box old.queue old.lines (sent_from options p 0 (take n trace))

-- a sender has sent its end
abbrev pub HasEnded : LineBox → LineBox → Type 0
HasEnded old new = new ≡ line_box old.queue old.lines (old.list ++ sent.End ∷ [])

module _ (options : Options) (trace : List TraceLine) (f : Feeder) (ready : IsReadyFeeder options trace f) where
  pub feed_none : IsFeeding options trace 0 f.senders.items f.senders.items
  feed_none = record {
    many = refl;
    each = λ p old new is_old is_new.
        let same : new ≡ old = same_Some _ _ (sym is_new ∙ is_old) in
        same ∙ ap (λ (l : List Sent). line_box old.queue old.lines l) (ready.fresh p old is_old).0;
  }

  module _ (n : ℕ) (news : List LineBox) (so_far : IsFeeding options trace n f.senders.items news) (line : TraceLine) (less : n < length trace) (is : line ≡ get_or trace n line) where
    next : (p : ℕ) → sent_from options p 0 (take (n + 1) trace) ≡ sent_from options p 0 (take n trace) ++ cond (is_for options p line) (sent.Line n ∷ []) []
    next p =
        let long = length-take-le n trace (omega arith) in
        ap (λ (l : List TraceLine). sent_from options p 0 l) (take_more trace n line less ∙ ap (λ (l : TraceLine). take n trace ++ l ∷ []) (sym is))
        ∙ sent_more options p 0 (take n trace) line n (omega arith)

    pub feed_sync : is_sync line ≡ true → IsFeeding options trace (n + 1) f.senders.items news
    feed_sync sync = record {
      many = so_far.many;
      each = λ p old new is_old is_new.
          let none : is_for options p line ≡ false = ap (λ b. not b && is_in_partition options p line) sync in
          let pushed : sent_from options p 0 (take (n + 1) trace) ≡ sent_from options p 0 (take n trace)
          = next p ∙ ap (λ b. sent_from options p 0 (take n trace) ++ cond b (sent.Line n ∷ []) []) none ∙ append-nil (sent_from options p 0 (take n trace)) in
          so_far.each p old new is_old is_new ∙ ap (λ (l : List Sent). line_box old.queue old.lines l) (sym pushed);
    }

    module _ (write : is_sync line ≡ false) (queue : ℕ) (own : queue ≡ partition_in options line) (now : LineBox) (at : slice_get news queue ≡ Some now) where
      was : (old : LineBox) × (slice_get f.senders.items queue ≡ Some old) × (now ≡ line_box old.queue old.lines (sent_from options queue 0 (take n trace)))
      was =
          let many = so_far.many in
          let within = slice_get_within news queue now at in
          let old = element_at f.senders.items queue (omega arith) in
          (old.0, old.1, so_far.each queue old.0 now old.1 at)

      pub may_follow : MayFollow now.lines now.list (sent.Line n)
      may_follow =
          let it = was in
          subst (λ (o : LineBox). MayFollow o.lines o.list (sent.Line n)) (sym it.2) (record {
            no_end = lines_alone (filter (λ (pair : ℕ × TraceLine). is_for options queue pair.1) (numbered 0 (take n trace)));
            low = let many = (ready.fresh queue it.0 it.1).1 in omega arith;
          })

      here : (p : ℕ) → is_for options p line ≡ (queue == p)
      here p = ap (λ b. not b && is_in_partition options p line) write ∙ ap (λ (k : ℕ). k == p) (sym own)

      pub feed_one : IsFeeding options trace (n + 1) f.senders.items (slice_set news queue (line_box now.queue now.lines (now.list ++ sent.Line n ∷ [])))
      feed_one = record {
        many = length-set news queue _ ∙ so_far.many;
        each = λ p old new is_old is_new.
            elim (set_cases news queue (line_box now.queue now.lines (now.list ++ sent.Line n ∷ [])) p new is_new)
            as (λ _. new ≡ line_box old.queue old.lines (sent_from options p 0 (take (n + 1) trace))) [
              | inl same ↦
                  let is_old_here : slice_get f.senders.items queue ≡ Some old = subst (λ (k : ℕ). slice_get f.senders.items k ≡ Some old) (sym same.0) is_old in
                  let before = so_far.each queue old now is_old_here at in
                  let pushed : sent_from options p 0 (take (n + 1) trace) ≡ sent_from options queue 0 (take n trace) ++ sent.Line n ∷ []
                  = next p ∙ ap (λ b. sent_from options p 0 (take n trace) ++ cond b (sent.Line n ∷ []) []) (here p ∙ eq-eqb queue p same.0)
                  ∙ ap (λ (k : ℕ). sent_from options k 0 (take n trace) ++ sent.Line n ∷ []) (sym same.0) in
                  sym same.1 ∙ ap (λ (o : LineBox). line_box o.queue o.lines (o.list ++ sent.Line n ∷ [])) before ∙ ap (λ (l : List Sent). line_box old.queue old.lines l) (sym pushed)
              | inr other ↦
                  let pushed : sent_from options p 0 (take (n + 1) trace) ≡ sent_from options p 0 (take n trace)
                  = next p ∙ ap (λ b. sent_from options p 0 (take n trace) ++ cond b (sent.Line n ∷ []) []) (here p ∙ ne_eqb queue p other.0) ∙ append-nil (sent_from options p 0 (take n trace)) in
                  so_far.each p old new is_old other.1 ∙ ap (λ (l : List Sent). line_box old.queue old.lines l) (sym pushed)
            ];
      }

  -- the lines were all sent, and now the ends
  module _ (n : ℕ) (mids : List LineBox) (so_far : IsFeeding options trace n f.senders.items mids) where
    module _ (items : List LineBox) (p : ℕ) (now : LineBox) (ends : UpTo HasEnded p mids items) (less : p < length items) (is : now ≡ get_or items p now) where
      at : slice_get items p ≡ Some now
      at = slice_get_read items (length items) p now refl less is

      sent_by : (old : LineBox) × (now ≡ line_box old.queue old.lines (sent_from options p 0 (take n trace)))
      sent_by =
          let many = ends.many in
          let all = so_far.many in
          let mid = element_at mids p (omega arith) in
          let old = element_at f.senders.items p (omega arith) in
          let same : now ≡ mid.0 = ends.later p mid.0 now (omega arith) mid.1 at in
          (old.0, same ∙ so_far.each p old.0 mid.0 old.1 mid.1)

      pub may_end : MayFollow now.lines now.list sent.End
      may_end =
          let it = sent_by in
          subst (λ (o : LineBox). MayFollow o.lines o.list sent.End) (sym it.1) (record {
            no_end = lines_alone (filter (λ (pair : ℕ × TraceLine). is_for options p pair.1) (numbered 0 (take n trace)));
            low = tt;
          })

      pub ends_one : UpTo HasEnded (p + 1) mids (slice_set items p (line_box now.queue now.lines (now.list ++ sent.End ∷ [])))
      ends_one = up_one HasEnded p mids items now _ ends at refl

    pub has_fed : (last : List LineBox) (q : ℕ) → length last ≡ q → take n trace ≡ trace → UpTo HasEnded q mids last → HasFed options trace f.senders.items last
    has_fed last q count all ends = record {
      many = ends.many ∙ so_far.many;
      each = λ p old new is_old is_new.
          let less = slice_get_within last p new is_new in
          let many = ends.many in
          let mid = element_at mids p (omega arith) in
          let lines = so_far.each p old mid.0 is_old mid.1 in
          ends.done p mid.0 new (omega arith) mid.1 is_new ∙ ap (λ (o : LineBox). line_box o.queue o.lines (o.list ++ sent.End ∷ [])) lines
          ∙ ap (λ (l : List TraceLine). line_box old.queue old.lines (sent_from options p 0 l ++ sent.End ∷ [])) all;
    }
