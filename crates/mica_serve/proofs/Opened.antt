-- What the loops over the owners and the fronts of a server have made so far.
use Rattle.std.proofs.Common.{◌≡◌, ℕ, suc, ◌+◌, ◌<◌, inl, inr, List, [], ◌∷◌, ◌++◌, length, map, Some, refl, sym, ap, ◌∙◌, subst, slice_get, slice_set, arith, append_assoc, All, Vec, Global}
use Rattle.std.proofs.lemmas.List.{length-map, map_push, map-set}
use Rattle.std.proofs.lemmas.Option.{slice_get_within, slice_get-map, same_Some}
use Rattle.std.specs.Prelude.{option_map}
use Rattle.list_laws.proofs.Places.{at_seam}
use Rattle.partition_model.specs.declared.options.Options.{Options}
use Rattle.partition_words.specs.declared.state.OwnerState.{OwnerState}
use Rattle.partition_words.specs.Shape.{shape_of}
use Rattle.partition_words.specs.OwnerState.{as_made}
use Rattle.partition_words.specs.Joins.{lent}
use Rattle.owner_queue.specs.JobEnds.{Outbox, outbox, Inbox, inbox}
use Rattle.owner_queue.specs.AckEnds.{AckBox, ack_box}
use Rattle.queue_front.specs.declared.queue_front.FrontPart.{FrontPart}
use Rattle.queue_front.specs.QueueFront.{QueueView, IsNewPart, queue_view}
use Rattle.mica_serve.specs.Hands.{OwnerEnd, IsLentBy, LendsPart, AreSendersOf, LendsEach, AreLent, LendsOneMore}
use Rattle.served.proofs.Binding.{at_snoc}
use Rattle.mica_serve.proofs.LentParts.{LendsTo, lends_none, lends_one, hands_more, new_parts}

abbrev pub rows : List (Vec FrontPart Global) → List (List FrontPart)
rows hands = map (λ (own : Vec FrontPart Global). own.items) hands

abbrev pub parts_of : List QueueView → List (List FrontPart)
parts_of made = map (λ (front : QueueView). front.parts) made

-- a fresh queue's senders are those of its owner
pub senders_of : (owner : OwnerEnd) (n most : ℕ) (senders : List Outbox) → owner.jobs ≡ inbox owner.jobs.queue n most [] → length senders ≡ n
    → ((p : ℕ) → p < n → slice_get senders p ≡ Some (outbox owner.jobs.queue p most [])) → AreSendersOf owner senders
senders_of owner n most senders fresh many each f sender at =
    same_Some _ _ (sym at ∙ each f (omega (arith, slice_get_within senders f sender at, many))) ∙ ap (λ m. outbox owner.jobs.queue f m []) (sym (ap (λ (b : Inbox). b.jobs) fresh))

-- the senders that are left, from a place on
abbrev AreSendersFrom : OwnerEnd → ℕ → List Outbox → Type 0
AreSendersFrom owner at left = (p : ℕ) (sender : Outbox) → slice_get left p ≡ Some sender → sender ≡ outbox owner.jobs.queue (at + p) owner.jobs.jobs []

-- the owner lent the first k fronts a part, and these senders are left
pub record LendsSome (first now : OwnerEnd) (k : ℕ) (left : List Outbox) (before after : List (List FrontPart)) : Type 0 where
  pub same : now ≡ record first { acks = now.acks }
  pub left_are : AreSendersFrom first k left
  pub left_many : length left + k ≡ length before
  pub lends : LendsTo first.jobs.jobs first.state first.table first.jobs k now.acks before after

pub lends_first : (first : OwnerEnd) (senders left : List Outbox) (before : List (List FrontPart)) → first.acks ≡ [] → AreSendersOf first senders → length senders ≡ length before
    → left ≡ senders → LendsSome first first 0 left before before
lends_first first senders left before none are many is = record {
  same = refl;
  left_are = λ p sender at.
      are p sender (ap (λ (l : List Outbox). slice_get l p) (sym is) ∙ at) ∙ ap (λ n. outbox first.jobs.queue n first.jobs.jobs []) (omega arith);
  left_many = omega (arith, ap length is, many);
  lends = subst (λ (l : List AckBox). LendsTo first.jobs.jobs first.state first.table first.jobs 0 l before before) (sym none)
      (lends_none first.jobs.jobs first.state first.table first.jobs before);
}

-- the next front was lent a part
pub lends_next : (first now next : OwnerEnd) (k : ℕ) (left rest : List Outbox) (before : List (List FrontPart)) (hands after : List (Vec FrontPart Global)) (sender : Outbox) (part : FrontPart)
    (hand pushed : Vec FrontPart Global) → LendsSome first now k left before (rows hands) → left ≡ sender ∷ rest → LendsPart sender now next part → slice_get hands k ≡ Some hand
    → pushed.items ≡ hand.items ++ part ∷ [] → after ≡ slice_set hands k pushed → LendsSome first next (k + 1) rest before (rows after)
lends_next first now next k left rest before hands after sender part hand pushed so_far head lends at more set =
    let items = λ (own : Vec FrontPart Global). own.items in
    let here : slice_get (rows hands) k ≡ Some hand.items = slice_get-map items hands k ∙ ap (option_map items) at in
    let all : rows after ≡ slice_set (rows hands) k (hand.items ++ part ∷ []) = ap rows set ∙ map-set items hands k pushed ∙ ap (slice_set (rows hands) k) more in
    let state = ap (λ (o : OwnerEnd). o.state) so_far.same in
    let table = ap (λ (o : OwnerEnd). o.table) so_far.same in
    let jobs = ap (λ (o : OwnerEnd). o.jobs) so_far.same in
    let is_sender : sender ≡ outbox first.jobs.queue k first.jobs.jobs [] =
    so_far.left_are 0 sender (ap (λ (l : List Outbox). slice_get l 0) head) ∙ ap (λ n. outbox first.jobs.queue n first.jobs.jobs []) (omega arith) in
    record {
      same = λ i. record {
        state = (ap (λ (o : OwnerEnd). o.state) lends.same ∙ state) i;
        table = (ap (λ (o : OwnerEnd). o.table) lends.same ∙ table) i;
        jobs = (ap (λ (o : OwnerEnd). o.jobs) lends.same ∙ jobs) i;
        acks = next.acks;
      };
      left_are = λ p other is.
          so_far.left_are (suc p) other (ap (λ (l : List Outbox). slice_get l (suc p)) head ∙ is) ∙ ap (λ n. outbox first.jobs.queue n first.jobs.jobs []) (omega arith);
      left_many = omega (arith, ap length head, so_far.left_many);
      lends = subst (λ (l : List (List FrontPart)). LendsTo first.jobs.jobs first.state first.table first.jobs (k + 1) next.acks before l) (sym all)
          (subst (λ (l : List AckBox). LendsTo first.jobs.jobs first.state first.table first.jobs (k + 1) l before (slice_set (rows hands) k (hand.items ++ part ∷ [])))
          (sym (ap (λ (o : OwnerEnd). o.acks) lends.same))
          (lends_one first.jobs.jobs first.state first.table first.jobs k now.acks before (rows hands) hand.items part so_far.lends here
          (lends.seat ∙ ap lent state) (lends.table ∙ table) lends.unanswered (lends.jobs ∙ is_sender)
          (lends.acks ∙ (λ i. ack_box part.acks.queue (table i) (ap (λ (s : OwnerState). s.shape) state i) []))));
    }

pub lends_last : (first now : OwnerEnd) (k : ℕ) (left : List Outbox) (before after : List (List FrontPart)) → length left ≡ 0 → LendsSome first now k left before after → LendsEach first now before after
lends_last first now k left before after none so_far =
    let l = so_far.lends in
    let whole : k ≡ length before = omega (arith, none, so_far.left_many) in
    subst (λ (o : OwnerEnd). LendsEach first o before after) (sym so_far.same) (record {
      many = l.many;
      same = refl;
      acks = l.acks_many ∙ whole;
      unsent = l.unsent;
      each = λ f was own was_at own_at. l.lent f was own (let low = slice_get_within before f was was_at in omega arith) was_at own_at;
    })

pub lends_more : (options : Options) (most : ℕ) (old new : OwnerEnd) (before after : List (List FrontPart)) → old.state ≡ as_made (shape_of options)
    → old.jobs ≡ inbox old.jobs.queue (length before) most [] → LendsEach old new before after → LendsOneMore options most new before after
lends_more options most old new before after made fresh lends =
    let jobs = ap (λ (o : OwnerEnd). o.jobs) lends.same in
    let limit : new.jobs.jobs ≡ most = ap (λ (b : Inbox). b.jobs) (jobs ∙ fresh) in
    record {
      many = lends.many;
      made = record {
        state = ap (λ (o : OwnerEnd). o.state) lends.same ∙ made;
        jobs = jobs ∙ fresh ∙ ap (λ (b : Inbox). inbox b.queue (length before) most []) (sym jobs);
        acks = lends.acks;
        unsent = lends.unsent;
      };
      each = λ f was own was_at own_at. let p = lends.each f was own was_at own_at in (p.0, p.1, subst (λ (n : ℕ). IsLentBy f n new p.0) limit p.2);
    }

-- one front more with nothing in hand
pub none_pushed : (hands after : List (Vec FrontPart Global)) (new : Vec FrontPart Global) → after ≡ hands ++ new ∷ [] → new.items ≡ []
    → ((f : ℕ) (own : List FrontPart) → slice_get (rows hands) f ≡ Some own → own ≡ []) → (f : ℕ) (own : List FrontPart) → slice_get (rows after) f ≡ Some own → own ≡ []
none_pushed hands after new is empty none f own at =
    let all : rows after ≡ rows hands ++ new.items ∷ [] = ap rows is ∙ map_push (λ (own : Vec FrontPart Global). own.items) hands new in
    elim (at_snoc (rows hands) new.items f own (ap (λ l. slice_get l f) (sym all) ∙ at)) as (λ _. own ≡ []) [
      | inl h ↦ none f own h.0
      | inr h ↦ sym h.1 ∙ empty
    ]

module _ (options : Options) (fronts most : ℕ) where
  -- one owner more lent each front a part
  pub owners_pushed : {T : Type 0} (f : T → OwnerEnd) (owners after : List T) (new : T) (hands hands' : List (List FrontPart)) → after ≡ owners ++ new ∷ []
      → AreLent options fronts most (map f owners) hands → LendsOneMore options most (f new) hands hands' → AreLent options fronts most (map f after) hands'
  owners_pushed f owners after new hands hands' is lent more =
      subst (λ (l : List OwnerEnd). AreLent options fronts most l hands') (sym (ap (map f) is ∙ map_push f owners new))
      (hands_more options fronts most (map f owners) (f new) hands hands' lent more)

  module _ (owners : List OwnerEnd) (made : List QueueView) (n : ℕ) (number : n ≡ length made) where
    module _ (hands : List (List FrontPart)) (own : List FrontPart) (more : List (List FrontPart)) (head : hands ≡ own ∷ more) (lent : AreLent options fronts most owners (parts_of made ++ hands)) where
      here : slice_get (parts_of made ++ hands) n ≡ Some own
      here = ap (λ (h : List (List FrontPart)). slice_get (parts_of made ++ h) n) head ∙ ap (slice_get (parts_of made ++ own ∷ more)) (number ∙ sym (length-map made (λ (front : QueueView). front.parts)))
          ∙ at_seam (parts_of made) own more

      pub next_long : length own ≡ length owners
      next_long = lent.each_many n own here

      pub next_new : All (IsNewPart options n most) own
      next_new = new_parts options fronts n most owners (parts_of made ++ hands) own lent here

      pub next_lent : (after : List QueueView) (new : QueueView) → after ≡ made ++ new ∷ [] → new.parts ≡ own → AreLent options fronts most owners (parts_of after ++ more)
      next_lent after new is same =
          let one : parts_of after ≡ parts_of made ++ new.parts ∷ [] = ap parts_of is ∙ map_push (λ (front : QueueView). front.parts) made new in
          subst (λ (l : List (List FrontPart)). AreLent options fronts most owners l)
          (ap (λ (h : List (List FrontPart)). parts_of made ++ h) head ∙ ap (λ (o : List FrontPart). parts_of made ++ o ∷ more) (sym same)
          ∙ sym (append_assoc (parts_of made) (new.parts ∷ []) more) ∙ ap (λ (l : List (List FrontPart)). l ++ more) (sym one)) lent

    pub fronts_pushed : (after : List QueueView) (new : QueueView) → after ≡ made ++ new ∷ [] → new ≡ queue_view options n 0 most new.parts
        → ((f : ℕ) (front : QueueView) → slice_get made f ≡ Some front → front ≡ queue_view options f 0 most front.parts)
        → (f : ℕ) (front : QueueView) → slice_get after f ≡ Some front → front ≡ queue_view options f 0 most front.parts
    fronts_pushed after new is view each f front at =
        elim (at_snoc made new f front (ap (λ (l : List QueueView). slice_get l f) (sym is) ∙ at)) as (λ _. front ≡ queue_view options f 0 most front.parts) [
          | inl h ↦ each f front h.0
          | inr h ↦ subst (λ (x : QueueView). x ≡ queue_view options f 0 most x.parts) h.1 (view ∙ ap (λ m. queue_view options m 0 most new.parts) (number ∙ sym h.0))
        ]
