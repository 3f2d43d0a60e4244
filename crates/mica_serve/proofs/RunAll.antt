-- The workers of a server: that they may run and meet, and what they came to.
use Rattle.std.proofs.Common.{◌≡◌, ℕ, ◌*◌, ◌≤◌, List, [], ◌∷◌, length, map, Some, sym, ap, ◌∙◌, subst, slice_get, arith, All}
use Rattle.std.specs.List.{AllZip}
use Rattle.std.proofs.lemmas.List.{length-map}
use Rattle.std.proofs.lemmas.List.Elements.{All-from_recursion}
use Rattle.std.proofs.lemmas.Simd.{map-map}
use Rattle.std.proofs.lemmas.Slice.Zip.{AllZip-long}
use Rattle.std.proofs.lemmas.Option.{slice_get_within}
use Rattle.list_laws.proofs.Places.{at_map, element_at, from_map}
use Rattle.list_laws.proofs.AllElements.{all_places, all_zipped}
use Rattle.atomic_table.specs.Seated.{TableId}
use Rattle.partition_model.specs.declared.options.Options.{Options}
use Rattle.partition_words.specs.declared.state.OwnerState.{OwnerState}
use Rattle.partition_words.specs.declared.state.Phase.TheVariants.{Idle}
use Rattle.partition_table.specs.Tabled.{kept_seat_in}
use Rattle.partition_table.specs.declared.tables.KeptSeat.{KeptSeat}
use Rattle.owner_queue.specs.JobEnds.{Inbox}
use Rattle.owner_queue.specs.AckEnds.{AckBox}
use Rattle.server_words.specs.declared.limits.TheConstants.{MAX_BATCHES}
use Rattle.server_words.specs.declared.ports.PortOptions.{PortOptions}
use Rattle.queue_front.specs.declared.queue_front.FrontPart.{FrontPart}
use Rattle.mica_serve.specs.declared.worker.OwnerTask.{OwnerTask}
use Rattle.mica_serve.specs.declared.worker.FrontTask.{FrontTask}
use Rattle.served.specs.Others.{alone}
use Rattle.served.specs.Served.{empty_origin}
use Rattle.served.specs.Ends.{EndFacts, AreOpen}
use Rattle.served.specs.FrontRuns.{RanAll}
use Rattle.mica_serve.specs.Hands.{OwnerEnd, IsReadyOwner, IsNewOwner, AreFrontsOf, RanOwner, MayMeetAll, HaveMetAll}
use Rattle.queue_front.specs.OwnerWork.{IsNewAckBox}
use Rattle.queue_front.specs.QueueFront.{QueueView}
use Rattle.mica_serve.specs.Tasks.{owner_end, IsReadyTask, TaskRan, OwnersRan, IsReadyFront, FrontRan, FrontsRan}
use Rattle.mica_serve.proofs.TakenIn.{HaveRan, owner_at, may_meet, ran_all}

zip_maps : {X Y : Type 0} (Q : Y → Y → Type 0) (g : X → Y) (xs ys : List X) → AllZip (λ x y. Q (g x) (g y)) xs ys → AllZip Q (map g xs) (map g ys)
zip_maps Q g [] [] z = tt
zip_maps Q g [] (y ∷ ys) z = absurd z
zip_maps Q g (x ∷ xs) [] z = absurd z
zip_maps Q g (x ∷ xs) (y ∷ ys) z = (z.0, zip_maps Q g xs ys z.1)

ready_owner : (options : Options) (fronts most : ℕ) (owner : OwnerEnd) → IsNewOwner options fronts most owner → IsReadyOwner owner
ready_owner options fronts most owner new = record {
  fresh = ap (λ (b : Inbox). b.taken) new.jobs;
  many = new.acks ∙ sym (ap (λ (b : Inbox). b.senders) new.jobs);
  unsent = All-from_recursion (IsNewAckBox owner.table owner.state) owner.acks (all_places (IsNewAckBox owner.table owner.state) owner.acks
      (λ f a at. let is = new.unsent f a at in
      record { table = ap (λ (b : AckBox). b.table) is; shape = ap (λ (b : AckBox). b.shape) is; none = ap (λ (b : AckBox). b.list) is }));
}

module _ {P D : Type 0} (owner : P → OwnerState) (home : P → TableId) (facts : D → EndFacts) (options : Options) (ports : PortOptions) where
  abbrev end_of_owner : OwnerTask P → OwnerEnd
  end_of_owner t = owner_end owner home t

  -- owners and fronts as made, and each front with its end
  pub record Paired (os : List (OwnerTask P)) (views : List QueueView) (tasks : List (FrontTask D)) (ends : List D) : Type 0 where
    pub some : 1 ≤ options.partitions
    pub opened : AreFrontsOf options ports.fronts (255 * ports.batches) (map end_of_owner os) views
    pub fronts : map (λ (t : FrontTask D). t.front) tasks ≡ map (λ (v : QueueView). Some v) views
    pub own_ends : map (λ (t : FrontTask D). t.end) tasks ≡ ends

  -- and these they are after all of them ran
  pub record Ran (os : List (OwnerTask P)) (views : List QueueView) (tasks : List (FrontTask D)) (ends : List D) (owners : List (OwnerTask P)) (served : List (FrontTask D)) : Type 0 where
    pub paired : Paired os views tasks ends
    pub owners_ran : OwnersRan owner home os owners
    pub fronts_ran : FrontsRan ports.batches facts tasks served

  module _ {os : List (OwnerTask P)} {views : List QueueView} {tasks : List (FrontTask D)} {ends : List D} where
    -- all may run
    pub owners_ready : Paired os views tasks ends → All (IsReadyTask owner home) os
    owners_ready paired = All-from_recursion (IsReadyTask owner home) os (all_places (IsReadyTask owner home) os
        (λ p t at. ready_owner options ports.fronts (255 * ports.batches) (end_of_owner t) (paired.opened.lent.fresh p (end_of_owner t) (at_map end_of_owner os p t at))))

    pub fronts_ready : ports.batches ≤ MAX_BATCHES → Paired os views tasks ends → AreOpen (map facts ends) → All (IsReadyFront ports.batches facts) tasks
    fronts_ready few paired opens = All-from_recursion (IsReadyFront ports.batches facts) tasks (all_places (IsReadyFront ports.batches facts) tasks (front_ready paired opens))
      where
        front_ready : Paired os views tasks ends → AreOpen (map facts ends) → (f : ℕ) (t : FrontTask D) → slice_get tasks f ≡ Some t → IsReadyFront ports.batches facts t
        front_ready paired opens f t at =
            let here : slice_get (map (λ (v : QueueView). Some v) views) f ≡ Some t.front = ap (λ l. slice_get l f) (sym paired.fronts) ∙ at_map (λ (t : FrontTask D). t.front) tasks f t at in
            let v = from_map (λ (v : QueueView). Some v) views f t.front here in
            let own : slice_get (map facts ends) f ≡ Some (facts t.end) =
            at_map facts ends f t.end (ap (λ l. slice_get l f) (sym paired.own_ends) ∙ at_map (λ (t : FrontTask D). t.end) tasks f t at) in
            let is = opens f (facts t.end) own in
            let left : v.0.left ≡ 255 * ports.batches = ap (λ (w : QueueView). w.left) (paired.opened.each f v.0 v.1) in
            record { front = v.0; front_is = sym v.2; few = few; left = omega (arith, left); unended = is.0; fresh = is.1 }

    module _ {owners : List (OwnerTask P)} {served : List (FrontTask D)} (r : Ran os views tasks ends owners served) where
      all : HaveRan ports.batches facts options ports.fronts (255 * ports.batches) (map end_of_owner os) (map end_of_owner owners) views tasks served
      all = record {
        some = r.paired.some;
        opened = r.paired.opened;
        owners_ran = zip_maps RanOwner end_of_owner os owners (all_zipped (TaskRan owner home) os owners r.owners_ran.0 r.owners_ran.1);
        fronts_ran = all_zipped (FrontRan ports.batches facts) tasks served r.fronts_ran.0 r.fronts_ran.1;
        views_are = r.paired.fronts;
      }

      -- as many fronts as before
      pub served_long : length served ≡ length views
      served_long = AllZip-long (FrontRan ports.batches facts) tasks served all.fronts_ran ∙ sym (length-map tasks (λ (t : FrontTask D). t.front)) ∙ ap length r.paired.fronts ∙ length-map views (λ (v : QueueView). Some v)

      -- the owners may meet the fronts
      pub meeting : (parts : List (List FrontPart)) → parts ≡ map (λ (t : FrontTask D). t.parts.items) served → MayMeetAll (map end_of_owner owners) parts
      meeting parts are =
          subst (λ (l : List (List FrontPart)). MayMeetAll (map end_of_owner owners) l) (sym are)
          (may_meet all)

      module _ (parts : List (List FrontPart)) (parts_are : parts ≡ map (λ (t : FrontTask D). t.parts.items) served) (after : List (OwnerTask P))
          (met : HaveMetAll (map end_of_owner owners) (map end_of_owner after) parts) where
        here : HaveMetAll (map end_of_owner owners) (map end_of_owner after) (map (λ (t : FrontTask D). t.parts.items) served)
        here = subst (λ (l : List (List FrontPart)). HaveMetAll (map end_of_owner owners) (map end_of_owner after) l) parts_are met

        -- what all came to
        pub all_came : (news : List D) → news ≡ map (λ (t : FrontTask D). t.end) served
            → RanAll alone options empty_origin ports.batches (map (λ (t : OwnerTask P). kept_seat_in (owner t.part)) after) (map (λ (t : FrontTask D). t.answer) served) (map facts ends) (map facts news)
        all_came news news_are =
            let it = ran_all all (map end_of_owner after) here in
            let kept = map-map (λ (o : OwnerEnd). kept_seat_in o.state) end_of_owner after in
            let one : map (λ (t : FrontTask D). facts t.end) tasks ≡ map facts ends = sym (map-map facts (λ (t : FrontTask D). t.end) tasks) ∙ ap (map facts) r.paired.own_ends in
            let two : map (λ (t : FrontTask D). facts t.end) served ≡ map facts news = sym (map-map facts (λ (t : FrontTask D). t.end) served) ∙ ap (map facts) (sym news_are) in
            let left = map (λ (o : OwnerEnd). kept_seat_in o.state) (map end_of_owner after) in
            let answers = map (λ (t : FrontTask D). t.answer) served in
            subst (λ (k : List KeptSeat). RanAll alone options empty_origin ports.batches k answers (map facts ends) (map facts news)) kept
            (subst (λ (b : List EndFacts). RanAll alone options empty_origin ports.batches left answers b (map facts news)) one
            (subst (λ (a : List EndFacts). RanAll alone options empty_origin ports.batches left answers (map (λ (t : FrontTask D). facts t.end) tasks) a) two it))

        -- the owners are idle
        pub idle : (p : ℕ) (task : OwnerTask P) → slice_get after p ≡ Some task → (owner task.part).phase ≡ Idle
        idle p task at =
            let one = length-map after end_of_owner in
            let two = length-map owners end_of_owner in
            let now = element_at (map end_of_owner owners) p (omega (arith, slice_get_within after p task at, met.many)) in
            let z = owner_at all p now.0 now.1 in
            let same = met.same p now.0 (end_of_owner task) now.1 (at_map end_of_owner after p task at) in
            ap (λ (o : OwnerEnd). o.state.phase) same ∙ ap (λ (s : OwnerState). s.phase) z.ran.served.worked.gained ∙ ap (λ (s : OwnerState). s.phase) z.new.state
