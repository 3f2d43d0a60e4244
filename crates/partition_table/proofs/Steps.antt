-- Each kind of step keeps the table's rule. An owner's step is proved against one reader's view at a time, a reader's against its own alone.
use Rattle.std.proofs.Common.{◌≡◌, ◌≢◌, ℕ, zero, suc, replicate, ◌+◌, ◌*◌, ◌^◌, ◌%◌, ◌≤◌, List, [], ◌∷◌, ◌⊎◌, ⊎_elim, Bool, true, false, get_or, set, refl, sym, ap, ◌∙◌, subst, arith, Option, Some, None}
use mathlib.Core.Option.{Option as MOption, some, none, some-injective}
use lib.ListN.{get_elem?}
use lib.Seq.{set-get_or}
use Rattle.atomic_table.specs.Table.{State, step, keeps, stepped, opening, Allows, Splits, Joins}
use Rattle.atomic_table.proofs.Lists.{at_set, at_snoc, set_again, set_else, at_longer}
use Rattle.std.proofs.Math.Nat.{mod-eq_of_lt}
use Rattle.partition_model.specs.History.{History, IsPrefix, stamp_of, writes_to_bucket}
use Rattle.partition_words.specs.declared.shape.Shape.{Shape}
use Rattle.partition_words.specs.declared.event.Event.{Event}
use Rattle.partition_words.specs.declared.state.OwnerState.{OwnerState}
use Rattle.partition_words.specs.declared.reader.Try.{Try}
use Rattle.partition_words.specs.declared.reader.ReaderState.{ReaderState}
use Rattle.partition_words.specs.Shape.{options_of, IsPossibleShape, IsMain, IsBucket, IsSpare}
use Rattle.partition_words.specs.Layout.{epoch_at, link_at, word_count}
use Rattle.partition_words.specs.OwnerState.{as_made, epoch_in}
use Rattle.partition_words.specs.Events.{IsAllowed, place_of, word_after, after}
use Rattle.partition_words.specs.Kept.{Kept}
use Rattle.partition_words.specs.Grows.{Grows}
use Rattle.std.specs.Prelude.{is_some, if◌then◌else◌, ◌==◌}
use Rattle.partition_words.specs.ReaderState.{new_try, opened, loaded, stamped, shut}
use Rattle.partition_words.specs.ReaderKept.{MetKept, ReaderKept, Tells}
use Rattle.partition_words.specs.Joins.{lent, met_by, known, told}
use Rattle.partition_words.proofs.Made.{kept_as_made}
use Rattle.partition_words.proofs.Inside.{epoch_small}
use Rattle.partition_words.proofs.Keeps.{kept_after}
use Rattle.partition_words.proofs.Growing.{grows, reader_grows}
use Rattle.partition_words.proofs.Prefixes.{prefix_then}
use Rattle.partition_words.proofs.Failing.{in_head, in_tail}
use Rattle.partition_words.proofs.LoadKeeps.{least_epoch, opens as opens_keep, loads as loads_keep, stamps as stamps_keep, shuts as shuts_keep, tells}
use Rattle.partition_words.proofs.JoinKeeps.{lends, notes, meet_grows, meets, tells_of}
use Rattle.partition_table.specs.declared.rule.View.{View}
use Rattle.partition_table.specs.declared.rule.View.TheVariants.{Owns, Reads, Spent}
use Rattle.partition_table.specs.Rule.{Seated, ViewKept, IsLawful, is_owner, owner_in, is_reader, reader_in, view_lent, view_met}
use Rattle.partition_table.specs.Plays.{tells_word, happened, opens, looks, follows, stamps, tallies, shuts}
use Rattle.partition_table.proofs.Tallying.{most_seen}

owner_is : (v : View) → is_owner v ≡ true → v ≡ Owns (owner_in v)
owner_is (Owns o) e = refl
owner_is (Reads r) e = cc
owner_is Spent e = cc

reader_is : (v : View) → is_reader v ≡ true → v ≡ Reads (reader_in v)
reader_is (Owns o) e = cc
reader_is (Reads r) e = refl
reader_is Spent e = cc

set_at : {A : Type 0} (l : List A) (i : ℕ) (a b : A) → get_elem? l i ≡ some a → get_elem? (set l i b) i ≡ some b
set_at [] i a b e = absurd (cc e)
set_at (x ∷ l) zero a b e = refl
set_at (x ∷ l) (suc i) a b e = set_at l i a b e

-- the seats after one has got another view
each_set : (o p : OwnerState) (vs : List View) (id : ℕ) (w : View) → ViewKept p id w → ((j : ℕ) (v : View) → j ≢ id → ViewKept o j v → ViewKept p j v)
    → ((j : ℕ) (v : View) → get_elem? vs j ≡ some v → ViewKept o j v) → (j : ℕ) (v : View) → get_elem? (set vs id w) j ≡ some v → ViewKept p j v
each_set o p vs id w mine others each j v e = ⊎_elim
    (λ (t : (j ≡ id) × (w ≡ v)). subst (λ (z : ℕ × View). ViewKept p z.0 z.1) (λ i. (sym t.0 i, t.1 i)) mine)
    (λ (t : (j ≢ id) × (get_elem? vs j ≡ some v)). others j v t.0 (each j v t.1))
    (at_set vs id j w v e)

-- a view other than the owner's, past a change of the owner's that takes nothing away
view_grows : (o p : OwnerState) → Grows o p → (j : ℕ) → j ≢ 0 → (v : View) → ViewKept o j v → ViewKept p j v
view_grows o p g j n (Owns q) f = absurd (n f.0)
view_grows o p g j n (Reads r) f = reader_grows o p g r f
view_grows o p g j n Spent f = tt

module _ (s : State (Unit {0}) View) (k : IsLawful s) where
  -- the seat of the owner, and what it knows

  owner_here : (id : ℕ) (o : OwnerState) → get_elem? s.views id ≡ some (Owns o) → (id ≡ 0) × (o ≡ k.owner)
  owner_here id o at = k.each id (Owns o) at

  owner_kept : (id : ℕ) (o : OwnerState) → get_elem? s.views id ≡ some (Owns o) → Kept o
  owner_kept id o at = subst Kept (sym (owner_here id o at).1) k.kept

  owner_words : (id : ℕ) (o : OwnerState) → get_elem? s.views id ≡ some (Owns o) → s.words ≡ o.words
  owner_words id o at = k.words ∙ ap (λ (z : OwnerState). z.words) (sym (owner_here id o at).1)

  -- the owner's view becomes that of p, and the words are those of p
  owner_moves : (ws : List ℕ) (hs : List (MOption (Unit {0}))) (id : ℕ) (o p : OwnerState) → get_elem? s.views id ≡ some (Owns o) → ws ≡ p.words → Grows o p → Kept p
      → IsLawful record { words = ws; homes = hs; views = set s.views id (Owns p) }
  owner_moves ws hs id o p at words g kept = let h = owner_here id o at in record {
    owner = p;
    words = words;
    first = subst (λ (z : ℕ). get_elem? (set s.views id (Owns p)) z ≡ some (Owns p)) h.0 (set_at s.views id (Owns o) (Owns p) at);
    kept = kept;
    each = each_set k.owner p s.views id (Owns p) (h.0, refl)
        (λ j v n f. view_grows k.owner p (subst (λ (z : OwnerState). Grows z p) h.1 g) j (λ z. n (z ∙ sym h.0)) v f) k.each;
  }

  reader_apart : (id : ℕ) (v : View) → is_reader v ≡ true → get_elem? s.views id ≡ some v → ¬ (0 ≡ id)
  reader_apart id v is at z =
      let same : some v ≡ some (Owns k.owner) = sym at ∙ (ap (get_elem? s.views) (sym z) ∙ k.first) in
      let w : v ≡ Owns k.owner = some-injective _ _ same in
      absurd (cc (sym is ∙ ap is_reader w))

  reader_fits : (id : ℕ) (v : View) → is_reader v ≡ true → get_elem? s.views id ≡ some v → ReaderKept k.owner (reader_in v)
  reader_fits id v is at = subst (ViewKept k.owner id) (reader_is v is) (k.each id v at)

  -- a reader's view changes, and no word
  reader_moves : (i id : ℕ) (cs : List (ℕ × Unit {0})) (v : View) (q : ReaderState) → is_reader v ≡ true → get_elem? s.views id ≡ some v → ReaderKept k.owner q
      → IsLawful (stepped s i (get_or s.words i 0) id cs (Reads q) keeps)
  reader_moves i id cs v q is at fits = record {
    owner = k.owner;
    words = set-get_or s.words i 0 ∙ k.words;
    first = set_else s.views id 0 (Reads q) (reader_apart id v is at) ∙ k.first;
    kept = k.kept;
    each = each_set k.owner k.owner s.views id (Reads q) fits (λ j w n f. f) k.each;
  }

-- a step that changes neither a word nor a view
stays : (s : State (Unit {0}) View) → IsLawful s → (i id : ℕ) (cs : List (ℕ × Unit {0})) (v : View) → get_elem? s.views id ≡ some v
    → IsLawful (stepped s i (get_or s.words i 0) id cs v keeps)
stays s k i id cs v at = subst IsLawful (λ j. record { words = sym (set-get_or s.words i 0) j; homes = s.homes; views = sym (set_again s.views id v at) j }) k

module _ (slots id : ℕ) (me : Seated) (owns : is_owner me.0 ≡ true) where
  abbrev o : OwnerState
  o = owner_in me.0

  at_owner : (s : State (Unit {0}) View) → get_elem? s.views id ≡ some me.0 → get_elem? s.views id ≡ some (Owns (owner_in me.0))
  at_owner s at = at ∙ ap some (owner_is me.0 owns)

  pub reads : (i : ℕ) → Allows IsLawful slots id me i (λ n. n) (tells_word (step slots i 0 0 none) me)
  reads i s k _ at _ =
      let here = at_owner s at in
      (me.0, keeps, tt, stays s k i id me.1 me.0 at, (refl, ap (λ (z : List ℕ). get_or z i 0) (owner_words s k id o here), owner_kept s k id o here))

  -- the step of an event: f is what it makes of the word that it finds
  does : (e : Event) (f : ℕ → ℕ) (first second : ℕ) → IsAllowed e o → (Kept o → f (get_or o.words (place_of o.shape e) 0) ≡ word_after e (get_or o.words (place_of o.shape e) 0))
      → Allows IsLawful slots id me (place_of o.shape e) f (λ n m. (m ≡ (Owns (after e o), me.1)) × Kept (after e o))
  does e f first second allowed value s k _ at _ =
      let here = at_owner s at in
      let kept = owner_kept s k id o here in
      let words = owner_words s k id o here in (
        Owns (after e o),
        keeps,
        tt,
        owner_moves s k (set s.words (place_of o.shape e) (f (get_or s.words (place_of o.shape e) 0))) s.homes id o (after e o) here
            (ap (λ (z : List ℕ). set z (place_of o.shape e) (f (get_or z (place_of o.shape e) 0))) words ∙ ap (set o.words (place_of o.shape e)) (value kept))
            (grows o kept e allowed) (kept_after o kept e allowed),
        (refl, kept_after o kept e allowed),
      )

  -- at a word that is known by an equation

  pub stores_at : (e : Event) (i x : ℕ) → i ≡ place_of o.shape e → IsAllowed e o → ((n : ℕ) → word_after e n ≡ x)
      → Allows IsLawful slots id me i (λ _. x) (λ _. happened e (step slots i x 0 none) me x)
  stores_at e i x is allowed value =
      subst (λ (z : ℕ). Allows IsLawful slots id me z (λ _. x) (λ _. happened e (step slots z x 0 none) me x)) (sym is)
      (does e (λ _. x) x 0 allowed (λ _. sym (value (get_or o.words (place_of o.shape e) 0))))

  pub adds_at : (e : Event) (b i : ℕ) → place_of o.shape e ≡ epoch_at b → i ≡ epoch_at b → IsMain o.shape b → IsAllowed e o → ((n : ℕ) → word_after e n ≡ n + 1)
      → Allows IsLawful slots id me i (λ n. (n + 1) % 2 ^ 64) (happened e (step slots i 1 0 none) me)
  adds_at e b i is here main allowed value =
      subst (λ (z : ℕ). Allows IsLawful slots id me z (λ n. (n + 1) % 2 ^ 64) (happened e (step slots z 1 0 none) me)) (is ∙ sym here)
      (does e (λ n. (n + 1) % 2 ^ 64) 1 0 allowed (λ kept.
      subst (λ (z : ℕ). (get_or o.words z 0 + 1) % 2 ^ 64 ≡ word_after e (get_or o.words z 0)) (sym is)
      (mod-eq_of_lt (epoch_small o kept b main) ∙ sym (value (epoch_in o b)))))

module _ (slots id : ℕ) (me : Seated) (reader : is_reader me.0 ≡ true) where
  abbrev r : ReaderState
  r = reader_in me.0

  -- the reader's state becomes q
  becomes : (i : ℕ) (s : State (Unit {0}) View) (k : IsLawful s) → get_elem? s.views id ≡ some me.0 → (q : ReaderState) → (ReaderKept k.owner r → ReaderKept k.owner q)
      → IsLawful (stepped s i (get_or s.words i 0) id me.1 (Reads q) keeps)
  becomes i s k at q fits = reader_moves s k i id me.1 me.0 q reader at (fits (reader_fits s k id me.0 reader at))

  word_now : (s : State (Unit {0}) View) (k : IsLawful s) (i : ℕ) → get_or k.owner.words i 0 ≡ get_or s.words i 0
  word_now s k i = ap (λ (z : List ℕ). get_or z i 0) (sym k.words)

  opens_at : (b : ℕ) → IsMain r.shape b → Allows IsLawful slots id me (epoch_at b) (λ n. n) (opens (step slots (epoch_at b) 0 0 none) me)
  opens_at b main s k _ at _ =
      let now = word_now s k (epoch_at b) in
      let n : ℕ = get_or s.words (epoch_at b) 0 in
      let f = reader_fits s k id me.0 reader at in (
        Reads (opened b n r),
        keeps,
        tt,
        becomes (epoch_at b) s k at (opened b n r) (λ f. subst (λ (z : ℕ). ReaderKept k.owner (opened b z r)) now (opens_keep k.owner k.kept r f b main)),
        λ c is.
            let same : b ≡ c = omega arith in (
              ap (λ (z : ℕ). (Reads (opened z n r), me.1)) same,
              subst (λ (z : ℕ). 2 * writes_to_bucket (options_of r.shape) r.done z ≤ n) same
                  (subst (λ (z : ℕ). 2 * writes_to_bucket (options_of r.shape) r.done b ≤ z) now (least_epoch k.owner k.kept r f b main)),
            ),
      )

  pub loads_at : (i : ℕ) → Allows IsLawful slots id me i (λ n. n) (looks (step slots i 0 0 none) me)
  loads_at i s k _ at _ = (
    Reads (loaded i (get_or s.words i 0) r),
    keeps,
    tt,
    becomes i s k at (loaded i (get_or s.words i 0) r) (λ f. subst (λ (z : ℕ). ReaderKept k.owner (loaded i z r)) (word_now s k i) (loads_keep k.owner k.kept r f i)),
    refl,
  )

  pub follows_at : (i : ℕ) → Allows IsLawful slots id me i (λ n. n) (follows (step slots i 0 0 none) me)
  follows_at i s k _ at _ =
      let f = reader_fits s k id me.0 reader at in (
        Reads (loaded i (get_or s.words i 0) r),
        keeps,
        tt,
        becomes i s k at (loaded i (get_or s.words i 0) r) (λ f. subst (λ (z : ℕ). ReaderKept k.owner (loaded i z r)) (word_now s k i) (loads_keep k.owner k.kept r f i)),
        (
          refl,
          λ c l is.
              let link = k.kept.chains.links c (subst (λ (z : Shape). IsBucket z c) f.shape l) in
              let at_link : get_or k.owner.words (link_at k.owner.shape c) 0 ≡ get_or s.words i 0 =
              ap (λ (z : ℕ). get_or k.owner.words z 0) (sym (is ∙ ap (λ (z : Shape). link_at z c) f.shape)) ∙ word_now s k i in
              subst (λ (z : ℕ). (z ≡ 0) ⊎ IsSpare r.shape z) at_link
              (subst (λ (z : Shape). (get_or k.owner.words (link_at k.owner.shape c) 0 ≡ 0) ⊎ IsSpare z (get_or k.owner.words (link_at k.owner.shape c) 0)) (sym f.shape) link),
        ),
      )

  pub stamps_at : Allows IsLawful slots id me 0 (λ n. n) (stamps (step slots 0 0 0 none) me)
  stamps_at s k _ at _ =
      let f = reader_fits s k id me.0 reader at in (
        Reads (stamped k.owner.history r),
        keeps,
        tt,
        becomes 0 s k at (stamped k.owner.history r) (λ f. stamps_keep k.owner k.kept r f),
        (
          k.owner.history,
          refl,
          f.seen,
          sym (word_now s k 0) ∙ (k.kept.stamp ∙ ap (λ (z : Shape). stamp_of (options_of z) k.owner.history) (sym f.shape)),
          f.met,
        ),
      )

  shuts_at : (b : ℕ) → ((t : Try) → r.current ≡ Some t → t.bucket ≡ b) → Allows IsLawful slots id me (epoch_at b) (λ n. n) (shuts (step slots (epoch_at b) 0 0 none) me)
  shuts_at b is s k _ at _ =
      let now = word_now s k (epoch_at b) in
      let n : ℕ = get_or s.words (epoch_at b) 0 in
      let f = reader_fits s k id me.0 reader at in (
        Reads (shut n r),
        keeps,
        tt,
        becomes (epoch_at b) s k at (shut n r) (λ f. subst (λ (z : ℕ). ReaderKept k.owner (shut z r)) now (shuts_keep k.owner k.kept r f b is)),
        (refl, subst (λ (z : ℕ). Tells z r) now (tells k.owner k.kept r f b is)),
      )

  pub tallies_here : (b i : ℕ) → i ≡ epoch_at b → IsMain r.shape b → Allows IsLawful slots id me i (λ n. n) (tallies (step slots i 0 0 none) me)
  tallies_here b i is main s k _ at _ =
      let most = most_seen k.owner k.kept r (reader_fits s k id me.0 reader at) b main in (
        me.0,
        keeps,
        tt,
        stays s k i id me.1 me.0 at,
        (
          refl,
          λ c there. let same : b ≡ c = omega (arith, is, there) in subst (λ (y : ℕ × ℕ). 2 * writes_to_bucket (options_of r.shape) r.seen y.0 ≤ y.1 + 1)
              (λ j. (same j, (ap (λ (z : ℕ). get_or k.owner.words z 0) (sym is) ∙ word_now s k i) j)) most,
        ),
      )

  pub opens_here : (b i : ℕ) → i ≡ epoch_at b → IsMain r.shape b → Allows IsLawful slots id me i (λ n. n) (opens (step slots i 0 0 none) me)
  opens_here b i is main = subst (λ (z : ℕ). Allows IsLawful slots id me z (λ n. n) (opens (step slots z 0 0 none) me)) (sym is) (opens_at b main)

  pub shuts_here : (b i : ℕ) → i ≡ epoch_at b → ((t : Try) → r.current ≡ Some t → t.bucket ≡ b) → Allows IsLawful slots id me i (λ n. n) (shuts (step slots i 0 0 none) me)
  shuts_here b i is at = subst (λ (z : ℕ). Allows IsLawful slots id me z (λ n. n) (shuts (step slots z 0 0 none) me)) (sym is) (shuts_at b at)

  pub stamps_here : (i : ℕ) → i ≡ 0 → Allows IsLawful slots id me i (λ n. n) (stamps (step slots i 0 0 none) me)
  stamps_here i is = subst (λ (z : ℕ). Allows IsLawful slots id me z (λ n. n) (stamps (step slots z 0 0 none) me)) (sym is) stamps_at

-- Splits and joins

right_kept : (s : State (Unit {0}) View) (k : IsLawful s) (id : ℕ) (v : View) → get_elem? s.views id ≡ some v → (is_owner v ≡ true) ⊎ (is_reader v ≡ true) → ReaderKept k.owner (view_lent v)
right_kept s k id (Owns o) at which = subst (λ (z : OwnerState). ReaderKept z (lent o)) (owner_here s k id o at).1 (lends o (owner_kept s k id o at))
right_kept s k id (Reads r) at which = notes k.owner r (k.each id (Reads r) at)
right_kept s k id Spent at which = ⊎_elim (λ (e : false ≡ true). absurd (cc e)) (λ (e : false ≡ true). absurd (cc e)) which

pub splits : (id : ℕ) (v : View) → (is_owner v ≡ true) ⊎ (is_reader v ≡ true) → Splits IsLawful id v v (Reads (view_lent v))
splits id v which s k at = let same = set_again s.views id v at in record {
  owner = k.owner;
  words = k.words;
  first = at_longer (set s.views id v) (Reads (view_lent v) ∷ []) 0 (Owns k.owner) (ap (λ (z : List View). get_elem? z 0) same ∙ k.first);
  kept = k.kept;
  each = λ j w e. ⊎_elim
      (λ (old : get_elem? (set s.views id v) j ≡ some w). k.each j w (ap (λ (z : List View). get_elem? z j) (sym same) ∙ old))
      (λ (new : Reads (view_lent v) ≡ w). subst (ViewKept k.owner j) new (right_kept s k id v at which))
      (at_snoc (set s.views id v) (Reads (view_lent v)) w j e);
}

spends : (s : State (Unit {0}) View) → IsLawful s → (id : ℕ) (w : View) → is_reader w ≡ true → get_elem? s.views id ≡ some w
    → IsLawful record { words = s.words; homes = s.homes; views = set s.views id Spent }
spends s k id w is at = record {
  owner = k.owner;
  words = k.words;
  first = set_else s.views id 0 Spent (reader_apart s k id w is at) ∙ k.first;
  kept = k.kept;
  each = each_set k.owner k.owner s.views id Spent tt (λ j v n f. f) k.each;
}

-- an owner takes in what a reader knows
pub owner_joins : (id : ℕ) (v : View) (other : ℕ) (w : View) → is_owner v ≡ true → is_reader w ≡ true → Joins IsLawful id v other w (view_met v w) Spent
owner_joins id (Owns o) other w owns is s k at apart there =
    let h = owner_here s k id o at in
    let p : OwnerState = met_by o (reader_in w) in
    let there' = sym (set_else s.views id other (Owns p) apart) ∙ there in
    let f = subst (λ (z : OwnerState). ReaderKept z (reader_in w)) (sym h.1) (reader_fits s k other w is there') in
    let mid = owner_moves s k s.words s.homes id o p at (owner_words s k id o at) (meet_grows o (reader_in w)) (meets o (reader_in w) (owner_kept s k id o at) f) in
    spends _ mid other w is there
owner_joins id (Reads r) other w owns is s k at apart there = absurd (cc owns)
owner_joins id Spent other w owns is s k at apart there = absurd (cc owns)

-- a reader takes in what another knows
pub reader_joins : (id : ℕ) (v : View) (other : ℕ) (w : View) → is_reader v ≡ true → is_reader w ≡ true → Joins IsLawful id v other w (view_met v w) Spent
reader_joins id (Reads r) other w reads is s k at apart there =
    let q : ReaderState = told r (reader_in w) in
    let there' = sym (set_else s.views id other (Reads q) apart) ∙ there in
    let f = tells_of k.owner r (reader_in w) (k.each id (Reads r) at) (reader_fits s k other w is there') in
    let mid : IsLawful record { words = s.words; homes = s.homes; views = set s.views id (Reads q) } = record {
      owner = k.owner;
      words = k.words;
      first = set_else s.views id 0 (Reads q) (reader_apart s k id (Reads r) refl at) ∙ k.first;
      kept = k.kept;
      each = each_set k.owner k.owner s.views id (Reads q) f (λ j v n g. g) k.each;
    } in
    spends _ mid other w is there
reader_joins id (Owns o) other w reads is s k at apart there = absurd (cc reads)
reader_joins id Spent other w reads is s k at apart there = absurd (cc reads)

-- the table as made

pub starts : (shape : Shape) (words : List ℕ) → words ≡ replicate (word_count shape) 0 → IsPossibleShape shape → IsLawful (opening words [] (Owns (as_made shape)))
starts shape words is valid = record {
  owner = as_made shape;
  words = is;
  first = refl;
  kept = kept_as_made shape valid;
  each = λ j v at. only j v at;
}
  where
    only : (j : ℕ) (v : View) → get_elem? (Owns (as_made shape) ∷ []) j ≡ some v → ViewKept (as_made shape) j v
    only zero v at = subst (ViewKept (as_made shape) 0) (some-injective _ _ at) (refl, refl)
    only (suc j) v at = absurd (cc at)

-- What the seats' methods read off their steps

pub met_owns : (v w : View) → is_owner v ≡ true → is_owner (view_met v w) ≡ true
met_owns (Owns o) w e = refl
met_owns (Reads r) w e = absurd (cc e)
met_owns Spent w e = absurd (cc e)

pub met_reads : (v w : View) → is_reader v ≡ true → (is_reader (view_met v w) ≡ true) × (reader_in (view_met v w) ≡ told (reader_in v) (reader_in w))
met_reads (Owns o) w e = absurd (cc e)
met_reads (Reads r) w e = (refl, refl)
met_reads Spent w e = absurd (cc e)

-- the bucket of an open try
pub try_main : (shape : Shape) (current : Option Try) (b : ℕ) → is_some current ≡ true → ((t : Try) → current ≡ Some t → (t.bucket ≡ b) × IsMain shape b) → IsMain shape b
try_main shape None b trying tries = absurd (cc trying)
try_main shape (Some t) b trying tries = (tries t refl).1

-- the bucket of the try that a first epoch load opened

opened_bucket : (even : Bool) (b n : ℕ) (t : Try) → (if even then Some (new_try b n) else None) ≡ Some t → t.bucket ≡ b
opened_bucket true b n t e = cc
opened_bucket false b n t e = absurd (cc e)

pub opened_tries : (q q' : ReaderState) (b n : ℕ) → q' ≡ opened b n q → (t : Try) → q'.current ≡ Some t → t.bucket ≡ b
opened_tries q q' b n is t at = opened_bucket (n % 2 == 0) b n t (sym (ap (λ (z : ReaderState). z.current) is) ∙ at)

module _ (m m' m'' : Seated) (w : View) (n slots i : ℕ) (reads : is_reader m.0 ≡ true) (joined : m' ≡ (view_met m.0 w, m.1)) (h : stamps (step slots i 0 0 none) m' n m'') where
  told_is : reader_in m'.0 ≡ told (reader_in m.0) (reader_in w)
  told_is = ap (λ (z : Seated). reader_in z.0) joined ∙ (met_reads m.0 w reads).1

  both_known : MetKept (told (reader_in m.0) (reader_in w))
  both_known = subst MetKept told_is h.4

  seen_is : (reader_in m''.0).seen ≡ h.0
  seen_is = ap (λ (z : Seated). (reader_in z.0).seen) h.1

  done_is : (reader_in m''.0).done ≡ (told (reader_in m.0) (reader_in w)).done
  done_is = ap (λ (z : Seated). (reader_in z.0).done) h.1 ∙ ap (λ (z : ReaderState). z.done) told_is

  seen_more : (seen : History) → IsPrefix seen (told (reader_in m.0) (reader_in w)).seen → IsPrefix seen (reader_in m''.0).seen
  seen_more seen s = subst (IsPrefix seen) (sym seen_is)
      (prefix_then seen (told (reader_in m.0) (reader_in w)).seen h.0 s (subst (λ (z : ReaderState). IsPrefix z.seen h.0) told_is h.2))

  first_known : IsPrefix (reader_in m.0).seen (told (reader_in m.0) (reader_in w)).seen × IsPrefix (reader_in m.0).done (told (reader_in m.0) (reader_in w)).done
  first_known = both_known (known (reader_in m.0)) (in_head (known (reader_in m.0)) (known (reader_in w) ∷ []))

  second_known : IsPrefix (reader_in w).seen (told (reader_in m.0) (reader_in w)).seen × IsPrefix (reader_in w).done (told (reader_in m.0) (reader_in w)).done
  second_known = both_known (known (reader_in w)) (in_tail (known (reader_in m.0)) (known (reader_in w)) (known (reader_in w) ∷ []) (in_head (known (reader_in w)) []))

  pub told_seen : IsPrefix (reader_in m.0).seen (reader_in m''.0).seen × IsPrefix (reader_in w).seen (reader_in m''.0).seen
  told_seen = (seen_more (reader_in m.0).seen first_known.0, seen_more (reader_in w).seen second_known.0)

  pub told_done : IsPrefix (reader_in m.0).done (reader_in m''.0).done × IsPrefix (reader_in w).done (reader_in m''.0).done
  told_done = (subst (IsPrefix (reader_in m.0).done) (sym done_is) first_known.1, subst (IsPrefix (reader_in w).done) (sym done_is) second_known.1)
