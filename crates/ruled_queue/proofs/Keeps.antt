-- Each step at a queue keeps its rule.
use Rattle.std.proofs.Common.{◌≡◌, ◌≢◌, ℕ, zero, suc, ◌<◌, ◌≤◌, ◌==◌, ◌⊎◌, true, false, true≢false, cond, List, [], ◌∷◌, ◌++◌, length, set, sym, refl, ap, ◌∙◌, subst, inl, inr, ⊎_elim, append_assoc, append-nil, length-append, arith}
use Rattle.std.proofs.lemmas.List.Elements.{filter-append}
use Rattle.std.proofs.lemmas.Bool.Decides.{nat_tests}
use Rattle.std.proofs.lemmas.Bool.{cases_lt}
use Rattle.std.specs.Bool.{⊤}
use mathlib.Core.Option.{some, some-ne-none}
use lib.ListN.{get_elem?}
use Rattle.crossbeam_channel.specs.Fifo.{Pushes, Pops, Forks, Merges, Learns}
use Rattle.atomic_table.proofs.Lists.{at_set, at_snoc}
use Rattle.ruled_queue.specs.declared.rule.PassView.{PassView}
use Rattle.ruled_queue.specs.Delivery.{sender, receiver, newborn, nobody, with_sender, new_sender, told_by, from_sender, MayBeSent, Fits, Delivers, HasSent, HasTaken, IsWhole}

-- whether two numbers are the same
pub same_or_not : (p q : ℕ) → (p ≡ q) ⊎ (p ≢ q)
same_or_not p q = elim (p == q) as (λ b. (p == q) ≡ b → (p ≡ q) ⊎ (p ≢ q)) [ true ↦ λ e. inl (grind (arith, nat_tests)) | false ↦ λ e. inr (λ s. grind (arith, nat_tests)) ] refl

same_test : (p : ℕ) → (p == p) ≡ true
same_test p = grind (arith, nat_tests)

other_test : (p q : ℕ) → p ≢ q → (p == q) ≡ false
other_test p q n = grind (arith, nat_tests)

-- the pass of each sender, once q has this one
abbrev given : (ℕ → ℕ) → ℕ → ℕ → ℕ → ℕ
given owner q pass p = cond (p == q) pass (owner p)

given_own : (owner : ℕ → ℕ) (q pass : ℕ) → given owner q pass q ≡ pass
given_own owner q pass = rw (same_test q) refl

given_same : (owner : ℕ → ℕ) (q pass p : ℕ) → p ≢ q → given owner q pass p ≡ owner p
given_same owner q pass p n = rw (other_test p q n) refl

module _ {X : Type 0} where
  at_end : (l : List X) (a b : X) (j : ℕ) → length l ≤ j → get_elem? (l ++ a ∷ []) j ≡ some b → j ≡ length l
  at_end [] a b zero n e = refl
  at_end [] a b (suc j) n e = absurd (some-ne-none b (sym e))
  at_end (x ∷ xs) a b zero n e = absurd (omega arith)
  at_end (x ∷ xs) a b (suc j) n e = ap suc (at_end xs a b j (omega arith) e)

  get_front : (l m : List X) (j : ℕ) → j < length l → get_elem? l j ≡ get_elem? (l ++ m) j
  get_front [] m j l = absurd (omega arith)
  get_front (x ∷ xs) m zero l = refl
  get_front (x ∷ xs) m (suc j) l = get_front xs m j (omega arith)

  abbrev AllAt : (ℕ → X → Type 0) → List X → Type 0
  AllAt F views = (pass : ℕ) (v : X) → get_elem? views pass ≡ some v → F pass v

  all_set : (F : ℕ → X → Type 0) (views : List X) (pass : ℕ) (w : X) → F pass w → ((j : ℕ) (u : X) → j ≢ pass → get_elem? views j ≡ some u → F j u) → AllAt F (set views pass w)
  all_set F views pass w mine others j u e = ⊎_elim (λ (x : (j ≡ pass) × (w ≡ u)). subst (λ (y : ℕ × X). F y.0 y.1) (λ i. (sym x.0 i, x.1 i)) mine)
      (λ (x : (j ≢ pass) × (get_elem? views j ≡ some u)). others j u x.0 x.1) (at_set views pass j w u e)

  all_more : (F : ℕ → X → Type 0) (views : List X) (w : X) → F (length views) w → AllAt F views → AllAt F (views ++ w ∷ [])
  all_more F views w mine old j u e =
      ⊎_elim (λ (l : j < length views). old j u (get_front views (w ∷ []) j l ∙ e))
      (λ (l : length views ≤ j). ⊎_elim (λ (x : get_elem? views j ≡ some u). old j u x)
      (λ (is : w ≡ u). subst (λ (y : ℕ × X). F y.0 y.1) (λ i. (sym (at_end views w u j l e) i, is i)) mine) (at_snoc views w u j e))
      (cases_lt j (length views))

  split_end : (xs a b : List X) (m x : X) → xs ++ m ∷ [] ≡ a ++ x ∷ b → ((xs ≡ a) × (m ≡ x)) ⊎ ((c : List X) × (xs ≡ a ++ x ∷ c))
  split_end [] [] b m x e = inl (refl, cc)
  split_end [] (y ∷ a) b m x e = absurd (omega (arith, ap length e, length-append a (x ∷ b)))
  split_end (z ∷ xs) [] b m x e = inr (xs, cc)
  split_end (z ∷ xs) (y ∷ a) b m x e =
      let h : z ≡ y = cc in
      let t : xs ++ m ∷ [] ≡ a ++ x ∷ b = cc in
      ⊎_elim (λ (s : (xs ≡ a) × (m ≡ x)). inl (cc, s.1)) (λ (s : (c : List X) × (xs ≡ a ++ x ∷ c)). inr (s.0, (let f = s.1 in cc))) (split_end xs a b m x t)

-- the messages of one sender

module _ {T : Type 0} (sender_of : T → ℕ) where
  pub from_own : (p : ℕ) (m : T) → sender_of m ≡ p → from_sender sender_of p (m ∷ []) ≡ m ∷ []
  from_own p m e = rw (e, same_test p) refl

  pub from_other : (p : ℕ) (m : T) → sender_of m ≢ p → from_sender sender_of p (m ∷ []) ≡ []
  from_other p m n = rw (other_test (sender_of m) p n) refl

  from_next : (p : ℕ) (m : T) (ms : List T) → sender_of m ≡ p → from_sender sender_of p (m ∷ ms) ≡ m ∷ from_sender sender_of p ms
  from_next p m ms e = rw (e, same_test p) refl

  pub from_append : (p : ℕ) (a b : List T) → from_sender sender_of p (a ++ b) ≡ from_sender sender_of p a ++ from_sender sender_of p b
  from_append p a b = filter-append (λ x. sender_of x == p) a b

  -- what was sent once m was: it stands behind what its sender sent before
  abbrev and_then : (ℕ → List T) → T → ℕ → List T
  and_then sent m p = sent p ++ from_sender sender_of p (m ∷ [])

  then_same : (sent : ℕ → List T) (m : T) (p : ℕ) → sender_of m ≢ p → and_then sent m p ≡ sent p
  then_same sent m p n = rw (from_other p m n) (append-nil (sent p))

  then_own : (sent : ℕ → List T) (m : T) (p : ℕ) → sender_of m ≡ p → and_then sent m p ≡ sent p ++ m ∷ []
  then_own sent m p e = ap (λ l. sent p ++ l) (from_own p m e)

module _ {T S : Type 0} (sender_of : T → ℕ) (follows : S → List T → T → Type 0) where
  abbrev Of : ℕ → List T → List T
  Of = from_sender sender_of

  abbrev Rule : List T → List (PassView T S) → Type 0
  Rule = Delivers sender_of follows

  lawful_nil : (terms : S) → MayBeSent follows terms []
  lawful_nil terms a b m e = absurd (omega (arith, ap length e, length-append a (m ∷ b)))

  lawful_more : (terms : S) (xs : List T) (m : T) → MayBeSent follows terms xs → follows terms xs m → MayBeSent follows terms (xs ++ m ∷ [])
  lawful_more terms xs m lawful may a b x e =
      ⊎_elim (λ (s : (xs ≡ a) × (m ≡ x)). subst (λ (y : List T × T). follows terms y.0 y.1) (λ i. (s.0 i, s.1 i)) may)
      (λ (s : (c : List T) × (xs ≡ a ++ x ∷ c)). lawful a s.0 x s.1) (split_end xs a b m x e)

  then_lawful : (terms : S) (sent : ℕ → List T) (m : T) → ((p : ℕ) → MayBeSent follows terms (sent p)) → follows terms (sent (sender_of m)) m → (p : ℕ) → MayBeSent follows terms (and_then sender_of sent m p)
  then_lawful terms sent m lawful may p =
      ⊎_elim
      (λ (e : sender_of m ≡ p). subst (MayBeSent follows terms) (sym (then_own sender_of sent m p e)) (lawful_more terms (sent p) m (lawful p) (subst (λ (q : ℕ). follows terms (sent q) m) e may)))
      (λ (n : sender_of m ≢ p). subst (MayBeSent follows terms) (sym (then_same sender_of sent m p n)) (lawful p)) (same_or_not (sender_of m) p)

  pub begins : (unset : S) → Rule [] (newborn unset ∷ [])
  begins unset = record {
    terms = unset;
    reader = 0;
    owner = λ p. 0;
    sent = λ p. [];
    taken = [];
    kept = λ p. refl;
    lawful = λ p. lawful_nil unset;
    fits = all_more (Fits unset 0 (λ p. 0) (λ p. []) []) [] (newborn unset)
        record {
          as_sender = λ s. absurd (true≢false (sym s));
          as_receiver = λ _. record { is_reader = refl; is_silent = refl; taken_is = refl; terms_are = refl; later_owner = λ p _. refl; later_sent = λ p _. refl; heard_owner = λ _. refl; heard_sent = λ _. refl };
        }
        (λ j u e. absurd (some-ne-none u (sym e)));
  }

  -- a sender puts a message at the back that may follow what it sent
  sends : (n pass : ℕ) (v : PassView T S) (m : T) → v.sends ≡ true → v.takes ≡ false → sender_of m ≡ v.number → follows v.terms v.sent m
      → Pushes Rule n pass v m (HasSent v m)
  sends n pass v m may silent own fitting items views _ h at =
      let w : PassView T S = sender v.number v.terms (v.sent ++ m ∷ []) in
      let mine = (h.fits pass v at).as_sender may in
      let sent' : ℕ → List T = and_then sender_of h.sent m in
      let apart : (k : ℕ) → k ≢ pass → (q : ℕ) → h.owner q ≡ k → sender_of m ≢ q = λ k n q o s. n (sym o ∙ (ap h.owner (sym s ∙ own) ∙ mine.owner_is)) in (
        w,
        record {
          terms = h.terms;
          reader = h.reader;
          owner = h.owner;
          sent = sent';
          taken = h.taken;
          kept = λ p. ap (Of p) (sym (append_assoc h.taken items (m ∷ []))) ∙ (from_append sender_of p (h.taken ++ items) (m ∷ []) ∙ ap (λ l. l ++ Of p (m ∷ [])) (h.kept p));
          lawful = then_lawful h.terms h.sent m h.lawful (subst (λ (y : S × List T). follows y.0 y.1 m) (λ i. (mine.terms_are i, (mine.sent_is ∙ ap h.sent (sym own)) i)) fitting);
          fits = all_set (Fits h.terms h.reader h.owner sent' h.taken) views pass w
              record {
                as_sender = λ _. record { owner_is = mine.owner_is; sent_is = ap (λ l. l ++ m ∷ []) mine.sent_is ∙ sym (then_own sender_of h.sent m v.number own); terms_are = mine.terms_are };
                as_receiver = λ t. absurd (true≢false (sym t));
              }
              (λ j u other e. let theirs = h.fits j u e in record {
                as_sender = λ s. let f = theirs.as_sender s in record { owner_is = f.owner_is; sent_is = f.sent_is ∙ sym (then_same sender_of h.sent m u.number (apart j other u.number f.owner_is)); terms_are = f.terms_are };
                as_receiver = λ t. let f = theirs.as_receiver t in record {
                  is_reader = f.is_reader;
                  is_silent = f.is_silent;
                  taken_is = f.taken_is;
                  terms_are = f.terms_are;
                  later_owner = f.later_owner;
                  later_sent = λ p far. then_same sender_of h.sent m p (apart j other p (f.later_owner p far ∙ sym f.is_reader)) ∙ f.later_sent p far;
                  heard_owner = f.heard_owner;
                  heard_sent = λ s. f.heard_sent s ∙ sym (then_same sender_of h.sent m u.heard (apart j other u.heard (f.heard_owner s ∙ sym f.is_reader)));
                };
              });
        },
        refl,
      )

  -- the front is the next message of its sender
  next_is : (p : ℕ) (taken items : List T) (m : T) → sender_of m ≡ p → Of p (taken ++ m ∷ items) ≡ Of p taken ++ m ∷ Of p items
  next_is p taken items m e = from_append sender_of p taken (m ∷ items) ∙ ap (λ l. Of p taken ++ l) (from_next sender_of p m items e)

  takes : (pass : ℕ) (v : PassView T S) → v.takes ≡ true → v.sends ≡ false → Pops Rule pass v (HasTaken sender_of follows v)
  takes pass v may silent m items views h at =
      let w : PassView T S = receiver v.number v.terms (v.taken ++ m ∷ []) in
      let mine = (h.fits pass v at).as_receiver may in
      let p : ℕ = sender_of m in
      let next : Of p h.taken ++ m ∷ Of p items ≡ h.sent p = sym (next_is p h.taken items m refl) ∙ h.kept p in
      let taken' : List T = h.taken ++ m ∷ [] in (
        w,
        record {
          terms = h.terms;
          reader = h.reader;
          owner = h.owner;
          sent = h.sent;
          taken = taken';
          kept = λ p. ap (Of p) (append_assoc h.taken (m ∷ []) items) ∙ h.kept p;
          lawful = h.lawful;
          fits = all_set (Fits h.terms h.reader h.owner h.sent taken') views pass w
              record {
                as_sender = λ s. absurd (true≢false (sym s));
                as_receiver = λ _. record {
                  is_reader = mine.is_reader;
                  is_silent = refl;
                  taken_is = ap (λ l. l ++ m ∷ []) mine.taken_is;
                  terms_are = mine.terms_are;
                  later_owner = mine.later_owner;
                  later_sent = mine.later_sent;
                  heard_owner = λ s. absurd (true≢false (sym s));
                  heard_sent = λ s. absurd (true≢false (sym s));
                };
              }
              (λ j u other e. record { as_sender = λ s. let f = (h.fits j u e).as_sender s in record { owner_is = f.owner_is; sent_is = f.sent_is; terms_are = f.terms_are }; as_receiver = λ t. absurd (other (((h.fits j u e).as_receiver t).is_reader ∙ sym mine.is_reader)) });
        },
        (
          refl,
          ⊎_elim (λ (s : p < v.number). s)
              (λ (far : v.number ≤ p). absurd (omega (arith, ap length (next ∙ mine.later_sent p far), length-append (Of p h.taken) (m ∷ Of p items)))) (cases_lt p v.number),
          subst (λ (y : S × List T). follows y.0 (Of p y.1) m) (λ i. (sym mine.terms_are i, sym mine.taken_is i)) (h.lawful p (Of p h.taken) (Of p items) m (sym next)),
        ),
      )

  -- a sender may be added while its number is free. The first one settles the terms
  forks : (terms : S) (pass : ℕ) (v : PassView T S) → v.takes ≡ true → v.sends ≡ false → (v.number ≡ 0) ⊎ (v.terms ≡ terms)
      → Forks Rule pass v (with_sender terms v) (new_sender terms v)
  forks terms pass v may silent settled items views h at =
      let left : PassView T S = with_sender terms v in
      let right : PassView T S = new_sender terms v in
      let mine = (h.fits pass v at).as_receiver may in
      let vs : List (PassView T S) = set views pass left in
      let new : ℕ = length vs in
      let owner' : ℕ → ℕ = given h.owner v.number new in
      let same_terms : (p : ℕ) → p < v.number → h.terms ≡ terms = λ p below. ⊎_elim (λ (z : v.number ≡ 0). absurd (omega arith)) (λ (s : v.terms ≡ terms). sym mine.terms_are ∙ s) settled in
      let as_left : Fits terms h.reader owner' h.sent h.taken pass left = record {
        as_sender = λ s. absurd (true≢false (sym s));
        as_receiver = λ _. record {
          is_reader = mine.is_reader;
          is_silent = refl;
          taken_is = mine.taken_is;
          terms_are = refl;
          later_owner = λ p far. given_same h.owner v.number new p (λ s. omega arith) ∙ mine.later_owner p (omega arith);
          later_sent = λ p far. mine.later_sent p (omega arith);
          heard_owner = λ s. absurd (true≢false (sym s));
          heard_sent = λ s. absurd (true≢false (sym s));
        };
      } in
      record {
        terms = terms;
        reader = h.reader;
        owner = owner';
        sent = h.sent;
        taken = h.taken;
        kept = h.kept;
        lawful = λ p. ⊎_elim (λ (s : p < v.number). subst (λ (n : S). MayBeSent follows n (h.sent p)) (same_terms p s) (h.lawful p))
            (λ (far : v.number ≤ p). subst (MayBeSent follows terms) (sym (mine.later_sent p far)) (lawful_nil terms)) (cases_lt p v.number);
        fits = all_more (Fits terms h.reader owner' h.sent h.taken) vs right
            record { as_sender = λ _. record { owner_is = given_own h.owner v.number new; sent_is = sym (mine.later_sent v.number (omega arith)); terms_are = refl }; as_receiver = λ t. absurd (true≢false (sym t)) }
            (all_set (Fits terms h.reader owner' h.sent h.taken) views pass left as_left (λ j u other e. record {
              as_sender = λ s. let f = (h.fits j u e).as_sender s in
                  let below : u.number < v.number = ⊎_elim (λ (b : u.number < v.number). b) (λ (far : v.number ≤ u.number). absurd (other (sym f.owner_is ∙ (mine.later_owner u.number far ∙ sym mine.is_reader)))) (cases_lt u.number v.number) in
                  record { owner_is = given_same h.owner v.number new u.number (λ s. omega arith) ∙ f.owner_is; sent_is = f.sent_is; terms_are = f.terms_are ∙ same_terms u.number below };
              as_receiver = λ t. absurd (other (((h.fits j u e).as_receiver t).is_reader ∙ sym mine.is_reader));
            }));
      }

  -- a sender that the receiver takes in leaves the others as they are
  pub merges : (unset : S) (pass : ℕ) (v : PassView T S) (other : ℕ) (w : PassView T S) → v.takes ≡ true → v.sends ≡ false → w.sends ≡ true → Merges Rule pass v other w (told_by v w) (nobody unset)
  merges unset pass v other w may silent ends items views h at two at' =
      let both : PassView T S = told_by v w in
      let mine = (h.fits pass v at).as_receiver may in
      let vs : List (PassView T S) = set views pass both in
      let was : get_elem? views other ≡ some w = ⊎_elim (λ (x : (other ≡ pass) × (both ≡ w)). absurd (two x.0)) (λ (x : (other ≢ pass) × (get_elem? views other ≡ some w)). x.1) (at_set views pass other both w at') in
      let theirs = (h.fits other w was).as_sender ends in
      let owner' : ℕ → ℕ = given h.owner w.number h.reader in
      let to_reader : (p : ℕ) → h.owner p ≡ h.reader → owner' p ≡ h.reader = λ p o.
      ⊎_elim (λ (s : p ≡ w.number). ap owner' s ∙ given_own h.owner w.number h.reader) (λ (n : p ≢ w.number). given_same h.owner w.number h.reader p n ∙ o) (same_or_not p w.number) in
      let Now : ℕ → PassView T S → Type 0 = λ j u. j ≢ other → Fits h.terms h.reader owner' h.sent h.taken j u in
      let now : AllAt Now vs = all_set Now views pass both
      (λ _. record {
        as_sender = λ s. absurd (true≢false (sym s));
        as_receiver = λ _. record {
          is_reader = mine.is_reader;
          is_silent = refl;
          taken_is = mine.taken_is;
          terms_are = mine.terms_are;
          later_owner = λ p far. to_reader p (mine.later_owner p far);
          later_sent = mine.later_sent;
          heard_owner = λ _. given_own h.owner w.number h.reader;
          heard_sent = λ _. theirs.sent_is;
        };
      })
      (λ j u away e apart. record {
        as_sender = λ s. let f = (h.fits j u e).as_sender s in
            record { owner_is = given_same h.owner w.number h.reader u.number (λ n. apart (sym f.owner_is ∙ (ap h.owner n ∙ theirs.owner_is))) ∙ f.owner_is; sent_is = f.sent_is; terms_are = f.terms_are };
        as_receiver = λ t. absurd (away (((h.fits j u e).as_receiver t).is_reader ∙ sym mine.is_reader));
      }) in
      record {
        terms = h.terms;
        reader = h.reader;
        owner = owner';
        sent = h.sent;
        taken = h.taken;
        kept = h.kept;
        lawful = h.lawful;
        fits = all_set (Fits h.terms h.reader owner' h.sent h.taken) vs other (nobody unset) record { as_sender = λ s. absurd (true≢false (sym s)); as_receiver = λ t. absurd (true≢false (sym t)) }
            (λ j u apart e. now j u e apart);
      }

  learns : (pass : ℕ) (v : PassView T S) → v.takes ≡ true → v.hears ≡ true → Learns Rule pass v (IsWhole sender_of follows v)
  learns pass v may hears items views h at =
      let mine = (h.fits pass v at).as_receiver may in
      let same : h.sent v.heard ≡ v.sent = sym (mine.heard_sent hears) in (
        ap (λ l. Of v.heard (l ++ items)) mine.taken_is ∙ (h.kept v.heard ∙ same),
        subst (λ (y : S × List T). MayBeSent follows y.0 y.1) (λ i. (sym mine.terms_are i, same i)) (h.lawful v.heard),
      )

  -- The steps above, from what a caller knows of the pass and of the message when the call began.

  pub send_rule : (n pass : ℕ) (u v : PassView T S) (k m : T) → u ≡ v → k ≡ m → v ≡ sender v.number v.terms v.sent → sender_of m ≡ v.number → follows v.terms v.sent m
      → Pushes Rule n pass u k (HasSent u k) × Learns Rule pass u (λ items. ⊤)
  send_rule n pass u v k m e f is own fitting =
      subst (λ (y : PassView T S × T). Pushes Rule n pass y.0 y.1 (HasSent y.0 y.1) × Learns Rule pass y.0 (λ items. ⊤)) (λ i. (sym e i, sym f i))
      (sends n pass v m (ap (λ (y : PassView T S). y.sends) is) (ap (λ (y : PassView T S). y.takes) is) own fitting, λ items views h at. tt)

  pub take_rule : (pass : ℕ) (u v : PassView T S) → u ≡ v → v.takes ≡ true → v.sends ≡ false → Pops Rule pass u (HasTaken sender_of follows u) × Learns Rule pass u (λ items. ⊤)
  take_rule pass u v e may silent =
      subst (λ (y : PassView T S). Pops Rule pass y (HasTaken sender_of follows y) × Learns Rule pass y (λ items. ⊤)) (sym e) (takes pass v may silent, λ items views h at. tt)

  pub learn_rule : (pass : ℕ) (u v w : PassView T S) → u ≡ told_by v w → Learns Rule pass u (IsWhole sender_of follows u)
  learn_rule pass u v w e = subst (λ (y : PassView T S). Learns Rule pass y (IsWhole sender_of follows y)) (sym e) (learns pass (told_by v w) refl refl)

  pub whole_rule : (u v w : PassView T S) (items : List T) → u ≡ told_by v w → IsWhole sender_of follows u items
      → (Of w.number (v.taken ++ items) ≡ w.sent) × MayBeSent follows v.terms w.sent
  whole_rule u v w items e whole = subst (λ (y : PassView T S). IsWhole sender_of follows y items) e whole

  pub fork_rule : (terms : S) (pass made : ℕ) (v : PassView T S) → v.takes ≡ true → v.sends ≡ false → v.number ≡ made → (made ≡ 0) ⊎ (v.terms ≡ terms) → Forks Rule pass v (with_sender terms v) (new_sender terms v)
  fork_rule terms pass made v may silent n settled = forks terms pass v may silent (⊎_elim (λ (z : made ≡ 0). inl (n ∙ z)) (λ (s : v.terms ≡ terms). inr s) settled)

  pub first_fork : (unset terms : S) (pass : ℕ) (v : PassView T S) → v ≡ newborn unset → Forks Rule pass v (with_sender terms v) (new_sender terms v)
  first_fork unset terms pass v is = forks terms pass v (ap (λ (y : PassView T S). y.takes) is) (ap (λ (y : PassView T S). y.sends) is) (inl (ap (λ (y : PassView T S). y.number) is))
