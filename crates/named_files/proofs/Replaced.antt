-- What a crash leaves between the calls that put a file in the place of another.
use Rattle.std.proofs.Common.{◌≡◌, ◌⊎◌, inl, inr, ⊎_elim, ℕ, zero, suc, List, [], ◌∷◌, ◌++◌, length, drop, take, refl, sym, ap, subst, ◌∙◌}
use Rattle.std.specs.Prelude.{Option, Some, None, option_map}
use Rattle.std.proofs.lemmas.List.{take_all}
use Rattle.named_files.specs.Files.{Version, FileState, seen, LeavesOf, LeavesOne, LeavesSince, IsSettled, Told, LeavesEither, KeepsFile, beside_of, begun, appended, synced, renamed, put_away, names_synced, Tries}

none_of_none : (t : ℕ) (c : Option (List ℕ)) (P : Type 0) → LeavesOne (drop t []) c → P
none_of_none zero c P left = absurd left
none_of_none (suc t) c P left = absurd left

-- one more behind
left_with : (t : ℕ) (versions : List Version) (version : Version) (c : Option (List ℕ)) → LeavesOne (drop t (versions ++ version ∷ [])) c → LeavesOne (drop t versions) c ⊎ LeavesOf version c
left_with zero [] version c left = ⊎_elim inr (λ no. absurd no) left
left_with zero (first ∷ versions) version c left = ⊎_elim (λ one. inl (inl one)) (λ more. ⊎_elim (λ l. inl (inr l)) inr (left_with zero versions version c more)) left
left_with (suc t) [] version c left = none_of_none t c (LeavesOne [] c ⊎ LeavesOf version c) left
left_with (suc t) (first ∷ versions) version c left = left_with t versions version c left

none_left : (versions : List Version) (c : Option (List ℕ)) (P : Type 0) → LeavesOne (drop (length versions) versions) c → P
none_left [] c P left = absurd left
none_left (version ∷ versions) c P left = none_left versions c P left

-- all of a file is on the disk
whole_left : (bytes : List ℕ) (c : Option (List ℕ)) → LeavesOf (record { file = Some bytes; kept = length bytes }) c → c ≡ Some bytes
whole_left bytes c left = left.2 ∙ ap (λ (b : List ℕ). Some b) (take_all left.0 bytes left.1)

no_left : (c : Option (List ℕ)) → LeavesOf (record { file = None; kept = 0 }) c → c ≡ None
no_left c left = left.2

named_leaves : (s t : FileState) (other : Option (List ℕ)) → IsSettled s → t.past ≡ s.past ++ s.now ∷ [] → ((c : Option (List ℕ)) → LeavesOf t.now c → c ≡ other)
    → (c : Option (List ℕ)) → LeavesSince s.first t c → (c ≡ seen s) ⊎ (c ≡ other)
named_leaves s t other settled past sure c left =
    ⊎_elim (λ before. inl (settled c (left_with s.first s.past s.now c (subst (λ (versions : List Version). LeavesOne (drop s.first versions) c) past before)))) (λ now. inr (sure c now)) left

-- what is as it was
pub either_kept : (old new : Option FileState) (other : Option (List ℕ)) → Told old IsSettled → KeepsFile old new → LeavesEither old new other
either_kept None new other settled keeps = tt
either_kept (Some s) None other settled keeps = absurd keeps
either_kept (Some s) (Some t) other settled keeps = λ c left.
    let left' = subst (λ (v : Version). LeavesOne (drop s.first t.past) c ⊎ LeavesOf v c) keeps.1 left in
    inl (settled c (subst (λ (versions : List Version). LeavesOne (drop s.first versions) c ⊎ LeavesOf s.now c) keeps.0 left'))

pub KeepsFile-refl : (old : Option FileState) → KeepsFile old old
KeepsFile-refl None = tt
KeepsFile-refl (Some s) = (refl, refl, refl)

pub KeepsFile-trans : (a b c : Option FileState) → KeepsFile a b → KeepsFile b c → KeepsFile a c
KeepsFile-trans None None c p q = q
KeepsFile-trans None (Some y) c p q = absurd p
KeepsFile-trans (Some x) None c p q = absurd p
KeepsFile-trans (Some x) (Some y) None p q = absurd q
KeepsFile-trans (Some x) (Some y) (Some z) p q = (q.0 ∙ p.0, q.1 ∙ p.1, q.2 ∙ p.2)

pub keeps_same : (old new : Option FileState) → new ≡ old → KeepsFile old new
keeps_same old new is = subst (KeepsFile old) (sym is) (KeepsFile-refl old)

pub keeps_begun : (old new : Option FileState) → new ≡ option_map begun old → KeepsFile old new
keeps_begun None new is = subst (KeepsFile None) (sym is) tt
keeps_begun (Some s) new is = subst (KeepsFile (Some s)) (sym is) (refl, refl, refl)

pub keeps_appended : (piece : List ℕ) (old new : Option FileState) → new ≡ option_map (appended piece) old → KeepsFile old new
keeps_appended piece None new is = subst (KeepsFile None) (sym is) tt
keeps_appended piece (Some s) new is = subst (KeepsFile (Some s)) (sym is) (refl, refl, refl)

pub keeps_synced : (old new : Option FileState) → new ≡ option_map synced old → KeepsFile old new
keeps_synced None new is = subst (KeepsFile None) (sym is) tt
keeps_synced (Some s) new is = subst (KeepsFile (Some s)) (sym is) (refl, refl, refl)

pub tries_begun : (old new : Option FileState) → Tries begun old new → KeepsFile old new
tries_begun old new tried = ⊎_elim (keeps_same old new) (keeps_begun old new) tried

pub begun_then : (old mid new : Option FileState) → mid ≡ option_map begun old → KeepsFile mid new → KeepsFile old new
begun_then old mid new first keeps = KeepsFile-trans old mid new (keeps_begun old mid first) keeps

-- begun and written, it has the text
pub has_text : (text : List ℕ) (old mid new : Option FileState) → mid ≡ option_map begun old → new ≡ option_map (appended text) mid → Told new (λ state. state.beside ≡ text)
has_text text None mid new first second = subst (λ (n : Option FileState). Told n (λ state. state.beside ≡ text)) (sym (second ∙ ap (option_map (appended text)) first)) tt
has_text text (Some s) mid new first second = subst (λ (n : Option FileState). Told n (λ state. state.beside ≡ text)) (sym (second ∙ ap (option_map (appended text)) first)) refl

-- ---- a file in the place of another

either_put : (old new : Option FileState) → Told old IsSettled → (new ≡ option_map renamed (option_map synced old)) ⊎ (new ≡ option_map names_synced (option_map renamed (option_map synced old)))
    → LeavesEither old new (beside_of old)
either_put None new settled which = tt
either_put (Some s) new settled which =
    ⊎_elim
    (λ is. subst (λ (n : Option FileState). LeavesEither (Some s) n (Some s.beside)) (sym is) (named_leaves s (renamed (synced s)) (Some s.beside) settled refl (whole_left s.beside)))
    (λ is. subst (λ (n : Option FileState). LeavesEither (Some s) n (Some s.beside)) (sym is) (named_leaves s (names_synced (renamed (synced s))) (Some s.beside) settled refl (whole_left s.beside)))
    which

module _ (old : Option FileState) (settled : Told old IsSettled) where
  pub sync_fails : (new : Option FileState) → Tries synced old new → LeavesEither old new (beside_of old)
  sync_fails new tried = either_kept old new (beside_of old) settled (⊎_elim (keeps_same old new) (keeps_synced old new) tried)

  module _ (mid : Option FileState) (first : mid ≡ option_map synced old) where
    pub rename_fails : (new : Option FileState) → Tries renamed mid new → LeavesEither old new (beside_of old)
    rename_fails new tried =
        ⊎_elim (λ same. either_kept old new (beside_of old) settled (keeps_synced old new (same ∙ first))) (λ did. either_put old new settled (inl (did ∙ ap (option_map renamed) first))) tried

    module _ (next : Option FileState) (second : next ≡ option_map renamed mid) where
      pub names_fail : (new : Option FileState) → Tries names_synced next new → LeavesEither old new (beside_of old)
      names_fail new tried =
          let so_far : next ≡ option_map renamed (option_map synced old) = second ∙ ap (option_map renamed) first in
          either_put old new settled (⊎_elim (λ same. inl (same ∙ so_far)) (λ did. inr (did ∙ ap (option_map names_synced) so_far)) tried)

      pub put_leaves : (new : Option FileState) → new ≡ option_map names_synced next → LeavesEither old new (beside_of old)
      put_leaves new third = names_fail new (inr third)

      pub put_seen : (new : Option FileState) → new ≡ option_map names_synced next → Told new (λ state. seen state ≡ beside_of old)
      put_seen new third = is_seen old new (third ∙ ap (option_map names_synced) (second ∙ ap (option_map renamed) first))
        where
          is_seen : (o n : Option FileState) → n ≡ option_map names_synced (option_map renamed (option_map synced o)) → Told n (λ state. seen state ≡ beside_of o)
          is_seen None n is = subst (λ (m : Option FileState). Told m (λ state. seen state ≡ None)) (sym is) tt
          is_seen (Some s) n is = subst (λ (m : Option FileState). Told m (λ state. seen state ≡ Some s.beside)) (sym is) refl

      pub put_settled : (new : Option FileState) → new ≡ option_map names_synced next → Told new IsSettled
      put_settled new third = is_settled old new (third ∙ ap (option_map names_synced) (second ∙ ap (option_map renamed) first))
        where
          is_settled : (o n : Option FileState) → n ≡ option_map names_synced (option_map renamed (option_map synced o)) → Told n IsSettled
          is_settled None n is = subst (λ (m : Option FileState). Told m IsSettled) (sym is) tt
          is_settled (Some s) n is = subst (λ (m : Option FileState). Told m IsSettled) (sym is) (λ c left. ⊎_elim (λ before. none_left (s.past ++ s.now ∷ []) c (c ≡ Some s.beside) before) (whole_left s.beside c) left)

-- ---- none in the place of a file

either_away : (old new : Option FileState) → Told old IsSettled → (new ≡ option_map put_away old) ⊎ (new ≡ option_map names_synced (option_map put_away old)) → LeavesEither old new None
either_away None new settled which = tt
either_away (Some s) new settled which =
    ⊎_elim
    (λ is. subst (λ (n : Option FileState). LeavesEither (Some s) n None) (sym is) (named_leaves s (put_away s) None settled refl no_left))
    (λ is. subst (λ (n : Option FileState). LeavesEither (Some s) n None) (sym is) (named_leaves s (names_synced (put_away s)) None settled refl no_left))
    which

module _ (old : Option FileState) (settled : Told old IsSettled) where
  pub away_fails : (new : Option FileState) → Tries put_away old new → LeavesEither old new None
  away_fails new tried = ⊎_elim (λ same. either_kept old new None settled (keeps_same old new same)) (λ did. either_away old new settled (inl did)) tried

  module _ (mid : Option FileState) (first : mid ≡ option_map put_away old) where
    pub away_names_fail : (new : Option FileState) → Tries names_synced mid new → LeavesEither old new None
    away_names_fail new tried = either_away old new settled (⊎_elim (λ same. inl (same ∙ first)) (λ did. inr (did ∙ ap (option_map names_synced) first)) tried)

    pub away_leaves : (new : Option FileState) → new ≡ option_map names_synced mid → LeavesEither old new None
    away_leaves new second = away_names_fail new (inr second)

    pub away_seen : (new : Option FileState) → new ≡ option_map names_synced mid → Told new (λ state. seen state ≡ None)
    away_seen new second = is_seen old new (second ∙ ap (option_map names_synced) first)
      where
        is_seen : (o n : Option FileState) → n ≡ option_map names_synced (option_map put_away o) → Told n (λ state. seen state ≡ None)
        is_seen None n is = subst (λ (m : Option FileState). Told m (λ state. seen state ≡ None)) (sym is) tt
        is_seen (Some s) n is = subst (λ (m : Option FileState). Told m (λ state. seen state ≡ None)) (sym is) refl

    pub away_settled : (new : Option FileState) → new ≡ option_map names_synced mid → Told new IsSettled
    away_settled new second = is_settled old new (second ∙ ap (option_map names_synced) first)
      where
        is_settled : (o n : Option FileState) → n ≡ option_map names_synced (option_map put_away o) → Told n IsSettled
        is_settled None n is = subst (λ (m : Option FileState). Told m IsSettled) (sym is) tt
        is_settled (Some s) n is = subst (λ (m : Option FileState). Told m IsSettled) (sym is) (λ c left. ⊎_elim (λ before. none_left (s.past ++ s.now ∷ []) c (c ≡ None) before) (no_left c) left)

-- ---- both: begun, written, put in place

-- what stands in the place of a kept file
pub put_after : (old mid new : Option FileState) (text : List ℕ) → KeepsFile old mid → Told mid (λ state. state.beside ≡ text) → LeavesEither mid new (beside_of mid) → LeavesEither old new (Some text)
put_after None mid new text keeps wrote leaves = tt
put_after (Some s) None new text keeps wrote leaves = absurd keeps
put_after (Some s) (Some m) None text keeps wrote leaves = absurd leaves
put_after (Some s) (Some m) (Some t) text keeps wrote leaves = λ c left.
    let left' = subst (λ (n : ℕ). LeavesSince n t c) (sym keeps.2) left in
    ⊎_elim (λ was. inl (was ∙ ap (λ (v : Version). v.file) keeps.1)) (λ is. inr (is ∙ ap (λ (b : List ℕ). Some b) wrote)) (leaves c left')

pub settled_kept : (old mid : Option FileState) → Told old IsSettled → KeepsFile old mid → Told mid IsSettled
settled_kept None None settled keeps = tt
settled_kept None (Some m) settled keeps = absurd keeps
settled_kept (Some s) None settled keeps = absurd keeps
settled_kept (Some s) (Some m) settled keeps = λ c left.
    let from = subst (λ (n : ℕ). LeavesOne (drop n m.past) c ⊎ LeavesOf m.now c) keeps.2 left in
    let among = subst (λ (versions : List Version). LeavesOne (drop s.first versions) c ⊎ LeavesOf m.now c) keeps.0 from in
    let all = subst (λ (v : Version). LeavesOne (drop s.first s.past) c ⊎ LeavesOf v c) keeps.1 among in
    settled c all ∙ sym (ap (λ (v : Version). v.file) keeps.1)

pub seen_after : (mid new : Option FileState) (text : List ℕ) → Told mid (λ state. state.beside ≡ text) → Told new (λ state. seen state ≡ beside_of mid) → (mid ≡ None → new ≡ None) → Told new (λ state. seen state ≡ Some text)
seen_after None None text wrote is silent = tt
seen_after None (Some t) text wrote is silent = absurd (cc (silent refl))
seen_after (Some m) None text wrote is silent = tt
seen_after (Some m) (Some t) text wrote is silent = is ∙ ap (λ (b : List ℕ). Some b) wrote
