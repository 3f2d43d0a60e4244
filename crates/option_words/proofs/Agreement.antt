-- clap reads options as the grammar does.
use Rattle.std.proofs.Common.{◌≡◌, ◌≢◌, ℕ, ◌==◌, ◌&&◌, ◌||◌, Bool, true, false, not, List, [], ◌∷◌, ◌++◌, map, Option, Some, None, sym, refl, ap, ◌∙◌, subst, ⊎_elim, one-add, arith}
use Rattle.std.specs.Prelude.{fold, if◌then◌else◌}
use Rattle.std.specs.List.{list_any, before_first, after_first}
use Rattle.std.specs.Str.{bytes_eq}
use Rattle.std.proofs.lemmas.Grind.{common_steps}
use Rattle.clap.specs.Walk.{Rule, Row, Held, Walk, idle, option, Waiting, positional, walked, settled, has_row, with_default, nothing_held, rows_after, first_of, rows_of}
use Rattle.clap.specs.Simple.{is_simple, App, built, entered, matches_of, HasMatchesOf}
use Rattle.clap.specs.Takes.{is_given as is_there}
use Rattle.clap.specs.Kinds.{Kinds, or_else, HasKind}
use Rattle.clap.specs.Values.{kind_of}
use Rattle.clap.specs.Matches.{found_of, first_value}
use Rattle.clap.proofs.WalkLemmas.{first_value-rows}
use Rattle.clap.specs.declared.parser.matches.Found.{Found}
use Rattle.clap.specs.declared.parser.matches.ArgMatches.{ArgMatches}
use Rattle.clap.specs.declared.error.Error.{Error}
use Rattle.clap.specs.declared.error.kind.ErrorKind.TheVariants.{OutOfMemory}
use Rattle.clap.specs.Faults.{fault_of, turn_fault, walk_fault, settle_fault, defaults_fault, is_simple_and_free, given_default_fault, entered_fault, built_fault}
use Rattle.clap.specs.Lexer.{strip_byte}
use Rattle.option_words.specs.ClapCommand.{app_with, is_stray, GivesTexts}
use Rattle.option_words.specs.Words.{Text, Given, has_name, is_given, text_of, behind_hyphen, begins_with_hyphen, is_equals_sign, give, given_after, given_by}
use Rattle.option_words.proofs.ClapHolding.{IsFault, at, awaiting, fault_first, filled_options, hold, id_found, long_found, met, no_index, opt, resting, row_there, rows, same_bytes, shape, use_is}
use Rattle.option_words.proofs.StrayWords.{or_left, or_right, and_left, view, stray_texts, View, plain, long}

no_sign : (t : Text) → list_any is_equals_sign t ≡ false → before_first is_equals_sign t ≡ t
no_sign [] e = refl
no_sign (x ∷ t) e = rw (or_left (x == 61) (list_any is_equals_sign t) e) (rw one-add (ap (λ l. x ∷ l) (no_sign t (or_right (x == 61) (list_any is_equals_sign t) e))))

or_nil : (k : Kinds) → or_else k [] ≡ k
or_nil [] = refl
or_nil (k ∷ ks) = refl

module _ (command : Text) (names : List Text) where
  abbrev rules : List Rule
  rules = map opt names

  abbrev ends : Walk → List Text → Held
  ends w ws = (fold (walked rules []) w ws).held

  -- the faults of the words, up to the use of what is then pending
  abbrev faults : Walk → List Text → Kinds
  faults w ws = or_else (walk_fault (shape command names) [] w ws) (settle_fault rules false (ends w ws))

  abbrev Agrees : Walk → List Text → Option Given → Type 0
  Agrees w ws None = IsFault (faults w ws)
  Agrees w ws (Some given) = (faults w ws ≡ []) × ((settled rules (ends w ws)).rows ≡ rows given)

  -- one word that is no fault leads from w to w'
  on_step : (w : Walk) (x : Text) (ws : List Text) (r : Option Given) → turn_fault (shape command names) [] w x ≡ [] → Agrees (walked rules [] w x) ws r → Agrees w (x ∷ ws) r
  unfolding walk_fault
  on_step w x ws None e h = rw e h
  on_step w x ws (Some given) e h = rw e h

  on_good : (w w' : Walk) (x : Text) (ws : List Text) (r : Option Given) → turn_fault (shape command names) [] w x ≡ [] → walked rules [] w x ≡ w' → Agrees w' ws r → Agrees w (x ∷ ws) r
  on_good w w' x ws r e n h = on_step w x ws r e (subst (λ (y : Walk). Agrees y ws r) (sym n) h)

  on_bad : (w : Walk) (x : Text) (ws : List Text) → IsFault (turn_fault (shape command names) [] w x) → Agrees w (x ∷ ws) None
  unfolding walk_fault
  on_bad w x ws h = fault_first _ _ (fault_first _ _ h)

  -- a word that begins with no hyphen is no flag
  plain_tests : (x : Text) → begins_with_hyphen x ≡ false → (bytes_eq x (45 ∷ 45 ∷ []) ≡ false) × (strip_byte 45 x ≡ None)
  plain_tests [] e = (refl, refl)
  plain_tests (h ∷ t) e = (rw e refl, rw e refl)

  -- with nothing waiting it is a stray word
  plain_turn : (h : Held) (x : Text) → begins_with_hyphen x ≡ false → IsFault (turn_fault (shape command names) [] (at h idle) x)
  plain_turn h x e = let t = plain_tests x e in rw (t.0, t.1) (rw t.1 (rw (no_index 1 names) tt))

  -- what waits takes it for its value
  value_turn : (given : Given) (n x : Text) → has_name n names ≡ true → begins_with_hyphen x ≡ false → turn_fault (shape command names) [] (awaiting given n) x ≡ []
  value_turn given n x known e = let t = plain_tests x e in rw (t.0, t.1) (rw t.1 refl)

  value_walk : (given : Given) (n x : Text) → has_name n names ≡ true → begins_with_hyphen x ≡ false → walked rules [] (awaiting given n) x ≡ met given n x
  unfolding walked
  value_walk given n x known e = let t = plain_tests x e in rw (t.0, t.1) (rw t.1 (rw (id_found n names known) (rw (same_bytes n) refl)))

  -- a word that has a text behind two hyphens
  abbrev long_text : ℕ → Text → Text
  long_text a b = 45 ∷ 45 ∷ a ∷ b

  -- what is held can be used, and the rows are then those of given
  abbrev Settles : Held → Given → Type 0
  Settles h given = (h.skip ≡ 0) × (settle_fault rules false h ≡ []) × ((settled rules h).rows ≡ rows given)

  settles_none : (given : Given) → Settles (hold given None) given
  settles_none given = (refl, refl, refl)

  settles_met : (given : Given) (n v : Text) → has_name n names ≡ true → is_given n given ≡ false → Settles (hold given (Some (n, v ∷ []))) (given ++ (n, v) ∷ [])
  settles_met given n v known fresh = (refl, rw (id_found n names known) (rw (row_there n given ∙ fresh) refl), rw (id_found n names known) (use_is n v given fresh))

  -- the name and the value of such a word
  abbrev text_name : ℕ → Text → Text
  text_name a b = before_first is_equals_sign (a ∷ b)

  unknown_turn : (h : Held) (waiting : Waiting) (a : ℕ) (b : Text) → has_name (text_name a b) names ≡ false → IsFault (turn_fault (shape command names) [] (at h waiting) (long_text a b))
  unknown_turn h idle a b none = rw (long_found (text_name a b) names) (rw none tt)
  unknown_turn h (option k) a b none = rw (long_found (text_name a b) names) (rw none tt)
  unknown_turn h positional a b none = rw (long_found (text_name a b) names) (rw none tt)

  abbrev has_sign : ℕ → Text → Bool
  has_sign a b = list_any is_equals_sign (a ∷ b)

  bad_known : (h : Held) (waiting : Waiting) (a : ℕ) (b : Text) (sign : Bool) → has_sign a b ≡ sign → has_name (text_name a b) names ≡ true → IsFault (settle_fault rules false h) → IsFault (turn_fault (shape command names) [] (at h waiting) (long_text a b))
  bad_known h idle a b true s known bad = rw (long_found (text_name a b) names) (rw known (rw s (fault_first _ _ (fault_first _ _ bad))))
  bad_known h idle a b false s known bad = rw (long_found (text_name a b) names) (rw known (rw s (fault_first _ _ bad)))
  bad_known h (option k) a b true s known bad = rw (long_found (text_name a b) names) (rw known (rw s (fault_first _ _ (fault_first _ _ bad))))
  bad_known h (option k) a b false s known bad = rw (long_found (text_name a b) names) (rw known (rw s (fault_first _ _ bad)))
  bad_known h positional a b true s known bad = rw (long_found (text_name a b) names) (rw known (rw s (fault_first _ _ (fault_first _ _ bad))))
  bad_known h positional a b false s known bad = rw (long_found (text_name a b) names) (rw known (rw s (fault_first _ _ bad)))

  bad_turn : (h : Held) (waiting : Waiting) (a : ℕ) (b : Text) → IsFault (settle_fault rules false h) → IsFault (turn_fault (shape command names) [] (at h waiting) (long_text a b))
  bad_turn h waiting a b bad =
      elim (has_name (text_name a b) names) as (λ t. has_name (text_name a b) names ≡ t → IsFault (turn_fault (shape command names) [] (at h waiting) (long_text a b))) [
        | true ↦ λ known. bad_known h waiting a b (has_sign a b) refl known bad
        | false ↦ λ none. unknown_turn h waiting a b none
      ] refl

  named_turn : (h : Held) (given : Given) (a : ℕ) (b : Text) → Settles h given → has_sign a b ≡ false → has_name (text_name a b) names ≡ true → turn_fault (shape command names) [] (at h idle) (long_text a b) ≡ []
  named_turn h given a b good s known = rw (long_found (text_name a b) names) (rw known (rw s (rw good.1 refl)))

  named_walk : (h : Held) (given : Given) (a : ℕ) (b : Text) → Settles h given → has_sign a b ≡ false → has_name (text_name a b) names ≡ true → walked rules [] (at h idle) (long_text a b) ≡ awaiting given (text_name a b)
  unfolding walked
  named_walk h given a b good s known = rw (long_found (text_name a b) names) (rw known (rw s (rw (good.0, good.2) refl)))

  abbrev text_value : ℕ → Text → Text
  text_value a b = after_first is_equals_sign (a ∷ b)

  valued_turn : (h : Held) (given : Given) (a : ℕ) (b : Text) → Settles h given → has_sign a b ≡ true → has_name (text_name a b) names ≡ true → is_given (text_name a b) given ≡ false → turn_fault (shape command names) [] (at h idle) (long_text a b) ≡ []
  valued_turn h given a b good s known fresh = rw (long_found (text_name a b) names) (rw known (rw s (rw (good.1, good.2) (rw (row_there (text_name a b) given ∙ fresh) refl))))

  valued_walk : (h : Held) (given : Given) (a : ℕ) (b : Text) → Settles h given → has_sign a b ≡ true → has_name (text_name a b) names ≡ true → is_given (text_name a b) given ≡ false
      → walked rules [] (at h idle) (long_text a b) ≡ resting (given ++ (text_name a b, text_value a b) ∷ [])
  unfolding walked
  valued_walk h given a b good s known fresh = rw (long_found (text_name a b) names) (rw known (rw s (rw (good.0, good.2) (ap (λ (l : List Row). at (record { rows = l; pending = None; skip = 0 }) idle) (use_is (text_name a b) (text_value a b) given fresh)))))

  twice_turn : (h : Held) (given : Given) (a : ℕ) (b : Text) → Settles h given → has_sign a b ≡ true → has_name (text_name a b) names ≡ true → is_given (text_name a b) given ≡ true → IsFault (turn_fault (shape command names) [] (at h idle) (long_text a b))
  twice_turn h given a b good s known there = rw (long_found (text_name a b) names) (rw known (rw s (rw (good.1, good.2) (rw (row_there (text_name a b) given ∙ there) tt))))

  -- where what is held cannot be used, all words are refused
  bad : (ws : List Text) (h : Held) → list_any is_stray ws ≡ false → IsFault (settle_fault rules false h) → IsFault (faults (at h idle) ws)
  unfolding walk_fault
  bad [] h even b = b
  bad (x ∷ ws) h even b =
      grind (arith, common_steps, view x (or_left (is_stray x) (list_any is_stray ws) even), or_left (is_stray x) (list_any is_stray ws) even, at h idle, on_bad (at h idle), plain_turn h, bad_turn h idle)

  -- the faults of a dash word on what waits for a value
  awaiting_settles : (given : Given) (n : Text) → has_name n names ≡ true → IsFault (settle_fault rules false (hold given (Some (n, []))))
  awaiting_settles given n known = rw (id_found n names known) tt

  met_twice : (given : Given) (n v : Text) → has_name n names ≡ true → is_given n given ≡ true → IsFault (settle_fault rules false (hold given (Some (n, v ∷ []))))
  met_twice given n v known there = rw (id_found n names known) (rw (row_there n given ∙ there) tt)

  abbrev Both : List Text → Type 0
  Both ws = ((given : Given) (h : Held) → Settles h given → list_any is_stray ws ≡ false → Agrees (at h idle) ws (given_after names given None ws))
      × ((given : Given) (n : Text) → has_name n names ≡ true → list_any is_stray ws ≡ false → Agrees (awaiting given n) ws (given_after names given (Some n) ws))

  -- a value that may be give goes on, and one that may not is refused
  give_agrees : (w : Walk) (us ws : List Text) (given : Given) (n v : Text) (there : Bool) → is_given n given ≡ there
      → (there ≡ false → Agrees w us (given_after names (given ++ (n, v) ∷ []) None ws)) → (there ≡ true → Agrees w us None)
      → Agrees w us (give n v given (λ l. given_after names l None ws))
  give_agrees w us ws given n v true e good bad = rw e (bad refl)
  give_agrees w us ws given n v false e good bad = rw e (good refl)

  behind_none : (x : Text) → begins_with_hyphen x ≡ false → behind_hyphen x ≡ None
  behind_none [] e = refl
  behind_none (h ∷ t) e = rw e refl

  rest_even : (x : Text) (ws : List Text) → list_any is_stray (x ∷ ws) ≡ false → list_any is_stray ws ≡ false
  rest_even x ws e = or_right (is_stray x) (list_any is_stray ws) e

  idle_plain : (x : Text) (ws : List Text) (given : Given) (h : Held) → begins_with_hyphen x ≡ false → Agrees (at h idle) (x ∷ ws) (given_after names given None (x ∷ ws))
  idle_plain x ws given h p = rw (behind_none x p) (on_bad (at h idle) x ws (plain_turn h x p))

  idle_long : (a : ℕ) (b : Text) (ws : List Text) → Both ws → (given : Given) (h : Held) → Settles h given → list_any is_stray ws ≡ false → (sign known : Bool) → has_sign a b ≡ sign → has_name (text_name a b) names ≡ known
      → Agrees (at h idle) (long_text a b ∷ ws) (given_after names given None (long_text a b ∷ ws))
  idle_long a b ws both given h good even true true s k = rw (s, k) (give_agrees (at h idle) (long_text a b ∷ ws) ws given (text_name a b) (text_value a b) (is_given (text_name a b) given) refl
      (λ fresh. on_good (at h idle) (resting (given ++ (text_name a b, text_value a b) ∷ [])) (long_text a b) ws _ (valued_turn h given a b good s k fresh) (valued_walk h given a b good s k fresh) (both.0 _ _ (settles_none (given ++ (text_name a b, text_value a b) ∷ [])) even))
      (λ there. on_bad (at h idle) (long_text a b) ws (twice_turn h given a b good s k there)))
  idle_long a b ws both given h good even true false s k = rw (s, k) (on_bad (at h idle) (long_text a b) ws (unknown_turn h idle a b k))
  idle_long a b ws both given h good even false true s k =
      let n : text_name a b ≡ a ∷ b = no_sign (a ∷ b) s in
      let known_as : has_name (a ∷ b) names ≡ true = ap (λ t. has_name t names) (sym n) ∙ k in
      rw (s, known_as) (subst (λ (t : Text). Agrees (at h idle) (long_text a b ∷ ws) (given_after names given (Some t) ws)) n
      (on_good (at h idle) (awaiting given (text_name a b)) (long_text a b) ws _ (named_turn h given a b good s k) (named_walk h given a b good s k) (both.1 given (text_name a b) k even)))
  idle_long a b ws both given h good even false false s k =
      grind (arith, common_steps, no_sign (a ∷ b) s, on_bad (at h idle) (long_text a b) ws (unknown_turn h idle a b k), at h idle, unknown_turn h idle a b k)

  wait_plain : (x : Text) (ws : List Text) → Both ws → (given : Given) (n : Text) → has_name n names ≡ true → begins_with_hyphen x ≡ false → list_any is_stray ws ≡ false → Agrees (awaiting given n) (x ∷ ws) (given_after names given (Some n) (x ∷ ws))
  wait_plain x ws both given n known p even = rw p (give_agrees (awaiting given n) (x ∷ ws) ws given n x (is_given n given) refl
      (λ fresh. on_good (awaiting given n) (met given n x) x ws _ (value_turn given n x known p) (value_walk given n x known p) (both.0 (given ++ (n, x) ∷ []) (hold given (Some (n, x ∷ []))) (settles_met given n x known fresh) even))
      (λ there. on_good (awaiting given n) (met given n x) x ws None (value_turn given n x known p) (value_walk given n x known p) (bad ws (hold given (Some (n, x ∷ []))) even (met_twice given n x known there))))

  wait_long : (a : ℕ) (b : Text) (ws : List Text) (given : Given) (n : Text) → has_name n names ≡ true → Agrees (awaiting given n) (long_text a b ∷ ws) (given_after names given (Some n) (long_text a b ∷ ws))
  wait_long a b ws given n known = on_bad (awaiting given n) (long_text a b) ws (bad_turn (hold given (Some (n, []))) (option n) a b (awaiting_settles given n known))

  agrees_idle : (x : Text) (ws : List Text) → Both ws → View x → (given : Given) (h : Held) → Settles h given → list_any is_stray ws ≡ false → Agrees (at h idle) (x ∷ ws) (given_after names given None (x ∷ ws))
  agrees_idle x ws both (plain y p) given h good even = idle_plain y ws given h p
  agrees_idle x ws both (long a b) given h good even = idle_long a b ws both given h good even (has_sign a b) (has_name (text_name a b) names) refl refl

  agrees_wait : (x : Text) (ws : List Text) → Both ws → View x → (given : Given) (n : Text) → has_name n names ≡ true → list_any is_stray ws ≡ false → Agrees (awaiting given n) (x ∷ ws) (given_after names given (Some n) (x ∷ ws))
  agrees_wait x ws both (plain y p) given n known even = wait_plain y ws both given n known p even
  agrees_wait x ws both (long a b) given n known even = wait_long a b ws given n known

  agrees : (ws : List Text) → Both ws
  unfolding walk_fault
  agrees [] = ((λ given h good even. (good.1, good.2)), λ given n known even. awaiting_settles given n known)
  agrees (x ∷ ws) =
      grind (arith, common_steps, agrees ws, agrees_idle x ws (agrees ws), view x, or_left (is_stray x) (list_any is_stray ws), rest_even x ws, agrees_wait x ws (agrees ws))

  -- no option has a default or is required
  no_defaults : (rs : List Row) (ms : List Text) → defaults_fault rs (map opt ms) ≡ []
  unfolding defaults_fault
  no_defaults rs [] = refl
  no_defaults rs (m ∷ ms) =
      elim (has_row m rs) as (λ t. or_else (if (t || true) then [] else given_default_fault (opt m) []) (defaults_fault (if t then rs else rs) (map opt ms)) ≡ []) [ true ↦ no_defaults rs ms | false ↦ no_defaults rs ms ]

  same_rows : (rs : List Row) (ms : List Text) → fold with_default rs (map opt ms) ≡ rs
  same_rows rs [] = refl
  same_rows rs (m ∷ ms) = grind (arith, common_steps, same_rows rs ms)

  none_required : (rs : List Row) (ms : List Text) → list_any (λ a. a.required && not (is_there a.id rs)) (map opt ms) ≡ false
  none_required rs [] = refl
  none_required rs (m ∷ ms) = none_required rs ms

  abbrev leaf : App
  leaf = record { top = shape command names; subs = [] }

  entered_none : (stop : Option (Text × List Text)) → entered leaf stop ≡ None
  entered_none None = refl
  entered_none (Some p) = refl

  entered_no_fault : (stop : Option (Text × List Text)) → entered_fault leaf stop ≡ []
  entered_no_fault None = refl
  entered_no_fault (Some p) = refl

  leaf_fault : (ws : List Text) → built_fault leaf nothing_held ws ≡ faults (resting []) ws
  leaf_fault ws = grind (arith, common_steps, entered_none, entered_no_fault, no_defaults, none_required, shape command names, or_nil)

  abbrev app : App
  app = app_with command names

  built_is : built app ≡ leaf
  built_is = ap (λ (r : List Rule). record leaf { top = record (shape command names) { rules = r } }) (filled_options 1 names)

  fault_is : (ws : List Text) → fault_of app ws ≡ faults (resting []) ws
  fault_is ws = ap (λ (a : App). built_fault a nothing_held ws) built_is ∙ leaf_fault ws

  matches_are : (ws : List Text) → matches_of app ws ≡ (settled rules (ends (resting []) ws)).rows
  matches_are ws = ap (λ (r : List Rule). rows_after r [] ws) (filled_options 1 names) ∙ same_rows (settled rules (ends (resting []) ws)).rows names

  -- the command takes just the words that the grammar reads, with those values
  abbrev Exact : List Text → Option Given → Type 0
  Exact ws None = IsFault (fault_of app ws)
  Exact ws (Some given) = (fault_of app ws ≡ []) × (matches_of app ws ≡ rows given)

  exact_by : (ws : List Text) (r : Option Given) → Agrees (resting []) ws r → Exact ws r
  exact_by ws None h = subst IsFault (sym (fault_is ws)) h
  exact_by ws (Some given) h = (fault_is ws ∙ h.0, matches_are ws ∙ h.1)

  exact : (ws : List Text) → list_any is_stray ws ≡ false → Exact ws (given_after names [] None ws)
  exact ws even = exact_by ws (given_after names [] None ws) ((agrees ws).0 [] (hold [] None) (settles_none []) even)

-- what the getters read
first_of_rows : (n : Text) (given : Given) → first_of n (rows given) ≡ text_of given n
first_of_rows n [] = refl
first_of_rows n (p ∷ ps) = grind (arith, common_steps, first_of_rows n ps)

given_read : (command : Text) (names : List Text) (f : Found) (ws : List Text) (r : Option Given) → Exact command names ws r → fault_of (app_with command names) ws ≡ []
    → rows_of f ≡ matches_of (app_with command names) ws → GivesTexts (first_value f) r
given_read command names f ws None e none same = subst IsFault none e
given_read command names f ws (Some v) e none same = λ n. first_value-rows f n ∙ (ap (first_of n) (same ∙ e.1) ∙ first_of_rows n v)

refused_by : (command : Text) (names : List Text) (ws : List Text) (r : Option Given) (e : Error) → Exact command names ws r → HasKind (fault_of (app_with command names) ws) e → kind_of e ≢ OutOfMemory → r ≡ None
refused_by command names ws None e h k n = refl
refused_by command names ws (Some v) e h k n = absurd (⊎_elim (λ m. n m) (λ (f : ⊥). f) (subst (λ (l : Kinds). HasKind l e) h.0 k))

pub texts_given : (command : Text) (names : List Text) (a : App) (m : ArgMatches) {S : Type 0} (text : S → Text) (ws : List S) → is_simple_and_free (app_with command names) ≡ true → a ≡ app_with command names
    → list_any (λ w. is_stray (text w)) ws ≡ false → (is_simple_and_free a ≡ true → fault_of a (map text ws) ≡ []) → HasMatchesOf a (map text ws) m
    → GivesTexts (first_value (found_of m)) (given_by names (map text ws))
texts_given command names a m text ws simple is even none has =
    let texts : List Text = map text ws in
    let none' : fault_of (app_with command names) texts ≡ [] = subst (λ (b : App). is_simple_and_free b ≡ true → fault_of b texts ≡ []) is none simple in
    let has' : HasMatchesOf (app_with command names) texts m = subst (λ (b : App). HasMatchesOf b texts m) is has in
    given_read command names (found_of m) texts (given_by names texts) (exact command names texts (sym (stray_texts text ws) ∙ even)) none' (has' (and_left (is_simple (app_with command names)) _ simple)).0

pub texts_fail : (command : Text) (names : List Text) (a : App) (e : Error) {S : Type 0} (text : S → Text) (ws : List S) → is_simple_and_free (app_with command names) ≡ true → a ≡ app_with command names
    → list_any (λ w. is_stray (text w)) ws ≡ false → (is_simple_and_free a ≡ true → HasKind (fault_of a (map text ws)) e) → kind_of e ≢ OutOfMemory → given_by names (map text ws) ≡ None
texts_fail command names a e text ws simple is even fails n =
    let texts : List Text = map text ws in
    refused_by command names texts (given_by names texts) e (exact command names texts (sym (stray_texts text ws) ∙ even)) (subst (λ (b : App). HasKind (fault_of b texts) e) is (fails (subst (λ (b : App). is_simple_and_free b ≡ true) (sym is) simple))) n
