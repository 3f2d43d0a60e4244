-- Commands that bytes spell are answered one after another.
use Rattle.std.proofs.Common.{◌≡◌, ◌≢◌, ℕ, zero, suc, ◌+◌, ◌-◌, ◌*◌, ◌≤◌, ◌<◌, Bool, true, false, List, [], ◌++◌, length, drop, refl, sym, ap, ◌∙◌, subst, arith, length-append, length-drop}
use Rattle.std.specs.Prelude.{MatchResult, Result, Err}
use Rattle.std.proofs.Math.Nat.{add-mul, mul-le-mul_right, one-mul}
use Rattle.std.proofs.lemmas.List.{append-nil, drop-drop, drop_all}
use mir.Val.{bool_byte}
use Rattle.partition_model.specs.declared.options.Options.{Options}
use Rattle.memcached_requests.specs.Next.{next_of}
use Rattle.fronts.specs.Answered.{Answered}
use Rattle.fronts.specs.Session.{Sessions}
use Rattle.connection_loop.specs.declared.answer.TheConstants.{MOST_COMMANDS}
use Rattle.connection_loop.specs.declared.answer.HowFar.{HowFar}
use Rattle.connection_loop.specs.declared.answer.Said.{Said}
use Rattle.connection_loop.specs.declared.answer.Said.TheVariants.{Nothing, Part, Whole, Last}
use Rattle.connection_loop.specs.declared.answer.Halt.{Halt}
use Rattle.connection_loop.specs.declared.answer.Halt.TheVariants.{Needs, Enough, Leaves}
use Rattle.connection_loop.specs.Going.{GoesByThese, GoesBySome}
use Rattle.connection_loop.specs.Paid.{Speaks, SpeaksAs, SpeaksWhere}
use Rattle.connection_loop.specs.Reached.{Position, position_at, position_in, Reaches, Ends, GoesOnTo, ReachesAfter, SpokeFrom, HaltsAs}
use Rattle.connection_loop.specs.Turns.{most_to_one, most_answers}
use Rattle.connection_loop.proofs.Going.{these_then}
use Rattle.connection_loop.proofs.Reaching.{on_then, on_as, spoke_then, halts_more, nothing_next}

times_more : (n k a b : ℕ) → a ≤ n * k → b ≤ k → a + b ≤ (n + 1) * k
times_more n k a b first second = let sum = add-mul n 1 k in let one = one-mul k in omega (arith, sum, one, first, second)

times_most : (n m k a : ℕ) → n ≤ m → a ≤ n * k → a ≤ m * k
times_most n m k a within few = let most = mul-le-mul_right k within in omega (arith, most, few)

module _ (options : Options) (is_alone : Bool) (base : ℕ) where
  few_then : (count : ℕ) (one two : List Answered) → length one ≤ count * most_to_one options → length two ≤ most_to_one options → length (one ++ two) ≤ (count + 1) * most_to_one options
  few_then count one two first second =
      subst (λ n. n ≤ (count + 1) * most_to_one options) (sym (length-append one two)) (times_more count (most_to_one options) (length one) (length two) first second)

  -- So many commands spoke; where none did, nothing did.
  pub record HasSpoken (spoken : ℕ) (answers : List Answered) (old new : List ℕ) : Type 0 where
    pub few : length answers ≤ spoken * most_to_one options
    pub grew : length old + spoken ≤ length answers + length new
    pub silent : spoken ≡ 0 → (answers ≡ []) × (new ≡ old)

  pub spoken_none : (old : List ℕ) → HasSpoken 0 [] old old
  spoken_none old = record { few = omega arith; grew = omega arith; silent = λ none. (refl, refl) }

  -- and what one more made of it
  abbrev pub SpokenOn : ℕ → Said → List Answered → List ℕ → List ℕ → Type 0
  SpokenOn spoken (Part more) answers old new = (length answers ≤ (spoken + 1) * most_to_one options) × Speaks answers old new
  SpokenOn spoken (Whole len spoke) answers old new = HasSpoken (spoken + bool_byte spoke) answers old new
  SpokenOn spoken _ answers old new = length answers ≤ (spoken + 1) * most_to_one options

  module _ (spoken : ℕ) (one two : List Answered) (old mid new : List ℕ) (first : HasSpoken spoken one old mid) (few : length two ≤ most_to_one options) where
    spoken_on : (said : Said) → SpeaksAs said two mid new → length mid ≤ length new → SpokenOn spoken said (one ++ two) old new
    spoken_on Nothing speaks grows = few_then spoken one two first.few few
    spoken_on (Part more) speaks grows =
        (few_then spoken one two first.few few, let len = length-append one two in let grew = first.grew in omega (arith, len, grew, speaks))
    spoken_on (Whole len true) speaks grows = record {
      few = few_then spoken one two first.few few;
      grew = let all = length-append one two in let grew = first.grew in omega (arith, all, grew, speaks);
      silent = λ none. absurd (omega (arith, none));
    }
    spoken_on (Whole len false) speaks grows =
        let answers : one ++ two ≡ one = ap (λ t. one ++ t) speaks.0 ∙ append-nil one in
        let same : HasSpoken spoken (one ++ two) old new =
        subst (λ t. HasSpoken spoken (one ++ two) old t) (sym speaks.1) (subst (λ a. HasSpoken spoken a old mid) (sym answers) first) in
        let none : spoken + bool_byte false ≡ spoken = omega arith in subst (λ n. HasSpoken n (one ++ two) old new) (sym none) same
    spoken_on Last speaks grows = few_then spoken one two first.few few

  few_in_all : (answers : List Answered) (count : ℕ) → count ≤ MOST_COMMANDS → length answers ≤ count * most_to_one options → length answers ≤ most_answers options
  few_in_all answers count within few = times_most count MOST_COMMANDS (most_to_one options) (length answers) within few

  module _ {old between new : Sessions} {left then_left left_after : ℕ} {told then tells : ℕ} where
    -- a command more was answered
    pub on_said : (count : ℕ) (position : Position) (bytes rest : List ℕ) (done : ℕ) (before here after : List ℕ) (o : Options) (b : ℕ) (said is : Said) → rest ≡ bytes → o ≡ options → b ≡ base → said ≡ is
        → GoesBySome options is_alone old left told between then_left then
        (λ answers. GoesOnTo options base position answers before here (Reaches options base (position_at bytes done)) × HasSpoken count answers before here)
        → GoesBySome o is_alone between then_left then new left_after tells
        (λ answers. (length answers ≤ most_to_one o) × (GoesOnTo o b (position_at rest done) answers here after (ReachesAfter o b rest done said) × SpeaksAs said answers here after))
        → GoesBySome options is_alone old left told new left_after tells
        (λ answers. GoesOnTo options base position answers before after (ReachesAfter options base bytes done is) × SpokenOn count is answers before after)
    on_said count position bytes rest done before here after o b said is rest_is same same_base said_is first second =
        let there = subst (λ (x : Options). GoesBySome x is_alone between then_left then new left_after tells
        (λ answers. (length answers ≤ most_to_one x) × (GoesOnTo x b (position_at rest done) answers here after (ReachesAfter x b rest done said) × SpeaksAs said answers here after)))
        same second in
        let one = subst (λ x. GoesBySome options is_alone between then_left then new left_after tells
        (λ answers. (length answers ≤ most_to_one options) × (GoesOnTo options x (position_at rest done) answers here after (ReachesAfter options x rest done said) × SpeaksAs said answers here after)))
        same_base there in
        let by_said = subst (λ (s : Said). GoesBySome options is_alone between then_left then new left_after tells
        (λ answers. (length answers ≤ most_to_one options) × (GoesOnTo options base (position_at rest done) answers here after (ReachesAfter options base rest done s) × SpeaksAs s answers here after))) said_is one in
        let all = subst (λ r. GoesBySome options is_alone between then_left then new left_after tells
        (λ answers. (length answers ≤ most_to_one options) × (GoesOnTo options base (position_at r done) answers here after (ReachesAfter options base r done is) × SpeaksAs is answers here after))) rest_is by_said in
        let grown = ap length all.2.1.0.appended ∙ length-append here all.2.1.0.text in (
          first.0 ++ all.0,
          these_then options is_alone first.1 all.1,
          (
            on_then options base first.2.0 all.2.1.0,
            spoken_on count first.0 all.0 before here after first.2.1 all.2.0 is all.2.1.1 (omega (arith, grown)),
          ),
        )

    -- memory lacked
    pub spoke_on : (count : ℕ) → count + 1 ≤ MOST_COMMANDS → (most : ℕ) (position : Position) (bytes rest : List ℕ) (done : ℕ) (before here : List ℕ) (o : Options) (b : ℕ) → rest ≡ bytes → o ≡ options → b ≡ base → length bytes ≤ most
        → GoesBySome options is_alone old left told between then_left then (λ answers. GoesOnTo options base position answers before here (Reaches options base (position_at bytes done)) × HasSpoken count answers before here)
        → GoesBySome o is_alone between then_left then new left_after tells (λ answers. (length answers ≤ most_to_one o) × SpokeFrom o b (length rest) (position_at rest done) answers)
        → GoesBySome options is_alone old left told new left_after tells (λ answers. (length answers ≤ most_answers options) × SpokeFrom options base most position answers)
    spoke_on count within most position bytes rest done before here o b rest_is same same_base less first second =
        let there = subst (λ (x : Options). GoesBySome x is_alone between then_left then new left_after tells (λ answers. (length answers ≤ most_to_one x) × SpokeFrom x b (length rest) (position_at rest done) answers)) same second in
        let one = subst (λ x. GoesBySome options is_alone between then_left then new left_after tells (λ answers. (length answers ≤ most_to_one options) × SpokeFrom options x (length rest) (position_at rest done) answers)) same_base there in
        let all = subst (λ r. GoesBySome options is_alone between then_left then new left_after tells (λ answers. (length answers ≤ most_to_one options) × SpokeFrom options base (length r) (position_at r done) answers)) rest_is one in (
          first.0 ++ all.0,
          these_then options is_alone first.1 all.1,
          (few_in_all (first.0 ++ all.0) (count + 1) within (few_then count first.0 all.0 first.2.1.few all.2.0), spoke_then options base less first.2.0 all.2.1),
        )

  -- by the same answers, more is said of where the talk came to
  pub some_as : {old new : Sessions} {left left_after : ℕ} {told tells : ℕ} (position : Position) (before after : List ℕ) (P Q : List ℕ → List Answered → List ℕ → Type 0)
      → ((received : List ℕ) (given : List Answered) (due : List ℕ) → P received given due → Q received given due)
      → (R S : List Answered → Type 0) → ((answers : List Answered) → GoesByThese options is_alone old left told answers new left_after tells → R answers → (length answers ≤ most_answers options) × S answers)
      → GoesBySome options is_alone old left told new left_after tells (λ answers. GoesOnTo options base position answers before after P × R answers)
      → GoesBySome options is_alone old left told new left_after tells (λ answers. (length answers ≤ most_answers options) × (GoesOnTo options base position answers before after Q × S answers))
  some_as position before after P Q as_q R S as_s some =
      let said = as_s some.0 some.1 some.2.1 in (some.0, some.1, (said.0, (on_as options base {P = P} {Q = Q} as_q some.2.0, said.1)))

  pub some_on : {old new : Sessions} {left left_after : ℕ} {told tells : ℕ} (position : Position) (before after : List ℕ) (P Q : List ℕ → List Answered → List ℕ → Type 0)
      → ((received : List ℕ) (given : List Answered) (due : List ℕ) → P received given due → Q received given due)
      → (R S : List Answered → Type 0) → ((answers : List Answered) → R answers → S answers)
      → GoesBySome options is_alone old left told new left_after tells (λ answers. GoesOnTo options base position answers before after P × R answers)
      → GoesBySome options is_alone old left told new left_after tells (λ answers. GoesOnTo options base position answers before after Q × S answers)
  some_on position before after P Q as_q R S as_s some = (some.0, some.1, (on_as options base {P = P} {Q = Q} as_q some.2.0, as_s some.0 some.2.1))

  pub few_said : (count : ℕ) → count + 1 ≤ MOST_COMMANDS → (answers : List Answered) → length answers ≤ (count + 1) * most_to_one options → length answers ≤ most_answers options
  few_said count within answers few = few_in_all answers (count + 1) within few

  pub few_spoken : (count : ℕ) → count ≤ MOST_COMMANDS → {answers : List Answered} {before after : List ℕ} → HasSpoken count answers before after → length answers ≤ most_answers options
  few_spoken count within {answers} has = few_in_all answers count within has.few

  -- of what came no whole command is left, or nothing more is read
  pub halts_by : {old new : Sessions} {left left_after : ℕ} {told tells : ℕ} (may : Type 0) (halt is : Halt) → halt ≡ is → is ≢ Enough → (position : Position) (before after : List ℕ)
      → (P Q : List ℕ → List Answered → List ℕ → Type 0) → ((received : List ℕ) (given : List Answered) (due : List ℕ) → P received given due → Q received given due)
      → (R : List Answered → Type 0) → ((answers : List Answered) → R answers → length answers ≤ most_answers options)
      → GoesBySome options is_alone old left told new left_after tells (λ answers. GoesOnTo options base position answers before after P × R answers)
      → GoesBySome options is_alone old left told new left_after tells
      (λ answers. (length answers ≤ most_answers options) × (GoesOnTo options base position answers before after Q × SpeaksWhere may halt answers before after))
  halts_by may halt is same other position before after P Q as_q R few some =
      some_as position before after P Q as_q R (λ answers. SpeaksWhere may halt answers before after)
      (λ answers these r. (few answers r, λ m enough. absurd (other (sym same ∙ enough)))) some

  -- it ends where enough spoke
  pub speaks_end : (spoken : ℕ) {answers : List Answered} {before after : List ℕ} → HasSpoken spoken answers before after → (spoken ≡ 0 → answers ≡ [] → after ≡ before → ⊥)
      → Speaks answers before after
  speaks_end zero has none = absurd (none refl (has.silent refl).0 (has.silent refl).1)
  speaks_end (suc n) has none = let grew = has.grew in omega (arith, grew)

  -- Where bytes were answered to

  pub halts_in : (most : ℕ) (bytes : List ℕ) (far : HowFar) (halt : Halt) (taken done dropping : ℕ) → far.taken ≡ taken → far.done ≡ done → far.dropping ≡ dropping → far.halt ≡ halt
      → (received : List ℕ) (given : List Answered) (due : List ℕ)
      → HaltsAs options base most halt (record { bytes = drop taken bytes; done = done; dropping = dropping }) received given due
      → HaltsAs options base most far.halt (position_in bytes far) received given due
  halts_in most bytes far halt taken done dropping taken_is done_is dropping_is halt_is received given due stands =
      let position : record { bytes = drop taken bytes; done = done; dropping = dropping } ≡ position_in bytes far =
      λ i. record { bytes = drop (sym taken_is i) bytes; done = sym done_is i; dropping = sym dropping_is i } in
      subst (λ s. HaltsAs options base most s (position_in bytes far) received given due) (sym halt_is)
      (subst (λ (p : Position). HaltsAs options base most halt p received given due) position stands)

  -- the last command leaves no more than all
  pub left_in : (bytes : List ℕ) (taken : ℕ) (position : Position) (received : List ℕ) (given : List Answered) (due : List ℕ) → Ends options base (length (drop taken bytes)) received given due
      → HaltsAs options base (length bytes) Leaves position received given due
  left_in bytes taken position received given due ends =
      halts_more options base Leaves position (length (drop taken bytes)) (length bytes) received given due (let len = length-drop taken bytes in omega (arith, len)) ends

  -- some of what is dropped has not come
  pub dropped_in : (bytes rest : List ℕ) (taken len : ℕ) → rest ≡ drop taken bytes → length rest < len → (received : List ℕ) (given : List Answered) (due : List ℕ)
      → Reaches options base (record { bytes = drop len (drop taken bytes); done = 0; dropping = len - length (drop taken bytes) }) received given due
      → HaltsAs options base (length bytes) Needs (record { bytes = drop (length bytes) bytes; done = 0; dropping = len - length rest }) received given due
  dropped_in bytes rest taken len rest_is beyond received given due at =
      let same = ap length rest_is in
      let none : drop len (drop taken bytes) ≡ [] = drop_all len (drop taken bytes) (omega (arith, beyond, same)) in
      let all : drop (length bytes) bytes ≡ [] = drop_all (length bytes) bytes (omega arith) in (
        subst (λ n. Reaches options base (record { bytes = drop (length bytes) bytes; done = 0; dropping = len - n }) received given due) (sym same)
            (subst (λ b. Reaches options base (record { bytes = b; done = 0; dropping = len - length (drop taken bytes) }) received given due) (none ∙ sym all) at),
        ap next_of all ∙ nothing_next,
      )

  -- all of it has come
  pub whole_in : (bytes rest : List ℕ) (taken len : ℕ) → rest ≡ drop taken bytes → len ≤ length rest → (received : List ℕ) (given : List Answered) (due : List ℕ)
      → Reaches options base (record { bytes = drop len (drop taken bytes); done = 0; dropping = len - length (drop taken bytes) }) received given due
      → Reaches options base (position_at (drop (taken + len) bytes) 0) received given due
  whole_in bytes rest taken len rest_is come received given due at =
      let same = ap length rest_is in
      let none : len - length (drop taken bytes) ≡ 0 = omega (arith, come, same) in
      subst (λ b. Reaches options base (position_at b 0) received given due) (drop-drop len taken bytes)
      (subst (λ n. Reaches options base (record { bytes = drop len (drop taken bytes); done = 0; dropping = n }) received given due) none at)

pub match_err : {T E : Type 0} (P : T → Type 0) (Q : E → Type 0) (r : Result T E) (e : E) → r ≡ Err e → Q e → MatchResult r P Q
match_err P Q r e is q = subst (λ x. MatchResult x P Q) (sym is) q

pub byte_small : (b : Bool) → bool_byte b ≤ 1
byte_small true = omega arith
byte_small false = omega arith

pub needs_on : Needs ≢ Enough
needs_on is = cc

pub leaves_on : Leaves ≢ Enough
leaves_on is = cc
