-- The datagrams of one end, one after another.
use Rattle.std.proofs.Common.{◌≡◌, ℕ, suc, ◌+◌, ◌<◌, inl, inr, Bool, true, false, cond, List, [], ◌∷◌, ◌++◌, length, map, take, drop, Option, Some, None, refl, sym, ap, ◌∙◌, subst, append_assoc, eqb, arith, length-append}
use Rattle.std.specs.Prelude.{sum_by, IfSome}
use Rattle.std.specs.List.{filter}
use Rattle.std.proofs.lemmas.List.{append-nil, map-append, length-map, length-drop, take-append-drop}
use Rattle.std.proofs.lemmas.Grind.{flat_map-append}
use Rattle.std.proofs.lemmas.List.Sums.{sum_by-cons}
use Rattle.std.proofs.lemmas.List.Elements.{All-append, All-from_recursion, filter-append}
use Rattle.outside.specs.Traffic.{Datagram, Traffic, Sent, new_traffic}
use Rattle.partition_model.specs.declared.options.Options.{Options}
use Rattle.fronts.specs.declared.totals.Totals.{Totals}
use Rattle.fronts.specs.Answered.{Answered, count_of_writes}
use Rattle.datagram_answers.specs.Turn.{Turn, answers_in}
use Rattle.datagram_answers.specs.Dealing.{Dealing, IsDealing, turns_in, answered_in, due_after, due_to}
use Rattle.fronts.specs.Session.{Sessions, AnswersInOrder}
use Rattle.datagram_answers.specs.DealingTotals.{AreTotalsOf, has_no_turns}
use Rattle.datagram_answers.specs.OneEnd.{OnTraffic, ServesOne, StopsOne, LeavesUnread, ServesSome, LeavesEnd, WantsAtEnd}
use Rattle.fronts.specs.Totals.{counted}
use Rattle.fronts.proofs.InOrder.{answers_append, count_append}

-- two facts, one after the other
pub on_traffic_then : {P Q R : Traffic → Traffic → Type 0} → ((a b c : Traffic) → P a b → Q b c → R a c) → (a b c : Option Traffic)
    → OnTraffic P a b → OnTraffic Q b c → OnTraffic R a c
on_traffic_then f None b c p q = tt
on_traffic_then f (Some a) None c p q = absurd p
on_traffic_then f (Some a) (Some b) None p q = absurd q
on_traffic_then f (Some a) (Some b) (Some c) p q = f a b c p q

-- what is due to dealings, and to one more
due_append : (n : ℕ) (one two : List Dealing) → due_after n (one ++ two) ≡ due_after n one ++ due_after (n + length one) two
due_append n [] two = ap (λ (m : ℕ). due_after m two) (omega arith)
due_append n (d ∷ one) two =
    let rest = due_append (suc n) one two in
    let number : suc n + length one ≡ n + length (d ∷ one) = omega arith in
    let head = map (λ bytes. record { bytes = bytes; after = suc n }) d.replies in
    ap (λ (s : List Sent). head ++ s) rest ∙ sym (append_assoc head (due_after (suc n) one) (due_after (suc n + length one) two))
    ∙ ap (λ (m : ℕ). (head ++ due_after (suc n) one) ++ due_after m two) number

abbrev datagrams_of : List Dealing → List Datagram
datagrams_of dealings = map (λ d. d.datagram) dealings

-- the replies to one datagram, after so many were received
abbrev due_one : Dealing → ℕ → List Datagram → List Sent
due_one d n replies = map (λ bytes. record { bytes = bytes; after = n }) replies

due_more : (dealings : List Dealing) (d : Dealing) → due_to (dealings ++ d ∷ []) ≡ due_to dealings ++ due_one d (suc (length dealings)) d.replies
due_more dealings d =
    due_append 0 dealings (d ∷ [])
    ∙ ap (λ (n : ℕ). due_to dealings ++ due_after n (d ∷ [])) (omega arith)
    ∙ ap (λ (s : List Sent). due_to dealings ++ s) (append-nil (due_one d (suc (length dealings)) d.replies))

turns_more : (dealings : List Dealing) (d : Dealing) → turns_in (dealings ++ d ∷ []) ≡ turns_in dealings ++ d.turns
turns_more dealings d = flat_map-append (λ x. x.turns) dealings (d ∷ []) ∙ ap (λ (ts : List Turn). turns_in dealings ++ ts) (append-nil d.turns)

answered_more : (dealings : List Dealing) (d : Dealing) → answered_in (dealings ++ d ∷ []) ≡ answered_in dealings ++ answers_in d.turns
answered_more dealings d = ap answers_in (turns_more dealings d) ∙ map-append (λ t. t.answered) (turns_in dealings) d.turns

one_front : (f : List Dealing → ℕ) (dealings : List Dealing) → sum_by f (dealings ∷ []) ≡ f dealings
one_front f dealings = omega (arith, sum_by-cons f dealings [])

counts_more : (dealings : List Dealing) (d : Dealing) (requests : ℕ) (totals : Totals) → requests ≡ length d.turns → AreTotalsOf (dealings ∷ []) totals
    → AreTotalsOf ((dealings ++ d ∷ []) ∷ []) (counted requests totals)
counts_more dealings d requests totals is c =
    record {
      batches = omega (arith, one_front length (dealings ++ d ∷ []), one_front length dealings, c.batches, length-append dealings (d ∷ []));
      requests = omega (
        arith,
        is,
        one_front (λ x. length (turns_in x)) (dealings ++ d ∷ []),
        one_front (λ x. length (turns_in x)) dealings,
        c.requests,
        ap length (turns_more dealings d),
        length-append (turns_in dealings) d.turns,
      );
      bad = omega (
        arith,
        one_front (λ x. length (filter has_no_turns x)) (dealings ++ d ∷ []),
        one_front (λ x. length (filter has_no_turns x)) dealings,
        c.bad,
        ap length (filter-append has_no_turns dealings (d ∷ [])),
        length-append (filter has_no_turns dealings) (filter has_no_turns (d ∷ [])),
        ap {B = ℕ} (λ (n : ℕ). cond (eqb n 0) 1 0) is,
        by (eqb (length d.turns) 0),
      );
    }
  where
    by : (b : Bool) → length (cond b (d ∷ []) []) ≡ cond b 1 0
    by true = refl
    by false = refl

module _ (options : Options) (is_alone : Bool) (old : Sessions) (left : ℕ) where
  pub serves_more : (n requests : ℕ) (totals : Totals) (between new : Sessions) (left_before left_after : ℕ) (a b c : Traffic)
      → ServesSome options is_alone old left n totals between left_before a b → ServesOne options is_alone between left_before requests new left_after b c
      → ServesSome options is_alone old left (n + 1) (counted requests totals) new left_after a c
  serves_more n requests totals between new left_before left_after a b c some one =
      let d = one.dealing in
      let datagrams = datagrams_of some.dealings in
      let all : datagrams_of (some.dealings ++ d ∷ []) ≡ datagrams ++ d.datagram ∷ [] = map-append (λ x. x.datagram) some.dealings (d ∷ []) in
      let got : length (b.received ++ d.datagram ∷ []) ≡ suc (length some.dealings) =
      omega (arith, length-append b.received (d.datagram ∷ []), ap length some.received, length-map some.dealings (λ x. x.datagram)) in
      record {
        dealings = some.dealings ++ d ∷ [];
        many = omega (arith, length-append some.dealings (d ∷ []), some.many);
        each = All-append IsDealing some.dealings (d ∷ []) some.each (All-from_recursion IsDealing (d ∷ []) (one.is, tt));
        split = some.split ∙ ap (λ (l : List Datagram). datagrams ++ l) (one.next ∙ ap (λ (t : Traffic). d.datagram ∷ t.left) (sym one.told))
            ∙ sym (append_assoc datagrams (d.datagram ∷ []) c.left) ∙ ap (λ (x : List Datagram). x ++ c.left) (sym all);
        received = ap (λ (t : Traffic). t.received) one.told ∙ ap (λ (r : List Datagram). r ++ d.datagram ∷ []) some.received ∙ sym all;
        sent = ap (λ (t : Traffic). t.sent) one.told ∙ ap (λ (s : List Sent). s ++ due_one d (length (b.received ++ d.datagram ∷ [])) d.replies) some.sent
            ∙ ap (λ (m : ℕ). due_to some.dealings ++ due_one d m d.replies) got ∙ sym (due_more some.dealings d);
        answers = subst (λ (l : List Answered). AnswersInOrder options is_alone old l new) (sym (answered_more some.dealings d))
            (answers_append options is_alone (answered_in some.dealings) (answers_in d.turns) old between new some.answers one.answers);
        few = omega (arith, some.few, one.few, ap count_of_writes (answered_more some.dealings d), count_append (answered_in some.dealings) (answers_in d.turns));
        counts = counts_more some.dealings d requests totals one.count some.counts;
      }

  -- a fault came
  pub stops_at : (n batches : ℕ) (totals : Totals) (between new : Sessions) (left_before left_after : ℕ) (a b c : Traffic) → n < batches
      → ServesSome options is_alone old left n totals between left_before a b → StopsOne options is_alone between left_before new left_after b c
      → LeavesEnd options is_alone old left batches false new left_after a c
  stops_at n batches totals between new left_before left_after a b c lt some (inl unmoved) =
      let same = unmoved.0 in
      let datagrams = datagrams_of some.dealings in
      let many : length datagrams ≡ n = omega (arith, length-map some.dealings (λ x. x.datagram), some.many) in
      let got : c.received ≡ datagrams = ap (λ (t : Traffic). t.received) same ∙ some.received in
      let sent : c.sent ≡ due_to some.dealings = ap (λ (t : Traffic). t.sent) same ∙ some.sent in
      record {
        dealings = some.dealings;
        begins = record {
          in_order = some.split ∙ ap (λ (x : List Datagram). x ++ b.left) (sym got) ∙ ap (λ (t : Traffic). c.received ++ t.left) (sym same);
          few = omega (arith, ap length got, many, lt);
          asked = append-nil datagrams ∙ sym got;
          each = some.each;
          sent = ([], sym sent ∙ sym (append-nil c.sent));
        };
        short = inr (refl, omega (arith, ap length got, many, lt));
        answers = subst (λ (s : Sessions). AnswersInOrder options is_alone old (answered_in some.dealings) s) (sym unmoved.1) some.answers;
        few = omega (arith, some.few, unmoved.2);
      }
  stops_at n batches totals between new left_before left_after a b c lt some (inr h) =
      let d = h.dealing in
      let datagrams = datagrams_of some.dealings in
      let all : datagrams_of (some.dealings ++ d ∷ []) ≡ datagrams ++ d.datagram ∷ [] = map-append (λ x. x.datagram) some.dealings (d ∷ []) in
      let many : length datagrams ≡ n = omega (arith, length-map some.dealings (λ x. x.datagram), some.many) in
      let k = h.part.0 in
      let told = h.part.2 in
      let got : c.received ≡ datagrams ++ d.datagram ∷ [] = ap (λ (t : Traffic). t.received) told ∙ ap (λ (r : List Datagram). r ++ d.datagram ∷ []) some.received in
      let m : length (b.received ++ d.datagram ∷ []) ≡ suc (length some.dealings) =
      omega (arith, length-append b.received (d.datagram ∷ []), ap length some.received, length-map some.dealings (λ x. x.datagram)) in
      let sent : c.sent ≡ due_to some.dealings ++ due_one d (suc (length some.dealings)) (take k d.replies) =
      ap (λ (t : Traffic). t.sent) told ∙ ap (λ (s : List Sent). s ++ due_one d (length (b.received ++ d.datagram ∷ [])) (take k d.replies)) some.sent
      ∙ ap (λ (j : ℕ). due_to some.dealings ++ due_one d j (take k d.replies)) m in
      let later = due_one d (suc (length some.dealings)) (drop k d.replies) in
      let whole : due_to (some.dealings ++ d ∷ []) ≡ c.sent ++ later =
      due_more some.dealings d
      ∙ ap (λ (r : List Datagram). due_to some.dealings ++ due_one d (suc (length some.dealings)) r) (sym (take-append-drop k d.replies))
      ∙ ap (λ (s : List Sent). due_to some.dealings ++ s) (map-append _ (take k d.replies) (drop k d.replies))
      ∙ sym (append_assoc (due_to some.dealings) (due_one d (suc (length some.dealings)) (take k d.replies)) later) ∙ ap (λ (s : List Sent). s ++ later) (sym sent) in
      record {
        dealings = some.dealings ++ d ∷ [];
        begins = record {
          in_order = some.split ∙ ap (λ (l : List Datagram). datagrams ++ l) (h.next ∙ ap (λ (t : Traffic). d.datagram ∷ t.left) (sym told))
              ∙ sym (append_assoc datagrams (d.datagram ∷ []) c.left) ∙ ap (λ (x : List Datagram). x ++ c.left) (sym got);
          few = omega (arith, ap length got, length-append datagrams (d.datagram ∷ []), many, lt);
          asked = append-nil (datagrams_of (some.dealings ++ d ∷ [])) ∙ all ∙ sym got;
          each = All-append IsDealing some.dealings (d ∷ []) some.each (All-from_recursion IsDealing (d ∷ []) (h.is, tt));
          sent = (later, whole);
        };
        short = inl (omega (
          arith,
          ap length whole,
          length-append c.sent later,
          length-map {B = Sent} (drop k d.replies) (λ bytes. record { bytes = bytes; after = suc (length some.dealings) }),
          length-drop k d.replies,
          h.part.1,
        ));
        answers = subst (λ (l : List Answered). AnswersInOrder options is_alone old l new) (sym (answered_more some.dealings d))
            (answers_append options is_alone (answered_in some.dealings) (answers_in d.turns) old between new some.answers h.answers);
        few = omega (arith, some.few, h.few, ap count_of_writes (answered_more some.dealings d), count_append (answered_in some.dealings) (answers_in d.turns));
      }

  -- a datagram was received, and there was no memory to deal with it
  pub wants_at : (n batches : ℕ) (totals : Totals) (new : Sessions) (left_after : ℕ) (a b c : Traffic) → n < batches
      → ServesSome options is_alone old left n totals new left_after a b → LeavesUnread b c → WantsAtEnd batches a c
  wants_at n batches totals new left_after a b c lt some h =
      let datagrams = datagrams_of some.dealings in
      let many : length datagrams ≡ n = omega (arith, length-map some.dealings (λ x. x.datagram), some.many) in
      let got : c.received ≡ datagrams ++ h.0 ∷ [] = ap (λ (t : Traffic). t.received) h.3 ∙ ap (λ (r : List Datagram). r ++ h.0 ∷ []) some.received in
      let sent : c.sent ≡ due_to some.dealings = ap (λ (t : Traffic). t.sent) h.3 ∙ some.sent in
      record {
        dealings = some.dealings;
        unread = h.0 ∷ [];
        one = omega arith;
        begins = record {
          in_order = some.split ∙ ap (λ (l : List Datagram). datagrams ++ l) (h.2 ∙ ap (λ (t : Traffic). h.0 ∷ t.left) (sym h.3))
              ∙ sym (append_assoc datagrams (h.0 ∷ []) c.left) ∙ ap (λ (x : List Datagram). x ++ c.left) (sym got);
          few = omega (arith, ap length got, length-append datagrams (h.0 ∷ []), many, lt);
          asked = sym got;
          each = some.each;
          sent = ([], sym sent ∙ sym (append-nil c.sent));
        };
      }

-- there was no memory before anything was received
pub wants_fresh : (batches : ℕ) (a : Option Traffic) → IfSome a (λ t. t ≡ new_traffic t.left) → OnTraffic (WantsAtEnd batches) a a
wants_fresh batches None fresh = tt
wants_fresh batches (Some t) fresh =
    subst (λ (x : Traffic). WantsAtEnd batches x x) (sym fresh) (record {
      dealings = [];
      unread = [];
      one = omega arith;
      begins = record { in_order = refl; few = omega arith; asked = refl; each = All-from_recursion IsDealing [] tt; sent = ([], refl) };
    })
