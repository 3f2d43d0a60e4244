-- Requests of a batch that are answered one after another.
use Rattle.std.proofs.Common.{◌≡◌, ℕ, ◌+◌, ◌<◌, ◌≤◌, Bool, true, false, cond, List, [], ◌∷◌, length, map, Option, refl, sym, ap, subst, arith}
use Rattle.std.specs.Prelude.{is_some}
use Rattle.std.specs.List.{AllZip, AllByRecursion}
use Rattle.std.proofs.lemmas.List.{append-nil}
use Rattle.std.proofs.lemmas.List.Elements.{All-cons, All-from_recursion, recursion_from_All}
use Rattle.partition_model.specs.declared.options.Options.{Options}
use Rattle.partition_model.specs.declared.write.Write.{Write}
use Rattle.batch_packets.specs.declared.batch.Request.{Request}
use Rattle.batch_packets.specs.declared.replies.Reply.{Reply}
use Rattle.batch_packets.specs.BatchGrammar.{IsRequest}
use Rattle.batch_packets.specs.Filling.{Filling}
use Rattle.batch_packets.specs.Remaining.{Remaining, HasLeft}
use Rattle.batch_packets.proofs.Filling.{adds_none as adds_none_to, adds_then}
use Rattle.fronts.specs.Answered.{Answered, wrote, got, changed, kept, count_of_writes}
use Rattle.datagram_answers.specs.Turn.{Turn, Asks, write_in, writes_of_one, reply_to, reply_of, answers_in}
use Rattle.datagram_answers.specs.Dealing.{IsTurn}
use Rattle.fronts.specs.Session.{Sessions}
use Rattle.datagram_answers.specs.Answering.{RepliesTo, AddsReply, AnswersAll, AddsAll, AnswersFirst, AreLeft}
use Rattle.fronts.proofs.InOrder.{count_append}

-- a request that was answered is one write where the answer is to one
pub asked_many : (request : Request) (answered : Answered) → Asks request answered → count_of_writes (answered ∷ []) ≡ writes_of_one request
asked_many request (wrote step) is = ap (λ (w : Option Write). cond (is_some w) 1 0) (sym is)
asked_many request (got key stamp value) is = ap (λ (w : Option Write). cond (is_some w) 1 0) (sym is.0)
asked_many request (changed step look) is = absurd is
asked_many request (kept key stamp look) is = absurd is

-- the answers are those that the requests asked
each_asked : (version : ℕ) (turns : List Turn) → AllByRecursion (IsTurn version) turns → AllZip Asks (map (λ t. t.request) turns) (answers_in turns)
each_asked version [] each = tt
each_asked version (t ∷ turns) each = (each.0.asked, each_asked version turns each.1)

module _ (options : Options) (is_alone : Bool) where
  few_before : (left left_between left_after : ℕ) (request : Request) (answered : Answered) (answers : List Answered) → Asks request answered
      → left ≤ left_between + writes_of_one request → left_between ≤ left_after + count_of_writes answers → left ≤ left_after + count_of_writes (answered ∷ answers)
  few_before left left_between left_after request answered answers asked few rest =
      omega (arith, few, rest, asked_many request answered asked, count_append (answered ∷ []) answers)

  -- a request before those that are left
  pub all_from : {version : ℕ} {old between new : Sessions} {left left_between left_after : ℕ} {request : Request} {requests : List Request} {answered : Answered} {replies : List Reply}
      → RepliesTo options is_alone version old request between answered → left ≤ left_between + writes_of_one request
      → AnswersAll options is_alone version between left_between requests new left_after replies
      → AnswersAll options is_alone version old left (request ∷ requests) new left_after (reply_to version request.ticket answered ∷ replies)
  all_from {version} {old} {between} {new} {left} {left_between} {left_after} {request} {requests} {answered} {replies} one few all =
      let turn : Turn = record { version = version; request = request; answered = answered } in
      record {
        turns = turn ∷ all.turns;
        asked = ap (λ r. request ∷ r) all.asked;
        replied = ap (λ r. reply_of turn ∷ r) all.replied;
        each = All-cons (IsTurn version) turn all.turns one.is all.each;
        answers = (between, one.answers, all.answers);
        few = few_before left left_between left_after request answered (answers_in all.turns) one.is.asked few all.few;
      }

  pub first_from : {version : ℕ} {old between new : Sessions} {left left_between left_after : ℕ} {request : Request} {requests : List Request} {answered : Answered}
      → RepliesTo options is_alone version old request between answered → left ≤ left_between + writes_of_one request
      → AnswersFirst options is_alone between left_between requests new left_after → AnswersFirst options is_alone old left (request ∷ requests) new left_after
  first_from {version} {old} {between} {new} {left} {left_between} {left_after} {request} {requests} {answered} one few rest =
      record {
        first = request ∷ rest.first;
        later = rest.later;
        begins = ap (λ r. request ∷ r) rest.begins;
        answers = answered ∷ rest.answers;
        asked = (one.is.asked, rest.asked);
        in_order = (between, one.answers, rest.in_order);
        few = few_before left left_between left_after request answered rest.answers one.is.asked few rest.few;
      }

  pub adds_from : {old between new : Sessions} {left left_between left_after : ℕ} {request : Request} {requests : List Request} {before mid after : Filling}
      → AddsReply options is_alone old before request between mid → left ≤ left_between + writes_of_one request
      → AddsAll options is_alone between left_between mid requests new left_after after → AddsAll options is_alone old left before (request ∷ requests) new left_after after
  adds_from {old} {between} {new} {left} {left_between} {left_after} {request} {requests} {before} {mid} {after} one few all = record {
    replies = reply_to before.version request.ticket one.answered ∷ all.replies;
    answered = all_from one.replied few
        (subst (λ (v : ℕ). AnswersAll options is_alone v between left_between requests new left_after all.replies) one.added.version all.answered);
    added = adds_then before mid after (reply_to before.version request.ticket one.answered ∷ []) all.replies one.added all.added;
  }

  -- nothing is left
  pub adds_none : (now : Sessions) (left : ℕ) (text : Filling) → AddsAll options is_alone now left text [] now left text
  adds_none now left text = record {
    replies = [];
    answered = record { turns = []; asked = refl; replied = refl; each = All-from_recursion (IsTurn text.version) [] tt; answers = λ q. refl; few = omega arith };
    added = adds_none_to text;
  }

  -- none of these was answered
  pub first_none : (now : Sessions) (left : ℕ) (requests : List Request) → AnswersFirst options is_alone now left requests now left
  first_none now left requests = record { first = []; later = requests; begins = refl; answers = []; asked = tt; in_order = λ q. refl; few = omega arith }

  -- all of them were
  pub first_all : {version : ℕ} {old new : Sessions} {left left_after : ℕ} {requests : List Request} {replies : List Reply}
      → AnswersAll options is_alone version old left requests new left_after replies → AnswersFirst options is_alone old left requests new left_after
  first_all {requests = requests} all = record {
    first = requests;
    later = [];
    begins = sym (append-nil requests);
    answers = answers_in all.turns;
    asked = subst (λ (rs : List Request). AllZip Asks rs (answers_in all.turns)) all.asked (each_asked _ all.turns (recursion_from_All _ all.turns all.each));
    in_order = all.answers;
    few = all.few;
  }

  -- Of all requests these are left, from a number on. Whatever answers them makes, with what was done, the answers to all.
  pub record Here (old : Sessions) (left : ℕ) (before : Filling) (all : List Request) (now : Sessions) (left_now : ℕ) (text : Filling) (unread : Remaining) (count number : ℕ) : Type 0 where
    pub rest : List Request
    pub has : HasLeft unread rest
    pub many : length rest + number ≡ count
    pub adds : (new : Sessions) (left_after : ℕ) (after : Filling) → AddsAll options is_alone now left_now text rest new left_after after
        → AddsAll options is_alone old left before all new left_after after
    pub first : (new : Sessions) (left_after : ℕ) → AnswersFirst options is_alone now left_now rest new left_after → AnswersFirst options is_alone old left all new left_after

  pub here_begins : (old : Sessions) (left : ℕ) (before : Filling) (all : List Request) (unread : Remaining) (version count : ℕ) → AreLeft unread version count all
      → Here old left before all old left before unread count 0
  here_begins old left before all unread version count are = record {
    rest = all;
    has = are.left;
    many = omega (arith, are.many);
    adds = λ new left_after after h. h;
    first = λ new left_after h. h;
  }

  module _ {old now : Sessions} {left left_now : ℕ} {before text : Filling} {all : List Request} {unread : Remaining} {count number : ℕ} where
    -- none was answered since
    pub here_first : Here old left before all now left_now text unread count number → AnswersFirst options is_alone old left all now left_now
    here_first h = h.first now left_now (first_none now left_now h.rest)

    -- none is left
    pub here_ends : Here old left before all now left_now text unread count number → count ≤ number → AddsAll options is_alone old left before all now left_now text
    here_ends h ended = by h.rest h.many (h.adds now left_now text)
      where
        by : (rest : List Request) → length rest + number ≡ count → (AddsAll options is_alone now left_now text rest now left_now text → AddsAll options is_alone old left before all now left_now text)
            → AddsAll options is_alone old left before all now left_now text
        by [] many adds = adds (adds_none now left_now text)
        by (x ∷ rest) many adds = absurd (omega (arith, many, ended))

    -- one is left
    pub one_left : Here old left before all now left_now text unread count number → number < count → (x : Request) × (later : List Request) × HasLeft unread (x ∷ later)
    one_left h lt = by h.rest h.has h.many
      where
        by : (rest : List Request) → HasLeft unread rest → length rest + number ≡ count → (x : Request) × (later : List Request) × HasLeft unread (x ∷ later)
        by [] has many = absurd (omega (arith, many, lt))
        by (x ∷ later) has many = (x, later, has)

  -- the request that was taken is the first of those that are left
  abbrev pub Takes : Remaining → Request → Remaining → Type 0
  Takes unread request next = (x : Request) (later : List Request) → HasLeft unread (x ∷ later) → (request ≡ x) × HasLeft next later

  pub here_lawful : {unread next : Remaining} {request : Request} → (x : Request) × (later : List Request) × HasLeft unread (x ∷ later) → Takes unread request next → IsRequest unread.version request
  here_lawful {unread} some takes =
      subst (λ (r : Request). IsRequest unread.version r) (sym (takes some.0 some.1 some.2).0) (recursion_from_All (IsRequest unread.version) (some.0 ∷ some.1) some.2.each).0

  pub here_next : {old now then : Sessions} {left left_now left_then : ℕ} {before text mid : Filling} {all : List Request} {unread next : Remaining} {count number : ℕ} {request : Request}
      → Here old left before all now left_now text unread count number → number < count → Takes unread request next → AddsReply options is_alone now text request then mid
      → left_now ≤ left_then + writes_of_one request → Here old left before all then left_then mid next count (number + 1)
  here_next {old} {now} {then} {left} {left_now} {left_then} {before} {text} {mid} {all} {unread} {next} {count} {number} {request} h lt takes one few = by h.rest h.has h.many h.adds h.first
    where
      by : (rest : List Request) → HasLeft unread rest → length rest + number ≡ count
          → ((new : Sessions) (left_after : ℕ) (after : Filling) → AddsAll options is_alone now left_now text rest new left_after after → AddsAll options is_alone old left before all new left_after after)
          → ((new : Sessions) (left_after : ℕ) → AnswersFirst options is_alone now left_now rest new left_after → AnswersFirst options is_alone old left all new left_after)
          → Here old left before all then left_then mid next count (number + 1)
      by [] has many adds first = absurd (omega (arith, many, lt))
      by (x ∷ later) has many adds first =
          let taken = takes x later has in
          let answered = subst (λ (r : Request). AddsReply options is_alone now text r then mid) taken.0 one in
          let fewer = subst (λ (r : Request). left_now ≤ left_then + writes_of_one r) taken.0 few in
          record {
            rest = later;
            has = taken.1;
            many = omega (arith, many);
            adds = λ new left_after after h. adds new left_after after (adds_from answered fewer h);
            first = λ new left_after h. first new left_after (first_from answered.replied fewer h);
          }

  -- it was answered, and its reply found no room
  pub here_replied : {old now then : Sessions} {left left_now left_then version : ℕ} {before text : Filling} {all : List Request} {unread next : Remaining} {count number : ℕ} {request : Request} {answered : Answered}
      → Here old left before all now left_now text unread count number → number < count → Takes unread request next → RepliesTo options is_alone version now request then answered
      → left_now ≤ left_then + writes_of_one request → AnswersFirst options is_alone old left all then left_then
  here_replied {old} {now} {then} {left} {left_now} {left_then} {version} {before} {text} {all} {unread} {next} {count} {number} {request} {answered} h lt takes one few = by h.rest h.has h.many h.first
    where
      by : (rest : List Request) → HasLeft unread rest → length rest + number ≡ count
          → ((new : Sessions) (left_after : ℕ) → AnswersFirst options is_alone now left_now rest new left_after → AnswersFirst options is_alone old left all new left_after)
          → AnswersFirst options is_alone old left all then left_then
      by [] has many first = absurd (omega (arith, many, lt))
      by (x ∷ later) has many first =
          let taken = takes x later has in
          first then left_then (first_from (subst (λ (r : Request). RepliesTo options is_alone version now r then answered) taken.0 one)
          (subst (λ (r : Request). left_now ≤ left_then + writes_of_one r) taken.0 few) (first_none then left_then later))

-- one or none
pub one_at_most : (b : Bool) → cond b 1 0 ≤ 1
one_at_most true = omega arith
one_at_most false = omega arith

-- a request is one write at most
pub few_of_one : (request : Request) → writes_of_one request ≤ 1
few_of_one request = one_at_most (is_some (write_in request))
