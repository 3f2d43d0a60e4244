-- What is made of one end: datagram by datagram.
use Rattle.std.proofs.Common.{◌≡◌, ℕ, inl, inr, Bool, List, length, take, Option, Some, None, refl, sym, ap, ◌∙◌, subst}
use Rattle.std.specs.Prelude.{IfSome}
use Rattle.outside.specs.Traffic.{Datagram, Traffic, ReceivesNext}
use Rattle.partition_model.specs.declared.options.Options.{Options}
use Rattle.datagram_answers.specs.declared.end.TheConstants.{ROOM}
use Rattle.datagram_answers.specs.Turn.{Turn}
use Rattle.datagram_answers.specs.Dealing.{IsDealing}
use Rattle.fronts.specs.Session.{Sessions}
use Rattle.datagram_answers.specs.Answering.{DealsWith}
use Rattle.datagram_answers.specs.OneEnd.{OnTraffic, SendsAll, SendsPart, sent_all, received_one, ServesOne, StopsOne, LeavesUnread}
use Rattle.datagram_answers.proofs.Cut.{cut_dealing}

module _ (options : Options) (is_alone : Bool) (old new : Sessions) (left left_after : ℕ) where
  pub served_one : (room requests : ℕ) (given : Datagram) (turns : List Turn) (replies : List Datagram) (a mid b : Option Traffic) → room ≡ ROOM
      → IfSome a (λ t. ReceivesNext t given room mid) → DealsWith options is_alone old left (record { datagram = given; turns = turns; replies = replies }) new left_after
      → requests ≡ length turns → OnTraffic (SendsAll replies) mid b → OnTraffic (ServesOne options is_alone old left requests new left_after) a b
  served_one room requests given turns replies None mid b size next deals count sends = tt
  served_one room requests given turns replies (Some t) None b size next deals count sends = let is = next.result in absurd (cc)
  served_one room requests given turns replies (Some t) (Some m) None size next deals count sends = absurd sends
  served_one room requests given turns replies (Some t) (Some m) (Some b) size next deals count sends =
      let is = next.result in
      let got : m ≡ received_one next.datagram next.later t = cc in
      let cut : given ≡ take ROOM next.datagram = next.cut ∙ ap (λ (n : ℕ). take n next.datagram) size in
      record {
        dealing = record { datagram = next.datagram; turns = turns; replies = replies };
        later = next.later;
        next = next.next;
        is = cut_dealing next.datagram turns replies (subst (λ (g : Datagram). IsDealing (record { datagram = g; turns = turns; replies = replies })) cut deals.is);
        count = count;
        told = sends ∙ ap (sent_all replies) got;
        answers = deals.answers;
        few = deals.few;
      }

  pub short_one : (room : ℕ) (given : Datagram) (turns : List Turn) (replies : List Datagram) (a mid b : Option Traffic) → room ≡ ROOM
      → IfSome a (λ t. ReceivesNext t given room mid) → DealsWith options is_alone old left (record { datagram = given; turns = turns; replies = replies }) new left_after
      → OnTraffic (SendsPart replies) mid b → OnTraffic (StopsOne options is_alone old left new left_after) a b
  short_one room given turns replies None mid b size next deals sends = tt
  short_one room given turns replies (Some t) None b size next deals sends = let is = next.result in absurd (cc)
  short_one room given turns replies (Some t) (Some m) None size next deals sends = absurd sends
  short_one room given turns replies (Some t) (Some m) (Some b) size next deals sends =
      let is = next.result in
      let got : m ≡ received_one next.datagram next.later t = cc in
      let cut : given ≡ take ROOM next.datagram = next.cut ∙ ap (λ (n : ℕ). take n next.datagram) size in
      inr (record {
        dealing = record { datagram = next.datagram; turns = turns; replies = replies };
        later = next.later;
        next = next.next;
        is = cut_dealing next.datagram turns replies (subst (λ (g : Datagram). IsDealing (record { datagram = g; turns = turns; replies = replies })) cut deals.is);
        part = (sends.0, sends.1, sends.2 ∙ ap (sent_all (take sends.0 replies)) got);
        answers = deals.answers;
        few = deals.few;
      })

-- a datagram was received
pub unread_one : (room : ℕ) (given : Datagram) (a b : Option Traffic) → IfSome a (λ t. ReceivesNext t given room b) → OnTraffic LeavesUnread a b
unread_one room given None b next = tt
unread_one room given (Some t) None next = let is = next.result in absurd (cc)
unread_one room given (Some t) (Some b) next = let is = next.result in (next.datagram, next.later, next.next, cc)

-- nothing was received
pub stays_one : (options : Options) (is_alone : Bool) (old : Sessions) (left : ℕ) (a b : Option Traffic) → b ≡ a → OnTraffic (StopsOne options is_alone old left old left) a b
stays_one options is_alone old left None b same = tt
stays_one options is_alone old left (Some a) b same =
    subst (λ (t : Option Traffic). OnTraffic (StopsOne options is_alone old left old left) (Some a) t) (sym same) (inl (refl, refl, refl))
