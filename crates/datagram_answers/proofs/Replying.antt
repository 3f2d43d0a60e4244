-- The reply to one request, and to bytes that are no batch.
use Rattle.std.proofs.Common.{◌≡◌, ◌<◌, inl, inr, ℕ, Bool, true, false, ltb, List, [], ◌∷◌, ◌++◌, length, None, refl, sym, ap, ◌∙◌, subst, arith, length-append, Some}
use Rattle.std.specs.Prelude.{Result, Ok, Err, Option}
use Rattle.std.proofs.lemmas.List.{append-nil}
use Rattle.std.specs.Result.{OnErr}
use Rattle.std.proofs.lemmas.Bool.{ltb-false}
use Rattle.mica_words.specs.Hash.{partition_of}
use Rattle.partition_model.specs.declared.options.Options.{Options}
use Rattle.partition_model.specs.declared.write.Outcome.{Outcome}
use Rattle.partition_model.specs.declared.write.Write.{Write}
use Rattle.partition_model.specs.Write.{is_accepted}
use Rattle.batch_packets.specs.Datagram.{max_value_len}
use Rattle.batch_packets.specs.declared.batch.Request.{Request}
use Rattle.batch_packets.specs.BatchGrammar.{IsRequest}
use Rattle.batch_packets.specs.declared.replies.Reply.{Reply}
use Rattle.batch_packets.specs.ReplyGrammar.{replies_text, IsReply, status_byte}
use Rattle.batch_packets.specs.Splitting.{SplitsInto}
use Rattle.fronts.specs.Answered.{wrote, got}
use Rattle.datagram_answers.specs.Turn.{write_in, get_reply}
use Rattle.fronts.specs.Session.{Sessions, Writes, Reads, ChangesOnly}
use Rattle.datagram_answers.specs.Dealing.{IsNoBatch, bad_batch_text}
use Rattle.datagram_answers.specs.Answering.{RepliesTo, DealsWith, DealsInPart}
use Rattle.datagram_answers.proofs.RequestsInOrder.{first_none}
use Rattle.datagram_answers.proofs.Statuses.{replied_status}

pub err_anyway : {T E : Type 0} {X : Type 0} (r : Result T E) → X → OnErr r X
err_anyway (Ok t) x = tt
err_anyway (Err e) x = x

-- a reply to a get is of its version
lawful_get : (version ticket stamp : ℕ) (value : Option (List ℕ)) → IsReply version (get_reply version ticket stamp value)
unfolding status_byte
lawful_get version ticket stamp None = record { status = refl; value = omega arith }
lawful_get version ticket stamp (Some v) = by (ltb (max_value_len version) (length v)) refl
  where
    by : (long : Bool) → ltb (max_value_len version) (length v) ≡ long → IsReply version (get_reply version ticket stamp (Some v))
    by true over = record { status = rw over refl; value = rw over (omega arith) }
    by false under = record { status = rw under refl; value = rw under (ltb-false _ _ under) }

-- a get
pub get_replied : (options : Options) (is_alone : Bool) (version : ℕ) (old new : Sessions) (request : Request) (key : List ℕ) (stamp : ℕ) (value : Option (List ℕ))
    → write_in request ≡ None → key ≡ request.key
    → Reads options is_alone (old (partition_of options.hashing key options.partitions)) key stamp value (new (partition_of options.hashing key options.partitions))
    → ChangesOnly (partition_of options.hashing key options.partitions) old new
    → RepliesTo options is_alone version old request new (got key stamp value)
get_replied options is_alone version old new request key stamp value none same reads others = record {
  is = record { version_is = refl; asked = (none, same); lawful = lawful_get version request.ticket stamp value };
  answers = record { one = reads; others = others };
}

-- a write
pub write_replied : (options : Options) (is_alone : Bool) (version : ℕ) (old new : Sessions) (request : Request) (write : Write) (outcome : Outcome) (stamp : ℕ)
    → IsRequest version request → write_in request ≡ Some write
    → Writes options is_alone (old (partition_of options.hashing write.key options.partitions)) (record { write = write; outcome = outcome; stamp = stamp }) (new (partition_of options.hashing write.key options.partitions))
    → ChangesOnly (partition_of options.hashing write.key options.partitions) old new
    → RepliesTo options is_alone version old request new (wrote (record { write = write; outcome = outcome; stamp = stamp }))
write_replied options is_alone version old new request write outcome stamp lawful is writes others = record {
  is = record {
    version_is = refl;
    asked = is;
    lawful = record {
      status = replied_status version request.want request.key request.value lawful.operation options (is_accepted outcome) writes.cut write outcome is writes.reply;
      value = omega arith;
    };
  };
  answers = record { one = writes; others = others };
}

-- one reply is one datagram
pub one_datagram : (version number : ℕ) (reply : Reply) (datagrams : List (List ℕ)) → SplitsInto version number (reply ∷ []) datagrams
    → datagrams ≡ replies_text (record { version = version; number = number; replies = reply ∷ [] }) ∷ []
one_datagram version number reply [] h = absurd (cc)
one_datagram version number reply (d ∷ datagrams) h = by h.0 h.1 h.2.whole h.2.fits.some h.3 datagrams h.4
  where
    by : (group later : List Reply) → reply ∷ [] ≡ group ++ later → 0 < length group → d ≡ replies_text (record { version = version; number = number; replies = group })
        → (datagrams : List (List ℕ)) → SplitsInto version number later datagrams → d ∷ datagrams ≡ replies_text (record { version = version; number = number; replies = reply ∷ [] }) ∷ []
    by group later whole some text [] rest =
        let len = ap length whole ∙ length-append group later in
        let none : later ≡ [] = rest in
        let one : group ≡ reply ∷ [] = sym (whole ∙ ap (λ (l : List Reply). group ++ l) none ∙ append-nil group) in
        ap (λ (t : List ℕ). t ∷ []) (text ∙ ap (λ (g : List Reply). replies_text (record { version = version; number = number; replies = g })) one)
    by group later whole some text (e ∷ datagrams) rest =
        let len = ap length whole ∙ length-append group later in
        let more = ap length rest.2.whole ∙ length-append rest.0 rest.1 in
        let much = rest.2.fits.some in
        absurd (omega arith)

-- bytes with a fault are no batch, and get the one refusal
pub refuses : (options : Options) (is_alone : Bool) (sessions : Sessions) (left : ℕ) (bytes : List ℕ) (replies : List (List ℕ)) → IsNoBatch bytes
    → replies ≡ bad_batch_text ∷ [] → DealsWith options is_alone sessions left (record { datagram = bytes; turns = []; replies = replies }) sessions left
refuses options is_alone sessions left bytes replies none is = record {
  is = inr (record { no_batch = none; no_turns = refl; replies = is });
  answers = λ q. refl;
  few = omega arith;
}

-- no request of any datagram was answered
pub none_dealt : (options : Options) (is_alone : Bool) (sessions : Sessions) (left : ℕ) (bytes : List ℕ) → DealsInPart options is_alone sessions left bytes sessions left
none_dealt options is_alone sessions left bytes = record { requests = []; of = inl refl; first = first_none options is_alone sessions left [] }
