-- A datagram that is longer than the room of a `recv` is no batch, and neither is what is given of it.
use Rattle.std.proofs.Common.{◌≡◌, ◌≤◌, ◌<◌, ◌⊎◌, inl, inr, List, length, take, sym, subst, arith}
use Rattle.std.proofs.lemmas.Bool.{cases_lt}
use Rattle.std.proofs.lemmas.List.{length-take-le, take_all}
use Rattle.batch_packets.specs.declared.header.TheConstants.{MAX_DATAGRAM_LEN_V2}
use Rattle.datagram_answers.specs.declared.end.TheConstants.{ROOM}
use Rattle.batch_packets.specs.declared.batch.Batch.{Batch}
use Rattle.batch_packets.specs.BatchGrammar.{SpellsBatch, batch_text}
use Rattle.batch_packets.proofs.ItemLaws.{within_largest}
use Rattle.outside.specs.Traffic.{Datagram}
use Rattle.datagram_answers.specs.Turn.{Turn}
use Rattle.datagram_answers.specs.Dealing.{IsDealing}

text_short : (batch : Batch) (bytes : Datagram) → SpellsBatch bytes batch → length bytes ≤ MAX_DATAGRAM_LEN_V2
unfolding batch_text
text_short batch bytes h = let short = h.lawful.fits.short in subst (λ (b : Datagram). length b ≤ MAX_DATAGRAM_LEN_V2) (sym h.text) (omega (arith, short, within_largest batch.version))

-- what is made of the bytes that the room takes is made of the datagram
pub cut_dealing : (datagram : Datagram) (turns : List Turn) (replies : List Datagram)
    → IsDealing (record { datagram = take ROOM datagram; turns = turns; replies = replies }) → IsDealing (record { datagram = datagram; turns = turns; replies = replies })
cut_dealing datagram turns replies h = by (cases_lt ROOM (length datagram))
  where
    by : (ROOM < length datagram) ⊎ (length datagram ≤ ROOM) → IsDealing (record { datagram = datagram; turns = turns; replies = replies })
    by (inr short) = subst (λ (d : Datagram). IsDealing (record { datagram = d; turns = turns; replies = replies })) (take_all ROOM datagram short) h
    by (inl long) =
        let given : length (take ROOM datagram) ≡ ROOM = length-take-le ROOM datagram (omega arith) in
        elim h as (λ _. IsDealing (record { datagram = datagram; turns = turns; replies = replies })) [
          | inl a ↦ absurd (let short = text_short a.batch (take ROOM datagram) a.spelled in omega arith)
          | inr b ↦ inr (record {
            no_batch = λ batch spelled. absurd (let short = text_short batch datagram spelled in omega arith);
            no_turns = b.no_turns;
            replies = b.replies;
          })
        ]
