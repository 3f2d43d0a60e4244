-- The replies in the datagrams that are due are counted: there are some in each, and as many in all whatever is due to a datagram.
use Rattle.std.proofs.Common.{◌≡◌, ℕ, suc, ◌+◌, ◌<◌, inl, inr, List, [], ◌∷◌, ◌++◌, length, map, refl, sym, ap, ◌∙◌, subst, arith, length-append}
use Rattle.std.specs.List.{All, AllByRecursion}
use Rattle.std.proofs.lemmas.List.{length-map}
use Rattle.std.proofs.lemmas.List.Elements.{recursion_from_All}
use Rattle.outside.specs.Traffic.{Datagram, Sent}
use Rattle.batch_packets.specs.declared.batch.Batch.{Batch}
use Rattle.batch_packets.specs.declared.replies.Reply.{Reply}
use Rattle.batch_packets.specs.Datagram.{count_at}
use Rattle.batch_packets.specs.BatchGrammar.{SpellsBatch}
use Rattle.batch_packets.specs.ReplyGrammar.{replies_datagram}
use Rattle.batch_packets.specs.Splitting.{SplitsInto}
use Rattle.batch_packets.proofs.RequestLaws.{one_batch}
use Rattle.datagram_answers.specs.Turn.{reply_of, bad_batch_reply}
use Rattle.datagram_answers.specs.Dealing.{Dealing, IsDealing, AnswersBatch, RefusesBatch, bad_batch_text, due_after, due_to}
use Rattle.datagram_answers.specs.OneEnd.{BeginsAs}

-- how many replies stand in datagrams
abbrev replies_in : List Datagram → ℕ
replies_in [] = 0
replies_in (d ∷ datagrams) = count_at d + replies_in datagrams

abbrev sent_replies : List Sent → ℕ
sent_replies [] = 0
sent_replies (s ∷ sent) = count_at s.bytes + sent_replies sent

abbrev HasSome : Sent → Type 0
HasSome s = 0 < count_at s.bytes

counted : (version number : ℕ) (replies : List Reply) → count_at (replies_datagram version number replies) ≡ length replies
unfolding replies_datagram
counted version number replies = refl

-- replies that are split stand in the datagrams, and each has some
record Split (replies : List Reply) (datagrams : List Datagram) : Type 0 where
  all : replies_in datagrams ≡ length replies
  some : AllByRecursion (λ d. 0 < count_at d) datagrams

split : (version number : ℕ) (replies : List Reply) (datagrams : List Datagram) → SplitsInto version number replies datagrams → Split replies datagrams
split version number replies [] h = record { all = ap length (sym h); some = tt }
split version number replies (d ∷ datagrams) h =
    let group = h.0 in
    let count : count_at d ≡ length group = ap count_at h.3 ∙ counted version number group in
    let rest = split version number h.1 datagrams h.4 in
    let whole = ap length h.2.whole ∙ length-append group h.1 in
    let some = h.2.fits.some in
    record { all = omega (arith, rest.all); some = (omega arith, rest.some) }

bad_split : Split (bad_batch_reply ∷ []) (bad_batch_text ∷ [])
bad_split = let one = counted 1 0 (bad_batch_reply ∷ []) in record { all = omega arith; some = (omega arith, tt) }

-- what is due to an dealing: as many replies as the datagram alone says, and some in each datagram
record Due (dealing : Dealing) (n : ℕ) : Type 0 where
  all : replies_in dealing.replies ≡ n
  some : AllByRecursion (λ d. 0 < count_at d) dealing.replies

answered : (dealing : Dealing) (h : AnswersBatch dealing) → Due dealing (length h.batch.requests)
answered dealing h =
    let s = split _ _ _ dealing.replies h.split in
    let one = length-map dealing.turns reply_of in
    let two = length-map dealing.turns (λ t. t.request) in
    let same = ap length h.requests in
    record { all = omega (arith, s.all); some = s.some }

refused : (dealing : Dealing) → RefusesBatch dealing → Due dealing 1
refused dealing h = subst (λ (r : List Datagram). Due (record dealing { replies = r }) 1) (sym h.replies) (record { all = bad_split.all; some = bad_split.some })

-- two dealings of one datagram have as many
as_many : (one two : Dealing) → one.datagram ≡ two.datagram → IsDealing one → IsDealing two → replies_in one.replies ≡ replies_in two.replies
as_many one two same (inl a) (inl b) =
    let spelled = subst (λ (d : Datagram). SpellsBatch d a.batch) same a.spelled in
    let batch : a.batch ≡ b.batch = one_batch two.datagram a.batch b.batch spelled b.spelled in
    (answered one a).all ∙ ap (λ (x : Batch). length x.requests) batch ∙ sym (answered two b).all
as_many one two same (inl a) (inr b) = absurd (b.no_batch a.batch (subst (λ (d : Datagram). SpellsBatch d a.batch) same a.spelled))
as_many one two same (inr a) (inl b) = absurd (a.no_batch b.batch (subst (λ (d : Datagram). SpellsBatch d b.batch) (sym same) b.spelled))
as_many one two same (inr a) (inr b) = (refused one a).all ∙ sym (refused two b).all

sent_of : (n : ℕ) (datagrams : List Datagram) → sent_replies (map (λ d. record { bytes = d; after = n }) datagrams) ≡ replies_in datagrams
sent_of n [] = refl
sent_of n (d ∷ datagrams) = ap (λ (k : ℕ). count_at d + k) (sent_of n datagrams)

sent_append : (one two : List Sent) → sent_replies (one ++ two) ≡ sent_replies one + sent_replies two
sent_append [] two = omega arith
sent_append (s ∷ one) two = let rest = sent_append one two in omega arith

due_many : (n : ℕ) (ones twos : List Dealing) → AllByRecursion IsDealing ones → AllByRecursion IsDealing twos
    → map (λ e. e.datagram) ones ≡ map (λ e. e.datagram) twos → sent_replies (due_after n ones) ≡ sent_replies (due_after n twos)
due_many n [] [] p q same = refl
due_many n [] (b ∷ twos) p q same = absurd (cc)
due_many n (a ∷ ones) [] p q same = absurd (cc)
due_many n (a ∷ ones) (b ∷ twos) p q same =
    let head : a.datagram ≡ b.datagram = cc in
    let tail : map (λ e. e.datagram) ones ≡ map (λ e. e.datagram) twos = cc in
    let one = as_many a b head p.0 q.0 in
    let rest = due_many (suc n) ones twos p.1 q.1 tail in
    omega (
      arith,
      sent_append (map (λ d. record { bytes = d; after = suc n }) a.replies) (due_after (suc n) ones),
      sent_append (map (λ d. record { bytes = d; after = suc n }) b.replies) (due_after (suc n) twos),
      sent_of (suc n) a.replies,
      sent_of (suc n) b.replies,
    )

some_sent : (n : ℕ) (datagrams : List Datagram) → AllByRecursion (λ d. 0 < count_at d) datagrams
    → AllByRecursion HasSome (map (λ d. record { bytes = d; after = n }) datagrams)
some_sent n [] h = tt
some_sent n (d ∷ datagrams) h = (h.0, some_sent n datagrams h.1)

some_append : (one two : List Sent) → AllByRecursion HasSome one → AllByRecursion HasSome two
    → AllByRecursion HasSome (one ++ two)
some_append [] two p q = q
some_append (s ∷ one) two p q = (p.0, some_append one two p.1 q)

pub each_some : (dealing : Dealing) → IsDealing dealing → AllByRecursion (λ d. 0 < count_at d) dealing.replies
each_some dealing (inl a) = (answered dealing a).some
each_some dealing (inr b) = (refused dealing b).some

-- so no datagram is empty
not_empty : (datagram : Datagram) → 0 < count_at datagram → 0 < length datagram
not_empty [] h = absurd (omega (arith, h))
not_empty (b ∷ datagram) h = omega arith

pub none_empty : (datagrams : List Datagram) → AllByRecursion (λ d. 0 < count_at d) datagrams → AllByRecursion (λ d. 0 < length d) datagrams
none_empty [] h = tt
none_empty (d ∷ datagrams) h = (not_empty d h.0, none_empty datagrams h.1)

due_some : (n : ℕ) (dealings : List Dealing) → AllByRecursion IsDealing dealings → AllByRecursion HasSome (due_after n dealings)
due_some n [] h = tt
due_some n (e ∷ dealings) h = some_append _ (due_after (suc n) dealings) (some_sent (suc n) e.replies (each_some e h.0)) (due_some (suc n) dealings h.1)

some_after : (one two : List Sent) → AllByRecursion HasSome (one ++ two) → AllByRecursion HasSome two
some_after [] two h = h
some_after (s ∷ one) two h = some_after one two h.1

none_left : (rest : List Sent) → AllByRecursion HasSome rest → sent_replies rest ≡ 0 → rest ≡ []
none_left [] h zero_is = refl
none_left (s ∷ rest) h zero_is = let some = h.0 in absurd (omega arith)

-- a proper beginning of what is due is never all that is due
pub never_all : (sent : List Sent) (dealings others : List Dealing) → All IsDealing dealings → All IsDealing others
    → map (λ e. e.datagram) others ≡ map (λ e. e.datagram) dealings → BeginsAs sent (due_to dealings) → length sent < length (due_to dealings)
    → ¬ (sent ≡ due_to others)
never_all sent dealings others each each' same begins short all =
    let ones = recursion_from_All IsDealing dealings each in
    let twos = recursion_from_All IsDealing others each' in
    let many = due_many 0 others dealings twos ones same in
    let rest = begins.0 in
    let parts = ap sent_replies begins.1 ∙ sent_append sent rest in
    let whole = ap sent_replies all in
    let zero_is : sent_replies rest ≡ 0 = omega arith in
    let some = some_after sent rest (subst (λ (s : List Sent). AllByRecursion HasSome s) begins.1 (due_some 0 dealings ones)) in
    let none : rest ≡ [] = none_left rest some zero_is in
    let len = ap length begins.1 ∙ length-append sent rest in
    absurd (omega (arith, ap length none))
