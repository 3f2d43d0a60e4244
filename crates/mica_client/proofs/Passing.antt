-- Datagrams that passed over a link in memory: those that lie there stay as they are where another one follows.
use Rattle.std.proofs.Common.{◌≡◌, ◌≤◌, ℕ, ◌-◌, List, [], ◌∷◌, ◌++◌, length, take, drop, refl, sym, ap, ◌∙◌, arith}
use Rattle.std.specs.Prelude.{slice_range}
use Rattle.std.specs.List.{All, AllByRecursion}
use Rattle.std.proofs.Math.Seq.{drop-append_seam}
use Rattle.std.proofs.lemmas.List.{take-append-le, drop-append-le, map-append, length-drop, append-nil, take_at, length-append, get_or_append_left}
use Rattle.std.proofs.lemmas.List.Elements.{recursion_from_All}
use Rattle.outside.specs.Traffic.{Datagram}
use Rattle.mica_client.specs.declared.memory_link.Pass.{Pass}
use Rattle.mica_client.specs.declared.memory_link.Pass.TheVariants.{Sent, Received}
use Rattle.mica_client.specs.Talk.{Passed, sent, received}
use Rattle.mica_client.specs.MemoryLink.{passed_by, passed_in, LiesWithin}

same_range : (bytes more : List ℕ) (from to : ℕ) → from ≤ to → to ≤ length bytes → slice_range (bytes ++ more) from to ≡ slice_range bytes from to
same_range bytes more from to order within =
    ap (take (to - from)) (drop-append-le from bytes more (omega arith))
    ∙ take-append-le (to - from) (drop from bytes) more (omega (arith, length-drop from bytes))

last_range : (bytes piece : List ℕ) (to : ℕ) → to ≡ length (bytes ++ piece) → slice_range (bytes ++ piece) (length bytes) to ≡ piece
last_range bytes piece to is =
    ap (take (to - length bytes)) (drop-append_seam bytes piece)
    ∙ ap (take (to - length bytes)) (sym (append-nil piece))
    ∙ take_at piece [] (to - length bytes) (omega (arith, length-append bytes piece))

one_kept : (bytes more : List ℕ) (datagrams others : List Datagram) (pass : Pass) → LiesWithin (length bytes) (length datagrams) pass → passed_by (bytes ++ more) (datagrams ++ others) pass ≡ passed_by bytes datagrams pass
one_kept bytes more datagrams others (Sent port from to faults) within =
    ap (λ (b : List ℕ). sent port b faults) (same_range bytes more from to within.0 within.1)
one_kept bytes more datagrams others (Received number faults) within =
    ap (λ (d : Datagram). received d faults) (get_or_append_left datagrams others [] number (omega (arith, within.1)))

kept : (bytes more : List ℕ) (datagrams others : List Datagram) (passes : List Pass) → AllByRecursion (LiesWithin (length bytes) (length datagrams)) passes
    → passed_in (bytes ++ more) (datagrams ++ others) passes ≡ passed_in bytes datagrams passes
kept bytes more datagrams others [] all = refl
kept bytes more datagrams others (p ∷ ps) all =
    ap (λ (q : Passed). q ∷ passed_in (bytes ++ more) (datagrams ++ others) ps) (one_kept bytes more datagrams others p all.0)
    ∙ ap (λ (l : List Passed). passed_by bytes datagrams p ∷ l) (kept bytes more datagrams others ps all.1)

-- one datagram more was sent
pub sent_more : (bytes piece : List ℕ) (datagrams : List Datagram) (passes : List Pass) (port from to faults : ℕ) → All (LiesWithin (length bytes) (length datagrams)) passes → from ≡ length bytes
    → to ≡ length (bytes ++ piece) → passed_in (bytes ++ piece) datagrams (passes ++ Sent port from to faults ∷ []) ≡ passed_in bytes datagrams passes ++ sent port piece faults ∷ []
sent_more bytes piece datagrams passes port from to faults all from_is to_is =
    map-append (passed_by (bytes ++ piece) datagrams) passes (Sent port from to faults ∷ [])
    ∙ ap (λ (l : List Passed). l ++ sent port (slice_range (bytes ++ piece) from to) faults ∷ [])
    (ap (λ (d : List Datagram). passed_in (bytes ++ piece) d passes) (sym (append-nil datagrams)) ∙ kept bytes piece datagrams [] passes (recursion_from_All _ passes all))
    ∙ ap (λ (b : List ℕ). passed_in bytes datagrams passes ++ sent port b faults ∷ [])
    (ap (λ (f : ℕ). slice_range (bytes ++ piece) f to) from_is ∙ last_range bytes piece to to_is)

-- one more is left
pub left_more : (bytes : List ℕ) (datagrams : List Datagram) (datagram : Datagram) (passes : List Pass) → All (LiesWithin (length bytes) (length datagrams)) passes
    → passed_in bytes (datagrams ++ datagram ∷ []) passes ≡ passed_in bytes datagrams passes
left_more bytes datagrams datagram passes all =
    ap (λ (b : List ℕ). passed_in b (datagrams ++ datagram ∷ []) passes) (sym (append-nil bytes))
    ∙ kept bytes [] datagrams (datagram ∷ []) passes (recursion_from_All _ passes all)

pub still_left : (at : ℕ) (datagrams : List Datagram) (datagram : Datagram) → at ≤ length datagrams → drop at (datagrams ++ datagram ∷ []) ≡ drop at datagrams ++ datagram ∷ []
still_left at datagrams datagram within = drop-append-le at datagrams (datagram ∷ []) within
