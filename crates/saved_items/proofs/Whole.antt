-- What has a file is read from it.
use Rattle.std.proofs.Common.{◌≡◌, ℕ, zero, suc, ◌<◌, true, ltb, eqb, List, [], ◌∷◌, ◌++◌, length, replicate, refl, sym, ap, subst, ◌∙◌, arith, append_assoc}
use Rattle.std.specs.Prelude.{None}
use Rattle.std.specs.List.{list_all, AllByRecursion}
use Rattle.std.proofs.lemmas.Bool.{lt-ltb}
use Rattle.saved_items.specs.declared.blocks.TheConstants.{CONTENT_LEN, FIRST_SUM}
use Rattle.saved_items.specs.Items.{Entry, SavedItems, EntryFits, AreClosed, left_after, close_after}
use Rattle.saved_items.specs.Spelling.{words_text, head_words, entry_text, entries_text, items_text, SpellsSaved}
use Rattle.saved_items.specs.Reading.{Stream, AtEnd, head_at, entry_at, only_zeros, EndsWith, HasEntries, stream_at}
use Rattle.saved_items.specs.Laws.{ReadsAll}
use Rattle.saved_items.proofs.Again.{blocks_stream}
use Rattle.saved_items.proofs.AgainItems.{IsClose, close_is, head_again, entry_again}

-- ---- the end

length-zeros : (n : ℕ) → length {A = ℕ} (replicate n 0) ≡ n
length-zeros zero = refl
length-zeros (suc n) = ap suc (length-zeros n)

all-zeros : (n : ℕ) → list_all (λ byte. eqb byte 0) (replicate n 0) ≡ true
all-zeros zero = refl
all-zeros (suc n) = all-zeros n

zeros_end : (n : ℕ) → n < CONTENT_LEN → only_zeros (record { content = replicate n 0; stop = AtEnd }) ≡ true
zeros_end n few =
    let short : ltb (length {A = ℕ} (replicate n 0)) CONTENT_LEN ≡ true = lt-ltb (length {A = ℕ} (replicate n 0)) CONTENT_LEN (omega (arith, length-zeros n)) in
    rw (short, all-zeros n) refl

-- ---- the entries

entries_again : (n close : ℕ) (entries : List Entry) (zeros : ℕ) → IsClose close → AllByRecursion EntryFits entries → AreClosed n entries → zeros < CONTENT_LEN
    → HasEntries n close (record { content = entries_text close entries ++ replicate zeros 0; stop = AtEnd }) entries None
entries_again n close [] zeros is fits closed few = subst (λ (k : ℕ). EndsWith k close (record { content = replicate zeros 0; stop = AtEnd }) None) (sym closed) (zeros_end zeros few)
entries_again n close (entry ∷ entries) zeros is fits closed few =
    let next = close_after close entry in
    let behind = entries_text next entries ++ replicate zeros 0 in
    let regrouped : entries_text close (entry ∷ entries) ++ replicate zeros 0 ≡ entry_text close entry ++ behind = append_assoc (entry_text close entry) (entries_text next entries) (replicate zeros 0) in (
      closed.0,
      record { content = behind; stop = AtEnd },
      ap (λ (c : List ℕ). entry_at close (record { content = c; stop = AtEnd })) regrouped ∙ entry_again close entry behind AtEnd is fits.0,
      entries_again (left_after n entry) next entries zeros (close_is close entry is) fits.1 closed.1 few,
    )

stream_is : (file : List ℕ) (saved : SavedItems) → (is : SpellsSaved file saved) → stream_at FIRST_SUM file ≡ record { content = items_text saved ++ replicate is.zeros 0; stop = AtEnd }
stream_is file saved is =
    ap (stream_at FIRST_SUM) is.blocks ∙ blocks_stream FIRST_SUM is.contents (omega arith) is.whole
    ∙ ap (λ (c : List ℕ). let s : Stream = record { content = c; stop = AtEnd } in s) is.content

pub reads_all : ReadsAll
reads_all file saved is =
    let behind = entries_text 0 saved.entries ++ replicate is.zeros 0 in
    let regrouped : items_text saved ++ replicate is.zeros 0 ≡ words_text (head_words saved.head) ++ behind = append_assoc (words_text (head_words saved.head)) (entries_text 0 saved.entries) (replicate is.zeros 0) in
    record {
      rest = record { content = behind; stop = AtEnd };
      begins = ap head_at (stream_is file saved is ∙ ap (λ (c : List ℕ). let s : Stream = record { content = c; stop = AtEnd } in s) regrouped) ∙ head_again saved.head behind AtEnd is.fits.head;
      goes_on = entries_again saved.head.partitions 0 saved.entries is.zeros (omega arith, omega arith) is.fits.entries is.fits.closed is.few;
    }
