-- What was saved, entry by entry.
use Rattle.std.proofs.Common.{◌≡◌, ℕ, ◌+◌, ◌<◌, List, [], ◌∷◌, ◌++◌, length, take, get_or, replicate, refl, sym, ap, subst, ◌∙◌, append_assoc, arith}
use Rattle.std.specs.Prelude.{Option}
use Rattle.std.specs.Io.KnownBytes.{Appends}
use Rattle.std.proofs.KnownBytes.{Appends-nil}
use Rattle.std.proofs.lemmas.Grind.{flat_map-append}
use Rattle.std.proofs.lemmas.List.{append-nil, take_more}
use Rattle.saved_items.specs.declared.blocks.TheConstants.{FIRST_SUM, CONTENT_LEN}
use Rattle.saved_items.specs.declared.spiller.Spiller.{Spiller}
use Rattle.saved_items.specs.declared.items.Head.{Head}
use Rattle.saved_items.specs.declared.items.Closing.{Closing}
use Rattle.saved_items.specs.Blocks.{content_sum, block_text, blocks_text, joined, FillsBlock}
use Rattle.saved_items.specs.Items.{Entry, Keeps, Closes, Pair, SavedItems, SavedFits, close_after}
use Rattle.saved_items.specs.Spelling.{word_text, words_text, head_words, pair_word, entry_text, entries_text, pair_text, items_text, SpellsSaved}
use Rattle.saved_items.specs.Moves.{HasPut}
use Rattle.saved_items.specs.Spiller.{IsFresh, HasSaved, Saves, Finishes, PutsBytes, close_behind}
use Rattle.saved_items.proofs.Puts.{Puts_block, Puts_then}

close_behind-snoc : (close : ℕ) (entries : List Entry) (entry : Entry) → close_behind close (entries ++ entry ∷ []) ≡ close_after (close_behind close entries) entry
close_behind-snoc close [] entry = refl
close_behind-snoc close (first ∷ entries) entry = close_behind-snoc (close_after close first) entries entry

entries_text-snoc : (close : ℕ) (entries : List Entry) (entry : Entry) → entries_text close (entries ++ entry ∷ []) ≡ entries_text close entries ++ entry_text (close_behind close entries) entry
entries_text-snoc close [] entry = append-nil (entry_text close entry)
entries_text-snoc close (first ∷ entries) entry =
    ap (λ (t : List ℕ). entry_text close first ++ t) (entries_text-snoc (close_after close first) entries entry)
    ∙ sym (append_assoc (entry_text close first) (entries_text (close_after close first) entries) (entry_text (close_behind (close_after close first) entries) entry))

-- nothing was put yet, and then the head
pub head_saved : (old new : Option (List ℕ)) (spiller spiller' : Spiller) (head : Head) → IsFresh spiller → spiller'.close ≡ spiller.close
    → PutsBytes old new spiller spiller' (words_text (head_words head)) → HasSaved old new spiller' head []
head_saved old new spiller spiller' head fresh kept puts =
    let none : HasPut old old spiller.sum spiller.held.items [] = record { contents = []; whole = tt; took = Appends-nil old; summed = fresh.sum; parts = fresh.held } in
    record {
      put = subst (HasPut old new spiller'.sum spiller'.held.items) (sym (append-nil (words_text (head_words head)))) (puts old [] none);
      close = kept ∙ fresh.close;
    }

saved_entry : (old new : Option (List ℕ)) (spiller spiller' : Spiller) (entry : Entry) → spiller'.close ≡ close_after spiller.close entry
    → PutsBytes old new spiller spiller' (entry_text spiller.close entry) → Saves old new spiller spiller' entry
saved_entry old new spiller spiller' entry close puts = λ before head entries has.
    let text : (words_text (head_words head) ++ entries_text 0 entries) ++ entry_text spiller.close entry ≡ words_text (head_words head) ++ entries_text 0 (entries ++ entry ∷ []) =
    ap (λ (n : ℕ). (words_text (head_words head) ++ entries_text 0 entries) ++ entry_text n entry) has.close
    ∙ append_assoc (words_text (head_words head)) (entries_text 0 entries) (entry_text (close_behind 0 entries) entry)
    ∙ ap (λ (t : List ℕ). words_text (head_words head) ++ t) (sym (entries_text-snoc 0 entries entry)) in
    record {
      put = subst (HasPut before new spiller'.sum spiller'.held.items) text (puts before (words_text (head_words head) ++ entries_text 0 entries) has.put);
      close = close ∙ ap (λ (n : ℕ). close_after n entry) has.close ∙ sym (close_behind-snoc 0 entries entry);
    }

-- one word more
pub words_more : (words : List ℕ) (i : ℕ) (bytes : List ℕ) → i < length words → bytes ≡ word_text (get_or words i 0) → words_text (take (i + 1) words) ≡ words_text (take i words) ++ bytes
words_more words i bytes less is =
    ap words_text (take_more words i 0 less) ∙ flat_map-append word_text (take i words) (get_or words i 0 ∷ [])
    ∙ ap (λ (b : List ℕ). words_text (take i words) ++ b) (append-nil (word_text (get_or words i 0)) ∙ sym is)

-- the word of a pair, its key and its value
pub pair_puts : (a b c d : Option (List ℕ)) (s t u v : Spiller) (pair : Pair) (word : List ℕ) → word ≡ word_text (pair_word pair)
    → PutsBytes a b s t word → PutsBytes b c t u pair.key → PutsBytes c d u v pair.value → PutsBytes a d s v (pair_text pair)
pair_puts a b c d s t u v pair word is first second third =
    let two : PutsBytes a c s u (word ++ pair.key) = Puts_then a b c s.sum t.sum u.sum s.held.items t.held.items u.held.items word pair.key first second in
    let all : PutsBytes a d s v ((word ++ pair.key) ++ pair.value) = Puts_then a c d s.sum u.sum v.sum s.held.items u.held.items v.held.items (word ++ pair.key) pair.value two third in
    subst (PutsBytes a d s v) (append_assoc word pair.key pair.value ∙ ap (λ (w : List ℕ). w ++ (pair.key ++ pair.value)) is) all

pub pair_saved : (old new : Option (List ℕ)) (spiller spiller' : Spiller) (pair : Pair) → spiller'.close ≡ close_after spiller.close (Keeps pair)
    → PutsBytes old new spiller spiller' (pair_text pair) → Saves old new spiller spiller' (Keeps pair)
pair_saved old new spiller spiller' pair close puts = saved_entry old new spiller spiller' (Keeps pair) close puts

pub closing_saved : (old new : Option (List ℕ)) (spiller spiller' : Spiller) (closing : Closing) → spiller'.close ≡ 0
    → PutsBytes old new spiller spiller' (words_text (spiller.close ∷ closing.written ∷ closing.next ∷ closing.until ∷ [])) → Saves old new spiller spiller' (Closes closing)
closing_saved old new spiller spiller' closing close puts = saved_entry old new spiller spiller' (Closes closing) close puts

-- ---- the end

spelled : (before new : Option (List ℕ)) (sum zeros : ℕ) (saved : SavedItems) → SavedFits saved → zeros < CONTENT_LEN → HasPut before new sum [] (items_text saved ++ replicate zeros 0)
    → (file : List ℕ) × Appends before new file × SpellsSaved file saved
spelled before new sum zeros saved fits few has = (
  blocks_text FIRST_SUM has.contents,
  has.took,
  record {
    fits = fits;
    contents = has.contents;
    whole = has.whole;
    blocks = refl;
    zeros = zeros;
    few = few;
    content = sym (append-nil (joined has.contents)) ∙ has.parts;
  },
)

-- nothing is held back
pub finishes_none : (taken : Option (List ℕ)) (spiller : Spiller) → spiller.held.items ≡ [] → Finishes taken taken spiller
finishes_none taken spiller held = λ before saved has fits.
    let put = subst (λ (h : List ℕ). HasPut before taken spiller.sum h (items_text saved)) held has.put in
    spelled before taken spiller.sum 0 saved fits (omega arith) (subst (HasPut before taken spiller.sum []) (sym (append-nil (items_text saved))) put)

-- a block with zeros behind what is held back
pub finishes_held : (old new : Option (List ℕ)) (spiller : Spiller) (filled : List ℕ) (zeros : ℕ) → filled ≡ spiller.held.items ++ replicate zeros 0 → FillsBlock filled → zeros < CONTENT_LEN
    → Appends old new (block_text spiller.sum filled) → Finishes old new spiller
finishes_held old new spiller filled zeros is full few appends = λ before saved has fits.
    let held = has.put in
    let put : HasPut before old spiller.sum filled (items_text saved ++ replicate zeros 0) =
    record {
      contents = held.contents;
      whole = held.whole;
      took = held.took;
      summed = held.summed;
      parts = ap (λ (f : List ℕ). joined held.contents ++ f) is ∙ sym (append_assoc (joined held.contents) spiller.held.items (replicate zeros 0)) ∙ ap (λ (c : List ℕ). c ++ replicate zeros 0) held.parts;
    } in
    let done = Puts_block old new spiller.sum filled full appends before (items_text saved ++ replicate zeros 0) put in
    spelled before new (content_sum spiller.sum filled) zeros saved fits few (subst (HasPut before new (content_sum spiller.sum filled) []) (append-nil (items_text saved ++ replicate zeros 0)) done)
