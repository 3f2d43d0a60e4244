-- Each load of a reader keeps what is kept of it.
use Rattle.std.proofs.lemmas.Grind.{common_steps}
use Rattle.partition_words.proofs.Vocabulary.{Bool, Contains-push_cases, FailsFit, Failure, IfSome, IfSome_then, IsMain, Kept, List, None, Option}
use Rattle.partition_words.proofs.Vocabulary.{OwnerState, ReaderKept, ReaderState, Shape, Some, Tells, TellsTry, Try, TryKept, [], ap, arith, epoch_in}
use Rattle.partition_words.proofs.Vocabulary.{fails_after, failure, get_or, if◌then◌else◌, inl, inr, le_refl, loaded, new_try, opened, options_of, refl}
use Rattle.partition_words.proofs.Vocabulary.{shut, stamped, subst, sym, with_cut, with_load, writes_to_bucket, ℕ, ◌%◌, ◌*◌, ◌++◌, ◌∙◌, ◌∷◌, ◌≡◌, ◌≤◌}
use Rattle.partition_words.proofs.Prefixes.{prefix_same, prefix_then}
use Rattle.partition_words.proofs.Failing.{fails_more, in_none}
use Rattle.partition_words.proofs.Marked.{calm, tested}
use Rattle.partition_words.proofs.Spelling.{spells}

module _ (o : OwnerState) (s : Kept o) (r : ReaderState) (k : ReaderKept o r) where
  -- what a reader knows of an epoch before it loads it
  pub least_epoch : (b : ℕ) → IsMain r.shape b → 2 * writes_to_bucket (options_of r.shape) r.done b ≤ epoch_in o b
  least_epoch b main = rw k.shape (k.ended b (rw k.shape at main))

  -- a load leaves what was seen
  loaded_keeps : (loads tried closed : ℕ) (fails : List Failure) (current : Option Try) → FailsFit o fails → IfSome current (TryKept o)
      → ReaderKept o (record r { loads = loads; tried = tried; fails = fails; closed = closed; current = current })
  loaded_keeps loads tried closed fails current fit kept = grind (arith, common_steps)

  -- the first epoch

  pub opens : (b : ℕ) → IsMain r.shape b → ReaderKept o (opened b (epoch_in o b) r)
  opens b l =
      let n : ℕ = epoch_in o b in
      let main : IsMain o.shape b = rw k.shape at l in
      let more : List Failure = r.fails ++ failure b n n ∷ [] in
      loaded_keeps _ _ _ _ _
      (tested (λ (z : Bool). FailsFit o (if z then r.fails else more)) (n % 2) 0 (λ even. k.fails)
      (λ odd. fails_more o r.fails (failure b n n) k.fails (main, le_refl n, (le_refl n, inl (omega arith)))))
      (tested (λ (z : Bool). IfSome (if z then Some (new_try b n) else None) (TryKept o)) (n % 2) 0
      (λ even. record { main = main; even = even; first = le_refl n; loads = λ _ place x has. absurd (in_none (place, x) has); at = tt }) (λ odd. tt))

  -- an entry, a link or an item word

  load_current : (place : ℕ) (current : Option Try) → IfSome current (TryKept o) → IfSome (with_load place (get_or o.words place 0) current) (TryKept o)
  load_current place None t = tt
  load_current place (Some t) g = record {
    main = g.main;
    even = g.even;
    first = g.first;
    loads = λ is at x has reached. elim (Contains-push_cases t.loads (place, get_or o.words place 0) (at, x) has) [
      | inl old ↦ g.loads is at x old reached
      | inr same ↦ ap (λ (z : ℕ × ℕ). get_or o.words z.0 0) (sym same) ∙ ap (λ (z : ℕ × ℕ). z.1) same
    ];
    at = IfSome_then t.at g.at (λ at c. record { seen = c.seen; spelt = c.spelt });
  }

  pub loads : (place : ℕ) → ReaderKept o (loaded place (get_or o.words place 0) r)
  loads place = loaded_keeps _ _ _ _ _ k.fails (load_current place r.current k.current)

  -- the stamp

  stamp_current : (current : Option Try) → IfSome current (TryKept o) → IfSome (with_cut o.history current) (TryKept o)
  stamp_current None t = tt
  stamp_current (Some t) g = record {
    main = g.main;
    even = g.even;
    first = g.first;
    loads = g.loads;
    at = record {
      seen = prefix_same o.history;
      spelt = λ is.
          let even = ap (λ (z : ℕ). z % 2) is ∙ g.even in
          spells o s t g is (s.state t.bucket g.main (calm o s t.bucket g.main even).1);
    };
  }

  pub stamps : ReaderKept o (stamped o.history r)
  stamps = record {
    shape = k.shape;
    seen = prefix_same o.history;
    done = prefix_then r.done r.seen o.history k.done k.seen;
    met = λ m has. let known = k.met m has in (prefix_then m.seen r.seen o.history known.0 k.seen, known.1);
    ended = k.ended;
    fails = k.fails;
    current = stamp_current r.current k.current;
  }

  -- the last epoch

  shut_fails : (current : Option Try) (b : ℕ) → IfSome current (TryKept o) → ((t : Try) → current ≡ Some t → t.bucket ≡ b)
      → FailsFit o (fails_after (epoch_in o b) current r.fails)
  shut_fails None b g is = k.fails
  shut_fails (Some t) b g is =
      let n : ℕ = epoch_in o b in
      let same = ap (epoch_in o) (is t refl) in
      let first = g.first in
      let more : List Failure = r.fails ++ failure t.bucket t.first n ∷ [] in
      tested (λ (z : Bool). FailsFit o (if z then r.fails else more)) n t.first (λ still. k.fails)
      (λ moved. fails_more o r.fails (failure t.bucket t.first n) k.fails (g.main, omega arith, (omega arith, inr (omega arith))))

  pub shuts : (b : ℕ) → ((t : Try) → r.current ≡ Some t → t.bucket ≡ b) → ReaderKept o (shut (epoch_in o b) r)
  shuts b is = loaded_keeps _ _ _ _ _ (shut_fails r.current b k.current is) tt

  -- and what it tells

  tell_try : (current : Option Try) (b : ℕ) → IfSome current (TryKept o) → ((t : Try) → current ≡ Some t → t.bucket ≡ b)
      → IfSome current (TellsTry o.shape (epoch_in o b))
  tell_try None b g is = tt
  tell_try (Some t) b g is =
      let same = ap (epoch_in o) (is t refl) in
      record { least = omega (arith, g.first); spelt = λ still. IfSome_then t.at g.at (λ at c. c.spelt (same ∙ still)) }

  pub tells : (b : ℕ) → ((t : Try) → r.current ≡ Some t → t.bucket ≡ b) → Tells (epoch_in o b) r
  tells b is = subst (λ (z : Shape). IfSome r.current (TellsTry z (epoch_in o b))) (sym k.shape) (tell_try r.current b k.current is)
