use Rattle.chained_index.proofs.Words.{ℕ, refl, entry_of, OwnerState, IsUsed, ChangesChain, IsIndexOf}
use Rattle.chained_index.proofs.Words.{entries_with}
use Rattle.chained_index.proofs.Allowed.{marked_part, marked_any, some_entry}
use Rattle.chained_index.proofs.Changed.{Leaves}
use Rattle.chained_index.proofs.Calls.{replaced}
use Rattle.chained_index.proofs.index.ChainedIndex.replace.Goals as goal

pub returns : goal.returns
returns g c =
    let o : OwnerState = g.W.OwnerWords.owner c.args.words.now in
    let p : OwnerState = g.W.OwnerWords.owner c.put_entry.new.self in
    let x : ℕ = entry_of c.args.tag c.args.offset in
    let left : ℕ → Type 0 = λ b. Leaves o b c.args.self.now (entries_with o b c.args.spot x) p in
    let all = marked_part o.phase (λ b. IsUsed o b c.args.spot) left
    (λ b one u. replaced o p c.put_entry.ensures.kept c.args.spot x (some_entry c.args.tag c.args.offset c.requires.tag) (cc) b one u c.args.self.now c.requires.index)
    c.requires.spot in record {
      entries = marked_part o.phase left (λ b. ChangesChain o p b (entries_with o b c.args.spot x)) (λ b one l. l.0) all;
      index = (refl, marked_any o.phase (IsIndexOf c.args.self.now p) (marked_part o.phase left (λ b. IsIndexOf c.args.self.now p) (λ b one l. l.1) all));
      kept = c.put_entry.ensures.kept;
      home = cc;
    }
