use Rattle.std.proofs.Common.{◌≡◌, ◌*◌, ℕ, List, length}
use Rattle.optimistic_get.specs.Loading.{GoesOn, HasLoadedWords}
use Rattle.optimistic_get.proofs.Loads.{HasFirst}
use Rattle.optimistic_get.proofs.Bytes.{bytes_of}
use Rattle.optimistic_get.proofs.looking.load_value.Given as goal

-- the blocks so far, and their bytes
abbrev pub invariant-loop-at : goal.invariant-loop-at
invariant-loop-at g l = record {
  on : GoesOn (g.R.ReaderWords.reader l.fn.seat) (8 * l.at) (g.R.ReaderWords.reader l.seat);
  words : List ℕ;
  long : length words ≡ 8 * l.at;
  first : HasLoadedWords (g.R.ReaderWords.reader l.seat) l.offset words;
  bytes : l.out ≡ bytes_of words;
  wide : length l.out ≡ 8 * (8 * l.at);
  home : g.R.ReaderWords.home l.seat ≡ g.R.ReaderWords.home l.fn.seat;
  plan : g.R.ReaderWords.plan l.seat ≡ g.R.ReaderWords.plan l.fn.seat;
}

-- the words so far, and their bytes
abbrev pub invariant-loop-i : goal.invariant-loop-i
invariant-loop-i g l = record {
  on : GoesOn (g.R.ReaderWords.reader l.fn.seat) l.i (g.R.ReaderWords.reader l.seat);
  words : List ℕ;
  long : length words ≡ l.i;
  first : HasFirst (g.R.ReaderWords.reader l.seat) l.offset words l.i;
  bytes : l.out ≡ bytes_of words;
  wide : length l.out ≡ 8 * l.i;
  home : g.R.ReaderWords.home l.seat ≡ g.R.ReaderWords.home l.fn.seat;
  plan : g.R.ReaderWords.plan l.seat ≡ g.R.ReaderWords.plan l.fn.seat;
}
