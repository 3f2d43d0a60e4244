-- A reader's state, and what each of its loads makes of it.
use Rattle.std.specs.Prelude.{ℕ, ◌+◌, ◌%◌, ◌==◌, [], ◌∷◌, ◌++◌, List, Option, Some, None, if◌then◌else◌, is_some}
use Rattle.partition_model.specs.History.{History}
use Rattle.partition_words.specs.declared.shape.Shape.{Shape}
use Rattle.partition_words.specs.declared.state.Failure.{Failure}
use Rattle.partition_words.specs.declared.reader.Try.{Try}
use Rattle.partition_words.specs.declared.reader.ReaderState.{ReaderState}
use Rattle.partition_words.specs.Failures.{failure}
use Rattle.partition_words.specs.Layout.{item_at}

-- one just split off, that has seen this history, of which the first part had ended
abbrev pub newcomer : Shape → History → History → ReaderState
newcomer shape seen done =
    record {
      shape = shape;
      seen = seen;
      done = done;
      met = [];
      loads = 0;
      tried = 0;
      fails = [];
      closed = 0;
      current = None;
    }

-- a try of a bucket that has loaded its first epoch alone
abbrev pub new_try : ℕ → ℕ → Try
new_try b first = record { bucket = b; first = first; loads = []; at = None }

-- The first epoch load, which found n: an even one opens a try, an odd one is a failure. An open try is
-- given up.
abbrev pub opened : ℕ → ℕ → ReaderState → ReaderState
opened b n r = record r {
  loads = r.loads + 1;
  tried = r.tried + 1;
  fails = if n % 2 == 0 then r.fails else (r.fails ++ failure b n n ∷ []);
  current = if n % 2 == 0 then Some (new_try b n) else None;
}

-- a try with one load more
abbrev pub with_load : ℕ → ℕ → Option Try → Option Try
with_load place x None = None
with_load place x (Some t) = Some (record t { loads = t.loads ++ (place, x) ∷ [] })

-- the load of an entry, a link or an item word, which found x
abbrev pub loaded : ℕ → ℕ → ReaderState → ReaderState
loaded place x r = record r { loads = r.loads + 1; current = with_load place x r.current }

-- the loads of item words, one after another from an offset on, which found these
abbrev pub loaded_items : ℕ → List ℕ → ReaderState → ReaderState
loaded_items p [] r = r
loaded_items p (x ∷ xs) r = loaded_items (p + 1) xs (loaded (item_at r.shape p) x r)

-- a try that has loaded the stamp, at this history
abbrev pub with_cut : History → Option Try → Option Try
with_cut history None = None
with_cut history (Some t) = Some (record t { at = Some (record { history = history; loads = t.loads }) })

-- the stamp load, at this history of the owner's
abbrev pub stamped : History → ReaderState → ReaderState
stamped history r =
    record r { seen = history; loads = r.loads + 1; current = with_cut history r.current }

-- the failures once a try has loaded its last epoch: one more where that is not its first one
abbrev pub fails_after : ℕ → Option Try → List Failure → List Failure
fails_after n None fails = fails
fails_after n (Some t) fails =
    if n == t.first then fails else (fails ++ failure t.bucket t.first n ∷ [])

-- 1 where a try closes with this last epoch and has loaded the stamp, else 0
abbrev pub closes : ℕ → Option Try → ℕ
closes n None = 0
closes n (Some t) = if n == t.first then (if is_some t.at then 1 else 0) else 0

-- The last epoch load, which found n, ends the open try. Where n is not the first epoch, the try failed. Where
-- it is, and the try loaded a stamp, the try counts as closed.
abbrev pub shut : ℕ → ReaderState → ReaderState
shut n r = record r {
  loads = r.loads + 1;
  fails = fails_after n r.current r.fails;
  closed = r.closed + closes n r.current;
  current = None;
}
