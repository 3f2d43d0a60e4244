-- The keys to which a trace gives values, and the pairs of those that have one at its end.
use Rattle.std.specs.Prelude.{ℕ, Bool, true, false, List, Option, Some, None, option_map, if◌then◌else◌}
use Rattle.std.specs.List.{filter_map, list_any}
use Rattle.std.specs.Str.{bytes_eq}
use Rattle.mica_trace.specs.declared.line.TraceOp.{TraceOp}
use Rattle.mica_trace.specs.declared.line.TraceOp.TheVariants.{Put, Add}
use Rattle.mica_trace.specs.declared.line.TraceLine.{TraceLine}
use Rattle.store_image.specs.ImageGrammar.{Pair}

-- whether the operation gives its key a value
abbrev pub gives_value : TraceOp → Bool
gives_value Put = true
gives_value Add = true
gives_value _ = false

abbrev pub key_by : TraceOp → List ℕ → Option (List ℕ)
key_by op key = if gives_value op then Some key else None

-- the key that a line gives a value, if it does
abbrev pub put_key : TraceLine → Option (List ℕ)
put_key line = key_by line.op line.key

-- the keys of the puts and the adds, in order
abbrev pub put_keys : List TraceLine → List (List ℕ)
put_keys lines = filter_map put_key lines

abbrev pub has_key : List (List ℕ) → List ℕ → Bool
has_key keys key = list_any (λ k. bytes_eq k key) keys

-- the pair of a key, by the value that it has
abbrev pub pair_by : (List ℕ → Option (List ℕ)) → List ℕ → Option Pair
pair_by value_of key = option_map (λ value. record { key = key; value = value }) (value_of key)

-- the pairs of the keys that have a value
abbrev pub pairs_by : (List ℕ → Option (List ℕ)) → List (List ℕ) → List Pair
pairs_by value_of keys = filter_map (pair_by value_of) keys
