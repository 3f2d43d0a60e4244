-- Meta commands beside classic ones, what is never hidden, and keys of base64.
use Rattle.std.specs.Result.{result_ok}
use Rattle.std.specs.Prelude.{if◌then◌else◌}
use Rattle.std.specs.declared.result.Result.{Result}
use Rattle.std.specs.declared.result.Result.TheVariants.{Ok, Err}
use Rattle.std.proofs.Common.{◌≡◌, ℕ, ◌<◌, Bool, true, false, cond, List, [], ◌∷◌, length, refl, sym, ap, subst, ◌∙◌, arith}
use Rattle.base64.specs.declared.decode.DecodeError.{DecodeError}
use Rattle.base64.specs.GeneralPurpose.{encode_of, decode_of, decoded_of}
use Rattle.base64.specs.Engines.{standard}
use Rattle.base64.proofs.EngineFacts.{decode_of_strict}
use Rattle.memcached_meta.specs.Flags.{argument_of}
use Rattle.memcached_text.specs.Line.{is_short}
use Rattle.memcached_commands.specs.Keys.{or_nothing, spelled}
use Rattle.memcached_meta.specs.Replies.{said_text, meta_text}
use Rattle.memcached_meta.specs.Laws.{AskAsClassic, IsNeverHidden, IsOneSpelling}

pub as_classic : AskAsClassic
unfolding argument_of
as_classic = record { store = λ value. refl; delete = refl; count = refl }

pub never_hidden : IsNeverHidden
unfolding meta_text said_text
never_hidden = record {
  refusal = λ m fault. refl;
  no_room = λ m. refl;
  no_count = λ m. refl;
  exists = λ m. refl;
  not_found = λ m. refl;
  not_stored = λ m. refl;
}

-- what a word of base64 decodes to, where it spells a key
decodes : (word : List ℕ) → 0 < length (spelled true word) → decode_of standard word ≡ Ok (spelled true word)
unfolding decoded_of
decodes word some = go (is_short word) refl (decode_of standard word) refl some
  where
    go : (t : Bool) → is_short word ≡ t → (r : Result (List ℕ) DecodeError) → decode_of standard word ≡ r
        → 0 < length (spelled true word) → decode_of standard word ≡ Ok (spelled true word)
    go true short (Ok bytes) same is = same ∙ ap Ok (sym (rw (short, same) refl))
    go true short (Err e) same is = let none : spelled true word ≡ [] = rw (short, same) refl in let few = ap length none in absurd (omega (arith, few, is))
    go false long r same is = let none : spelled true word ≡ [] = rw long refl in let few = ap length none in absurd (omega (arith, few, is))

pub one_spelling : IsOneSpelling
one_spelling a b bytes_a bytes_b some same =
    let left = decode_of_strict standard a (spelled true a) (refl, refl) bytes_a (decodes a some) in
    let right = decode_of_strict standard b (spelled true b) (refl, refl) bytes_b (decodes b (subst (λ key. 0 < length key) same some)) in
    left ∙ ap (encode_of standard) same ∙ sym right
