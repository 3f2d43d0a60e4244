use Rattle.std.proofs.Common.{◌≡◌, ℕ, List, [], ◌∷◌, ◌++◌, length, refl, sym, ap, subst, ◌∙◌, arith}
use Rattle.std.specs.Prelude.{codes, drop, flat_map}
use Rattle.memcached_text.specs.Forms.{line_of, ends_as_http}
use Rattle.memcached_text.specs.KeyLine.{get_line}
use Rattle.memcached_text.specs.Lines.{words_of}
use Rattle.memcached_text.specs.Next.{says_at, next_in, is_get, most_line, next_of as next_line}
use Rattle.memcached_meta.specs.Next.{next_meta}
use Rattle.memcached_requests.specs.Next.{next_of}
use Rattle.memcached_requests.specs.Replies.{said_text}
use Rattle.memcached_requests.specs.Requests.{len_of}
use Rattle.memcached_commands.specs.declared.ask.Ask.TheVariants.{Get}
use Rattle.memcached_commands.specs.declared.ask.Says.TheVariants.{Nothing}
use Rattle.memcached_commands.specs.Asks.{asked}
use Rattle.memcached_page.specs.Course.{Deed, carried}
use Rattle.memcached_page.specs.Exchange.{Exchange, due_to}
use Rattle.memcached_page.specs.Talk.{ReadAs, StandsFirst, due_in_all}
use Rattle.memcached_page.proofs.examples.own_reply.Goals as goal

abbrev gets : List ℕ
gets = codes "get n\r\n"

abbrev misses : Deed
misses = carried 100 1 (asked Get (codes "n")) Nothing

-- the first byte, if any
abbrev head : List ℕ → ℕ
head [] = 0
head (byte ∷ bytes) = byte

-- what is due to it is the end of a get
due_is : (e : Exchange) → next_of gets ≡ e.next → e.deeds ≡ misses ∷ [] → due_to 1 e ≡ codes "END\r\n"
unfolding next_of next_meta said_text next_line next_in most_line is_get says_at line_of words_of get_line ends_as_http
due_is e next deeds = rw (sym next, deeds) refl

-- nothing stands behind it
alone : (e : Exchange) → next_of gets ≡ e.next → drop (len_of e.next) gets ≡ []
unfolding next_of next_meta next_line next_in most_line is_get says_at line_of words_of get_line ends_as_http
alone e next = rw (sym next) refl

none_in_nothing : (e : Exchange) → StandsFirst [] e → ⊥
unfolding next_of next_meta next_line next_in most_line is_get
none_in_nothing e first = first.some (sym first.next)

append_nothing : {X : Type 0} (xs : List X) → xs ++ [] ≡ xs
append_nothing [] = refl
append_nothing (x ∷ xs) = ap (λ ys. x ∷ ys) (append_nothing xs)

never : (said : List Exchange) (rest unsent : List ℕ) → ReadAs 1 gets said rest → flat_map (λ e. e.deeds) said ≡ misses ∷ []
    → due_in_all 1 said ≡ codes "VALUE m 0 1\r\n7\r\nEND\r\n" ++ unsent → ⊥
never [] rest unsent reads done begins = let some : 0 ≡ 1 = ap length done in omega (arith, some)
never (e ∷ []) rest unsent reads done begins =
    let deeds : e.deeds ≡ misses ∷ [] = sym (append_nothing e.deeds) ∙ done in
    let due : codes "END\r\n" ≡ codes "VALUE m 0 1\r\n7\r\nEND\r\n" ++ unsent =
    sym (due_is e reads.0.next deeds) ∙ sym (append_nothing (due_to 1 e)) ∙ begins in
    let one : 69 ≡ 86 = ap head due in
    omega (arith, one)
never (e ∷ next ∷ later) rest unsent reads done begins =
    none_in_nothing next (subst (λ bytes. StandsFirst bytes next) (alone e reads.0.next) reads.2.0)

pub returns : goal.returns
returns c = λ talk. never talk.said talk.rest talk.unsent talk.reads talk.done talk.begins
