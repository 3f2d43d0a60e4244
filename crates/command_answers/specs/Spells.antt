-- Which exchanges a client's bytes are.
use Rattle.std.specs.Prelude.{◌≡◌, ◌≢◌, ⊤, ℕ, ◌+◌, ◌⊎◌, true, false, List, [], ◌∷◌, drop, flat_map}
use Rattle.partition_model.specs.declared.options.Options.{Options}
use Rattle.memcached_requests.specs.declared.request.Next.TheVariants.{More}
use Rattle.memcached_requests.specs.Next.{next_of}
use Rattle.memcached_requests.specs.Requests.{len_of, is_last}
use Rattle.fronts.specs.Answered.{Answered}
use Rattle.command_answers.specs.Exchange.{Exchange, AnswersNext, is_answered, due_to}

-- The bytes begin with what was said, and it was answered as far as it was.
pub record Begins (options : Options) (base : ℕ) (bytes : List ℕ) (e : Exchange) : Type 0 where
  pub next : next_of bytes ≡ e.next
  pub some : e.next ≢ More
  pub answers : AnswersNext options base e.next e.answers

-- nothing stands behind it; or it is answered, and does not end the connection
abbrev pub MayFollow : Options → Exchange → List Exchange → Type 0
MayFollow options e later = (later ≡ []) ⊎ (is_answered options e ≡ true) × (is_last e.next ≡ false)

-- The bytes spell these exchanges, one after another, each answered before the next, and these bytes are left.
abbrev pub Spells : Options → ℕ → List ℕ → List Exchange → List ℕ → Type 0
Spells options base bytes [] rest = rest ≡ bytes
Spells options base bytes (e ∷ later) rest =
    Begins options base bytes e × MayFollow options e later × Spells options base (drop (len_of e.next) bytes) later rest

-- how many bytes they take, of which some of the last may not have come
abbrev pub taken_by : List Exchange → ℕ
taken_by [] = 0
taken_by (e ∷ later) = len_of e.next + taken_by later

-- the last of them is answered, and does not end the connection: so something else may be read
abbrev pub MayGoOn : Options → List Exchange → Type 0
MayGoOn options [] = ⊤
MayGoOn options (e ∷ []) = (is_answered options e ≡ true) × (is_last e.next ≡ false)
MayGoOn options (e ∷ next ∷ later) = MayGoOn options (next ∷ later)

-- what is due to all
abbrev pub due_to_all : Options → ℕ → List Exchange → List ℕ
due_to_all options base exchanges = flat_map (due_to options base) exchanges

-- the answers to all, in order
abbrev pub answers_to_all : List Exchange → List Answered
answers_to_all exchanges = flat_map (λ e. e.answers) exchanges
