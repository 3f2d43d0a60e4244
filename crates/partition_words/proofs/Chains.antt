-- After each event each link is 0 or names a spare bucket, each chain ends, and no spare bucket is in two.
use Rattle.partition_words.proofs.Vocabulary.{Begins, Contains, Contains-append_cases, Contains-append_left, Ends, Event, HasChains, History, InChain}
use Rattle.partition_words.proofs.Vocabulary.{IsAllowed, IsBucket, IsFreeSpare, IsMain, IsSpare, Kept, List, MayPutLink, OwnerState, Phase, PutsEntry}
use Rattle.partition_words.proofs.Vocabulary.{PutsLink, [], after, arith, history_after, inl, inr, link_at, link_in, phase_after, place_of, refl, subst}
use Rattle.partition_words.proofs.Vocabulary.{sym, words_after, ℕ, ◌++◌, ◌∙◌, ◌∷◌, ◌≡◌, ◌≢◌, ◌⊎◌}
use Rattle.partition_words.proofs.EventWords.{other, link_puts, link_puts_other}
use Rattle.partition_words.proofs.Marked.{its_inside, ends_main}
use Rattle.partition_words.proofs.Failing.{in_cons, in_none}
use Rattle.partition_words.proofs.Behind.{AreBehind, listed_or_not, parted, same_behind, relinked}
use Rattle.partition_words.proofs.Walks.{IsChain, has_bucket, in_chain, chain_ends, inside, chain_of, chain_there}

module _ (o : OwnerState) (words : List ℕ) (history : History) (phase : Phase) (s : HasChains o) where
  abbrev p : OwnerState
  p = record o { words = words; history = history; phase = phase }

  -- Behind each main bucket stands now what stood there before, and what the chain of the bucket a gained, which was free.
  pub chains_by : (a : ℕ) → ((c : ℕ) → IsBucket o.shape c → (link_in p c ≡ 0) ⊎ IsSpare o.shape (link_in p c))
      → ((b : ℕ) → IsMain o.shape b → (cs : List ℕ) × AreBehind (link_in p) b cs
      × ((c : ℕ) → Contains (b ∷ cs) c → InChain o b c ⊎ InChain o b a × IsFreeSpare o c))
      → HasChains p
  chains_by a links now = record {
    links = links;
    end = λ b main. chain_ends p b (now b main).0 (chain b main);
    apart = λ b b' c main main' n h h'.
        let one = (now b main).2 c (has_bucket p b _ (chain b main) c h) in
        let other = (now b' main').2 c (has_bucket p b' _ (chain b' main') c h') in
        let free = λ (d : ℕ) (m : IsMain o.shape d) (f : IsFreeSpare o c). f.free d m in
        grind (arith, s.apart b b' c main main' n, s.apart b b' a main main' n, free b main, free b' main');
  }
    where
      chain : (b : ℕ) (main : IsMain o.shape b) → IsChain p b (now b main).0
      chain b main = chain_of p links b (now b main).0 main (now b main).1

  -- where no link of a bucket changed
  pub chains_stay : ((c : ℕ) → IsBucket o.shape c → link_in p c ≡ link_in o c) → HasChains p
  chains_stay same = chains_by 0
      (λ c l. subst (λ (z : ℕ). (z ≡ 0) ⊎ IsSpare o.shape z) (sym (same c l)) (s.links c l))
      (λ b main. let chain = chain_there o s b main in (
        chain.0,
        same_behind (link_in o) (link_in p) b chain.0 (λ d i. same d (inside o b chain.0 chain.1 main d i)) chain.1.behind,
        λ c i. inl (in_chain o b chain.0 chain.1 c i),
      ))

module _ (o : OwnerState) (s : Kept o) where
  -- a link is put

  module _ (c next : ℕ) (a : MayPutLink o c next) where
    abbrev q : OwnerState
    q = after (PutsLink c next) o

    link_here : link_in q c ≡ next
    link_here = link_puts o s.wide c next (its_inside o s o.phase refl c a.its_bucket)

    link_else : (d : ℕ) → d ≢ c → link_in q d ≡ link_in o d
    link_else = link_puts_other o s.wide c next

    -- what stands behind the bucket now, where it is in a chain
    gained : (b : ℕ) → IsMain o.shape b → InChain o b c → (rest : List ℕ) × AreBehind (link_in q) c rest × ((d : ℕ) → Contains rest d → IsFreeSpare o d)
    gained b main own = elim a.free [
      | inl none ↦ ([], link_here ∙ none, λ d i. absurd (in_none d i))
      | inr free ↦ (
        next ∷ [],
        (link_here, λ none. omega (arith, free.0.spare.0), link_else next (λ is. free.0.free b main (rw is own)) ∙ free.1),
        λ d i. elim (in_cons next d [] i) [ inl is ↦ subst (IsFreeSpare o) is free.0 | inr more ↦ absurd (in_none d more) ],
      )
    ]

    link_chains : HasChains q
    link_chains = chains_by o q.words o.history o.phase s.chains c
        (λ d l. grind (arith, link_here, link_else d, s.chains.links d l, a.free, (λ (f : IsFreeSpare o next). f.spare)))
        now
      where
        now : (b : ℕ) → IsMain o.shape b → (cs : List ℕ) × AreBehind (link_in q) b cs × ((d : ℕ) → Contains (b ∷ cs) d → InChain o b d ⊎ InChain o b c × IsFreeSpare o d)
        now b main =
            let chain = chain_there o s.chains b main in
            let within = in_chain o b chain.0 chain.1 in
            elim (listed_or_not (b ∷ chain.0) c) [
              | inr not ↦ (
                chain.0,
                same_behind (link_in o) (link_in q) b chain.0 (λ d i. link_else d (λ is. not (subst (Contains (b ∷ chain.0)) is i))) chain.1.behind,
                λ d i. inl (within d i),
              )
              | inl own ↦
                  let to = gained b main (within c own) in
                  let at = parted b chain.0 c own in (
                    at.0 ++ to.0,
                    relinked (link_in o) (link_in q) c link_else to.0 to.1 b at.0 at.1 at.3 (subst (AreBehind (link_in o) b) at.2 chain.1.behind),
                    λ d i. elim (Contains-append_cases (b ∷ at.0) to.0 d i) [
                      | inl old ↦ inl (within d (subst (λ (z : List ℕ). Contains (b ∷ z) d) (sym at.2) (Contains-append_left (b ∷ at.0) at.1 d old)))
                      | inr new ↦ inr (within c own, to.2 d new)
                    ],
                  )
            ]

  stay : (e : Event) → ((c : ℕ) → IsBucket o.shape c → link_at o.shape c ≢ place_of o.shape e) → HasChains (after e o)
  stay e none =
      chains_stay o (words_after e o) (history_after e o.history) (phase_after e o) s.chains (λ c l. other o e (link_at o.shape c) (none c l))

  pub chains_after : (e : Event) → IsAllowed e o → HasChains (after e o)
  chains_after (PutsLink c next) a = link_chains c next a
  chains_after (Begins b) a = let main = a.main in stay (Begins b) (λ c l is. omega arith)
  chains_after (PutsEntry d slot x) a = let low = a.in_bucket in stay (PutsEntry d slot x) (λ c l is. omega arith)
  chains_after (Ends b) a = let main = ends_main o s o.phase refl b a.marked in stay (Ends b) (λ c l is. omega arith)
  chains_after e a = stay e (λ c l is. omega arith)
