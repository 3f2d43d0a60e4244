-- What a client's bytes spell, with more bytes and with more answers.
use Rattle.std.proofs.Common.{◌≡◌, ◌==◌, inl, inr, ℕ, Bool, true, false, ltb, cond, List, [], ◌∷◌, ◌++◌, length, drop, refl, sym, ap, ◌∙◌, subst, arith}
use Rattle.std.proofs.Math.Dec.{eqb-zero-suc}
use Rattle.std.proofs.lemmas.Bool.{ltb-true, ltb-false}
use Rattle.std.proofs.lemmas.Grind.{flat_map-append}
use Rattle.std.proofs.lemmas.List.{append-nil, drop-append-le, drop-drop, drop_all}
use Rattle.partition_model.specs.declared.options.Options.{Options}
use Rattle.memcached_requests.specs.declared.request.Next.{Next}
use Rattle.memcached_requests.specs.Requests.{asks_in, is_last, len_of}
use Rattle.memcached_requests.proofs.NextLaws.{next_stays, nothing}
use Rattle.memcached_commands.specs.declared.asks.Asked.{Asked}
use Rattle.memcached_stats.specs.Stats.{Told}
use Rattle.command_answers.specs.Exchange.{Exchange, is_flush_all, is_answered, style_of, keyed_text, flush_text, due_to, due_before}
use Rattle.command_answers.proofs.AskLaws.{none_flushed_yet}
use Rattle.command_answers.specs.Spells.{Begins, MayFollow, Spells, taken_by, MayGoOn, due_to_all, answers_to_all}

module _ (options : Options) (base : ℕ) where
  -- More bytes

  none_spelled : (es : List Exchange) (rest : List ℕ) → Spells options base [] es rest → es ≡ []
  none_spelled [] rest is = refl
  none_spelled (e ∷ es) rest is = absurd (is.0.some (sym is.0.next ∙ nothing))

  -- With more bytes the same is spelled, and what is left is what stands behind it.
  pub spells_more : (bytes more : List ℕ) (es : List Exchange) (rest : List ℕ) → Spells options base bytes es rest
      → Spells options base (bytes ++ more) es (drop (taken_by es) (bytes ++ more))
  spells_more bytes more [] rest is = refl
  spells_more bytes more (e ∷ es) rest is =
      (begins, is.1, later (spells_more (drop (len_of e.next) bytes) more es rest is.2) (ltb (length bytes) len) refl)
    where
      len : ℕ
      len = len_of e.next

      begins : Begins options base (bytes ++ more) e
      begins = record {
        next = next_stays bytes more (λ waits. is.0.some (sym is.0.next ∙ waits)) ∙ is.0.next;
        some = is.0.some;
        answers = is.0.answers;
      }

      left : drop (taken_by es) (drop len (bytes ++ more)) ≡ drop (taken_by (e ∷ es)) (bytes ++ more)
      left = drop-drop (taken_by es) len (bytes ++ more)

      later : Spells options base (drop len bytes ++ more) es (drop (taken_by es) (drop len bytes ++ more)) → (t : Bool) → ltb (length bytes) len ≡ t → Spells options base (drop len (bytes ++ more)) es (drop (taken_by (e ∷ es)) (bytes ++ more))
      later there false come =
          subst (Spells options base (drop len (bytes ++ more)) es) left
          (subst (λ b. Spells options base b es (drop (taken_by es) b)) (sym (drop-append-le len bytes more (ltb-false _ _ come))) there)
      later there true come =
          let beyond = ltb-true _ _ come in
          let none : es ≡ [] = none_spelled es rest (subst (λ b. Spells options base b es rest) (drop_all len bytes (omega (arith, beyond))) is.2) in
          subst (Spells options base (drop len (bytes ++ more)) es) left
          (subst (λ l. Spells options base (drop len (bytes ++ more)) l (drop (taken_by l) (drop len (bytes ++ more)))) (sym none) refl)

  -- what is left is what stands behind the bytes that are taken
  pub rest_is : (bytes : List ℕ) (es : List Exchange) (rest : List ℕ) → Spells options base bytes es rest → rest ≡ drop (taken_by es) bytes
  rest_is bytes [] rest is = is
  rest_is bytes (e ∷ es) rest is = rest_is (drop (len_of e.next) bytes) es rest is.2 ∙ drop-drop (taken_by es) (len_of e.next) bytes

  -- More exchanges and answers

  -- what is left begins with something, which may have been answered
  pub spells_next : (bytes : List ℕ) (es : List Exchange) (rest : List ℕ) (e : Exchange) → Spells options base bytes es rest → MayGoOn options es
      → Begins options base rest e → Spells options base bytes (es ++ e ∷ []) (drop (len_of e.next) rest)
  spells_next bytes [] rest e is may begins = (subst (λ b. Begins options base b e) is begins, inl refl, ap (drop (len_of e.next)) is)
  spells_next bytes (x ∷ []) rest e is may begins = (is.0, inr may, spells_next (drop (len_of x.next) bytes) [] rest e is.2 tt begins)
  spells_next bytes (x ∷ y ∷ es) rest e is may begins = (
    is.0,
    elim is.1 as (λ _. MayFollow options x (y ∷ es ++ e ∷ [])) [ inl none ↦ absurd (cc) | inr follows ↦ inr follows ],
    spells_next (drop (len_of x.next) bytes) (y ∷ es) rest e is.2 may begins,
  )

  -- something may follow all but a last one that is not answered, or that ends the connection
  pub may_go_on : (es : List Exchange) (e : Exchange) → is_answered options e ≡ true → is_last e.next ≡ false → MayGoOn options (es ++ e ∷ [])
  may_go_on [] e answered goes = (answered, goes)
  may_go_on (x ∷ []) e answered goes = (answered, goes)
  may_go_on (x ∷ y ∷ es) e answered goes = may_go_on (y ∷ es) e answered goes

  -- Texts

  pub due_then : (es : List Exchange) (e : Exchange) → due_to_all options base (es ++ e ∷ []) ≡ due_to_all options base es ++ due_to options base e
  due_then es e = flat_map-append (due_to options base) es (e ∷ []) ∙ ap (λ text. due_to_all options base es ++ text) (append-nil (due_to options base e))

  pub answers_then : (es : List Exchange) (e : Exchange) → answers_to_all (es ++ e ∷ []) ≡ answers_to_all es ++ e.answers
  answers_then es e = flat_map-append (λ (x : Exchange). x.answers) es (e ∷ []) ∙ ap (λ given. answers_to_all es ++ given) (append-nil e.answers)

  -- nothing was due before anything was answered
  pub nothing_before : (next : Next) (told : Told) → due_before options base (record { next = next; answers = []; told = told }) ≡ []
  nothing_before next told = go (is_flush_all next) (asks_in next)
    where
      go : (flushes : Bool) (asks : List Asked)
          → cond (0 == cond flushes options.partitions (length asks)) []
          (cond flushes (flush_text (style_of next) (0 == options.partitions) []) (keyed_text options.partitions base told next asks [])) ≡ []
      go true asks = none_flushed_yet next (0 == options.partitions)
      go false [] = refl
      go false (asked ∷ asks) = ap (λ t. cond t [] []) (eqb-zero-suc (length asks))

  -- what is not answered had due what it has
  pub due_still : (e : Exchange) → is_answered options e ≡ false → due_before options base e ≡ due_to options base e
  due_still e going = ap (λ t. cond t [] (due_to options base e)) going
