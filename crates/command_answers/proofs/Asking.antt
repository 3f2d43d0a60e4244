-- Asks that are answered one after another.
use Rattle.std.proofs.Common.{◌≡◌, ◌==◌, ◌+◌, ◌<◌, ℕ, Bool, List, [], ◌∷◌, ◌++◌, length, drop, refl, sym, ap, ◌∙◌, subst, append_assoc, length-append}
use Rattle.std.proofs.lemmas.List.Elements.{filter_map-append}
use Rattle.partition_model.specs.declared.options.Options.{Options}
use Rattle.memcached_commands.specs.declared.asks.Asked.{Asked}
use Rattle.fronts.specs.Answered.{Answered, step_in, steps_of, count_of_writes}
use Rattle.fronts.specs.Session.{Sessions}
use Rattle.fronts.proofs.InOrder.{answers_append}
use Rattle.command_answers.specs.AskAnswers.{AnswersAsks, said_of, spoiled, asks_behind, asks_by, asks_text}
use Rattle.memcached_requests.specs.declared.request.Style.{Style}
use Rattle.memcached_requests.specs.Replies.{said_text}
use Rattle.command_answers.specs.Going.{AnswersAt, AnswersFirst}
use Rattle.command_answers.specs.Seconds.{IsAt}
use Rattle.command_answers.proofs.AskLaws.{all_append, is_at, is_less, more_by, one_by, more_text, one_text}

pub none_yet : (options : Options) (is_alone : Bool) (base second : ℕ) (style : Style) (asks : List Asked) (old : Sessions)
    → AnswersFirst options is_alone base second style asks old old []
none_yet options is_alone base second style asks old = record { in_order = λ q. refl; seconds = tt; to_asks = tt }

module _ {options : Options} {is_alone : Bool} {base second : ℕ} {style : Style} {old new : Sessions} where
  pub one_first : {asked : Asked} (left : List Asked) (a : Answered) → AnswersAt options is_alone base second old asked new a
      → AnswersFirst options is_alone base second style (asked ∷ left) old new (a ∷ [])
  one_first {asked} left a at = record {
    in_order = (new, at.one, λ q. refl);
    seconds = (is_at options a second at.at, tt);
    to_asks = one_by base style asked left a at.to_ask;
  }

module _ {options : Options} {is_alone : Bool} {base second : ℕ} {style : Style} {old between new : Sessions} where
  -- the last, and that what is stored of its key goes
  pub two_first : {asked : Asked} (a gone : Answered) → AnswersAt options is_alone base second old asked between a
      → AnswersAt options is_alone base second between (spoiled asked) new gone → asks_behind style asked a ≡ spoiled asked ∷ []
      → AnswersFirst options is_alone base second style (asked ∷ []) old new (a ∷ gone ∷ [])
  two_first a gone at then behind = record {
    in_order = (between, at.one, (new, then.one, λ q. refl));
    seconds = (is_at options a second at.at, (is_at options gone second then.at, tt));
    to_asks = (at.to_ask, subst (λ l. AnswersAsks base l (gone ∷ [])) (sym behind) (then.to_ask, tt));
  }

  pub more_first : {asks : List Asked} {one : List Answered} (left : List Asked) (two : List Answered) → AnswersFirst options is_alone base second style asks old between one
      → drop (length one) asks ≡ left → 0 < length left → AnswersFirst options is_alone base second style left between new two
      → AnswersFirst options is_alone base second style asks old new (one ++ two)
  more_first {asks} {one} left two first here some then = record {
    in_order = answers_append options is_alone one two old between new first.in_order then.in_order;
    seconds = all_append (IsAt options second) one two first.seconds then.seconds;
    to_asks = more_by base style asks one two (is_less asks left (length one) (sym here) some) first.to_asks
        (subst (λ l. AnswersAsks base (asks_by style l two) two) (sym here) then.to_asks);
  }

-- and the text that is due to one more
pub text_more : (base : ℕ) (style : Style) (asks left : List Asked) (answers : List Answered) (asked : Asked) (a : Answered) (later : List Answered) (before here after : List ℕ)
    → drop (length answers) asks ≡ asked ∷ left → here ≡ before ++ asks_text base style asks answers → asks_text base style left later ≡ []
    → after ≡ here ++ said_text style (length left == 0) asked.key (said_of base asked a)
    → after ≡ before ++ asks_text base style asks (answers ++ a ∷ later)
text_more base style asks left answers asked a later before here after left_is first none then =
    let so_far = asks_text base style asks answers in
    let one = said_text style (length left == 0) asked.key (said_of base asked a) in
    then ∙ ap (λ text. text ++ one) first ∙ append_assoc before so_far one ∙ ap (λ text. before ++ text)
    (ap (λ text. so_far ++ text) (one_text base style asked left a later none ∙ ap (λ l. asks_text base style l (a ∷ later)) (sym left_is)) ∙ sym (more_text base style asks answers (a ∷ later)))

-- how many writes are among more answers
pub writes_more : (one two : List Answered) → count_of_writes (one ++ two) ≡ count_of_writes one + count_of_writes two
writes_more one two = ap length (filter_map-append step_in one two) ∙ length-append (steps_of one) (steps_of two)
