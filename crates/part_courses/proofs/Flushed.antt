-- What a flush of a store's part, and a sweep of an item that is over, do to its shelf.
use Rattle.std.proofs.Common.{◌≡◌, ◌≤◌, ◌+◌, ◌&&◌, ℕ, suc, Bool, true, false, cond, List, [], ◌∷◌, ◌++◌, length, Option, Some, None, option_map, refl, sym, ap, subst, ◌∙◌, append-nil, arith}
use Rattle.std.specs.Prelude.{IfSome}
use Rattle.std.specs.List.{cons_option}
use Rattle.std.proofs.lemmas.Bool.{true≢false}
use Rattle.mica_words.specs.Mark.{is_mark, has_marks}
use Rattle.partition_model.specs.declared.options.Options.{Options}
use Rattle.partition_model.specs.declared.write.Op.TheVariants.{Del}
use Rattle.partition_model.specs.Write.{write_of, is_accepted}
use Rattle.partition_model.specs.History.{History, MayGive, answer_of}
use Rattle.partition_model.specs.Run.{RunStep, history_of}
use Rattle.memcached_text.specs.Item.{item_in}
use Rattle.memcached_commands.specs.Moments.{is_there}
use Rattle.fronts.specs.declared.flushes.Flush.{Flush}
use Rattle.fronts.specs.Flushes.{is_flush, is_in_first, is_delete, marks, flush_in, flushes_then, flushes_in}
use Rattle.fronts.specs.Looks.{Look, IsLookAt}
use Rattle.fronts.proofs.FlushLaws.{flushes_push}
use Rattle.memcached_decisions.specs.Over.{is_over}
use Rattle.memcached_decisions.specs.Numbered.{numbered, moment_at}
use Rattle.memcached_page.specs.Shelf.{Shelf, at, there, with_item}
use Rattle.memcached_page.specs.Course.{flushed, went}
use Rattle.part_courses.proofs.Values.{del_is, flushed_none}
use Rattle.part_courses.proofs.Written.{there_alike, no_mark_flushes, own_key, other_key, mark_of, first_of, deletes_of, numbered_flush, over_parts}
use Rattle.part_courses.proofs.Shelves.{IsStored, in_numbers, Stands, moment_same}
use Rattle.part_courses.proofs.Steps.{Begun, One, stands_next, same_flushes}

module _ {options : Options} {base : ℕ} {h : History} {shelf : Shelf} (g : Begun options base h shelf) where
  abbrev n : ℕ
  n = length h

  -- A flush

  pub flush_one : (part : ℕ) (step : RunStep) (flush : Flush) → MayGive options h step.write step.outcome → is_flush options.hashing options.buckets step.write ≡ true → flush_in step.write.key ≡ flush
      → One options base shelf (h ++ history_of (step ∷ [])) (flushed part (numbered base (n + 1)) flush (is_accepted step.outcome) ∷ [])
  flush_one part step flush may is_it flush_is = by (is_accepted step.outcome) refl
    where
      number : ℕ
      number = numbered base (n + 1)

      least : shelf.free ≤ number
      least = let most = g.stands.free in omega (arith, most)

      mark : is_mark step.write.key ≡ true
      mark = first_of (is_mark step.write.key) (has_marks options.hashing) (mark_of (is_in_first options.hashing options.buckets step.write) (is_delete step.write.op) (marks options.hashing step.write.key) is_it)

      none_stored : (o : Option (List ℕ)) → IfSome o (IsStored step.write.key) → o ≡ None
      none_stored None is = refl
      none_stored (Some stored) is = absurd (true≢false (sym mark ∙ is.spelled))

      before : answer_of options h step.write.key ≡ None
      before = none_stored (answer_of options h step.write.key) (g.stands.stored step.write.key)

      value : answer_of options (h ++ step.write ∷ []) step.write.key ≡ None
      value = flushed_none options g.is_store h step.write (deletes_of (is_in_first options.hashing options.buckets step.write) step.write.op (marks options.hashing step.write.key) is_it)

      flushes_are : in_numbers base (flushes_in options.hashing options.buckets (h ++ step.write ∷ [])) ≡ flushes_then number flush shelf.flushes
      flushes_are =
          ap (in_numbers base) (flushes_push options.hashing options.buckets h step.write ∙ ap (λ b. cond b (flushes_then (suc n) (flush_in step.write.key) (flushes_in options.hashing options.buckets h)) (flushes_in options.hashing options.buckets h)) is_it ∙ ap (λ f. flushes_then (suc n) f (flushes_in options.hashing options.buckets h)) flush_is)
          ∙ numbered_flush base n flush (flushes_in options.hashing options.buckets h)
          ∙ ap (λ m. flushes_then (numbered base m) flush (in_numbers base (flushes_in options.hashing options.buckets h))) (omega arith)
          ∙ ap (flushes_then number flush) (sym g.stands.flushes)

      by : (on : Bool) → is_accepted step.outcome ≡ on → One options base shelf (h ++ cons_option (cond on (Some step.write) None) []) (flushed part number flush on ∷ [])
      by false off = record { steps = (least, tt); stands_then = subst (λ z. Stands options base z shelf) (sym (append-nil h)) g.stands }
      by true on = record {
        steps = (least, tt);
        stands_then = stands_next g step.write step.outcome (record shelf { flushes = flushes_then number flush shelf.flushes; free = number }) (record {
          may = may;
          on = on;
          own = g.stands.items step.write.key ∙ ap (option_map item_in) (before ∙ sym value);
          others = λ k differ. refl;
          stored = subst (λ o. IfSome o (IsStored step.write.key)) (sym value) tt;
          free = omega arith;
          flushes = sym flushes_are;
        });
      }

  -- A sweep of an item that is over

  pub swept_one : (step : RunStep) (look : Look) (stored : List ℕ) → MayGive options h step.write step.outcome → IsLookAt options h step.write.key look → step.write ≡ write_of Del step.write.key []
      → look.value ≡ Some stored → is_over base look.when stored ≡ true → One options base shelf (h ++ history_of (step ∷ [])) (cond (is_accepted step.outcome) (went look.when.second step.write.key ∷ []) [])
  swept_one step look stored may looked deletes value over = by (is_accepted step.outcome) refl
    where
      key : List ℕ
      key = step.write.key

      had : answer_of options h key ≡ Some stored
      had = sym looked.value ∙ value

      kept_so : IsStored key stored
      kept_so = subst (λ o. IfSome o (IsStored key)) had (g.stands.stored key)

      not_there : is_there (moment_at base look.when) (item_in stored) ≡ false
      not_there = over_parts (is_there (moment_at base look.when) (item_in stored)) _ _ over

      same : at look.when.second (numbered base n) shelf ≡ moment_at base look.when
      same = moment_same options base h shelf.flushes look.when.second g.stands.flushes shelf refl ∙ ap (moment_at base) (sym looked.when)

      none : there (at look.when.second shelf.free shelf) (shelf.items key) ≡ None
      none =
          there_alike look.when.second shelf.free (numbered base n) shelf (shelf.items key)
          ∙ ap (λ m. there m (shelf.items key)) same
          ∙ ap (there (moment_at base look.when)) (g.stands.items key ∙ ap (option_map item_in) had)
          ∙ ap (λ b. cond b (Some (item_in stored)) None) not_there

      gone : answer_of options (h ++ step.write ∷ []) key ≡ None
      gone = subst (λ w. answer_of options (h ++ w ∷ []) key ≡ None) (sym deletes) (del_is options g.is_store h key)

      off_flush : is_flush options.hashing options.buckets step.write ≡ false
      off_flush = ap (λ mark. is_in_first options.hashing options.buckets step.write && is_delete step.write.op && (mark && has_marks options.hashing)) kept_so.spelled ∙ no_mark_flushes (is_in_first options.hashing options.buckets step.write) (is_delete step.write.op)

      by : (on : Bool) → is_accepted step.outcome ≡ on → One options base shelf (h ++ cons_option (cond on (Some step.write) None) []) (cond on (went look.when.second key ∷ []) [])
      by false off = record { steps = tt; stands_then = subst (λ z. Stands options base z shelf) (sym (append-nil h)) g.stands }
      by true on = record {
        steps = (none, tt);
        stands_then = stands_next g step.write step.outcome (with_item key None shelf) (record {
          may = may;
          on = on;
          own = own_key key None (shelf.items key) ∙ sym (ap (option_map item_in) gone);
          others = λ k differ. other_key k key None (shelf.items k) differ;
          stored = subst (λ o. IfSome o (IsStored key)) (sym gone) tt;
          free = let most = g.stands.free in omega (arith, most);
          flushes = g.stands.flushes ∙ same_flushes g step.write off_flush;
        });
      }
