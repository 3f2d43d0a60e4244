-- One line more of a round that is shared out.
use Rattle.std.proofs.Common.{◌≡◌, ℕ, zero, suc, ◌+◌, ◌<◌, ◌≤◌, ◌%◌, ◌==◌, inl, inr, List, [], ◌∷◌, ◌++◌, length, take, get_or, slice_get, slice_set, Option, Some, None, refl, sym, ap, ◌∙◌, subst, arith, cond, false, eq-eqb, ne_eqb, append-nil, All, IsSomeAnd}
use Rattle.std.specs.Prelude.{option_map, is_some}
use Rattle.std.specs.List.{cons_option}
use Rattle.std.proofs.lemmas.List.{length-set, map_push, get_or-map}
use Rattle.std.proofs.lemmas.List.Elements.{filter_map-append, All-nil, All-push, All-same}
use Rattle.std.proofs.lemmas.List.Sums.{sum_by-append}
use Rattle.list_laws.proofs.Places.{set_cases}
use Rattle.partition_model.specs.declared.options.Options.{Options}
use Rattle.partition_model.specs.declared.write.Write.{Write}
use Rattle.mica_trace.specs.declared.line.TraceOp.{TraceOp}
use Rattle.mica_trace.specs.declared.line.TraceOp.TheVariants.{Put, Add, Del, Touch, Get, Sync}
use Rattle.partition_model.specs.declared.write.Op.{Op}
use Rattle.partition_model.specs.declared.write.Op.TheVariants.{Put as PutOp, Add as AddOp, Touch as TouchOp, Del as DelOp}
use Rattle.partition_model.specs.Write.{write_of}
use Rattle.mica_trace.specs.declared.line.TraceLine.{TraceLine}
use Rattle.mica_trace.specs.Rounds.{partition_in, op_of, write_by, is_get_op}
use Rattle.mica_trace.specs.RoundReport.{is_get, gets_in, gets_of}
use Rattle.mica_replay.specs.Each.{Each}
use Rattle.mica_replay.specs.LineNumbers.{home_in, homes_of, write_at, lines_at, NamesGet, IsWriteOp}
use Rattle.mica_replay.specs.RoundRun.{ReaderPart}
use Rattle.mica_replay.specs.Shares.{KeepsReader, HasNoGets, HasGets}
use Rattle.mica_replay.proofs.MergedReport.{gets_by-push, itself, length_snoc}

pub sync_no_write : (op : TraceOp) (key value : List ℕ) → op ≡ Sync → write_by op key value ≡ None
sync_no_write op key value is = ap (λ o. write_by o key value) is

pub get_no_write : (op : TraceOp) (key value : List ℕ) → op ≡ Get → write_by op key value ≡ None
get_no_write op key value is = ap (λ o. write_by o key value) is

pub write_no_get : (op : TraceOp) (key value : List ℕ) (write : Write) → write_by op key value ≡ Some write → is_get_op op ≡ false
write_no_get Put key value write is = refl
write_no_get Add key value write is = refl
write_no_get Del key value write is = refl
write_no_get Touch key value write is = refl
write_no_get Get key value write is = absurd (cc)
write_no_get Sync key value write is = absurd (cc)

pub some_op : (op : TraceOp) → IsWriteOp op → (does : Op) × (op_of op ≡ Some does)
some_op op (inl is) = (PutOp, ap op_of is)
some_op op (inr (inl is)) = (AddOp, ap op_of is)
some_op op (inr (inr (inl is))) = (DelOp, ap op_of is)
some_op op (inr (inr (inr is))) = (TouchOp, ap op_of is)

pub op_is_write : (op : TraceOp) (key value : List ℕ) → IsWriteOp op → (write : Write) × (write_by op key value ≡ Some write)
op_is_write op key value is =
    let some = some_op op is in
    (write_of some.0 key value, ap (option_map (λ does. write_of does key value)) some.1)

pub no_home : (options : Options) (line : TraceLine) → write_at line ≡ None → 0 ≡ home_in options line
no_home options line none = sym (ap (λ o. cond (is_some o) (partition_in options line) 0) none)

pub own_home : (options : Options) (line : TraceLine) (write : Write) → write_at line ≡ Some write → home_in options line ≡ partition_in options line
own_home options line write is = ap (λ o. cond (is_some o) (partition_in options line) 0) is

pub home_push : (options : Options) (lines more : List TraceLine) (line : TraceLine) (homes news : List ℕ) (home : ℕ) → more ≡ lines ++ line ∷ [] → homes ≡ homes_of options lines → news ≡ homes ++ home ∷ []
    → home ≡ home_in options line → news ≡ homes_of options more
home_push options lines more line homes news home one so_far pushed is =
    pushed ∙ (λ i. so_far i ++ is i ∷ []) ∙ sym (ap (homes_of options) one ∙ map_push (home_in options) lines line)

-- the home of a line that is a write
pub home_at : (options : Options) (lines : List TraceLine) (homes : List ℕ) (k : ℕ) (line : TraceLine) (write : Write) → homes ≡ homes_of options lines → k < length lines → line ≡ get_or lines k line
    → write_at line ≡ Some write → get_or homes k 0 ≡ partition_in options line
home_at options lines homes k line write homes_are less line_is is_write =
    ap (λ (hs : List ℕ). get_or hs k 0) homes_are ∙ get_or-map (home_in options) lines k line 0 less ∙ ap (home_in options) (sym line_is) ∙ own_home options line write is_write

module _ (options : Options) (trace : List TraceLine) (lines : List TraceLine) (line : TraceLine) where
  asked_push : (q g : ℕ) → gets_of options q g (lines ++ line ∷ []) ≡ gets_of options q g lines ++ gets_of options q (g + gets_in lines) (line ∷ [])
  asked_push q g = gets_by-push (λ (l : TraceLine). l) options q g lines line ∙ ap (λ ls. gets_of options q g lines ++ gets_of options q (g + gets_in ls) (line ∷ [])) (itself lines)

  pub gets_push : gets_in (lines ++ line ∷ []) ≡ gets_in lines + cond (is_get line) 1 0
  gets_push = sum_by-append (λ l. cond (is_get l) 1 0) lines (line ∷ []) ∙ (let none : 0 + cond (is_get line) 1 0 ≡ cond (is_get line) 1 0 = omega arith in ap (λ n. gets_in lines + n) none)

  gets_kept : (q g : ℕ) (old new : ReaderPart) → gets_of options q (g + gets_in lines) (line ∷ []) ≡ [] → HasGets options trace g lines q old new → HasGets options trace g (lines ++ line ∷ []) q old new
  gets_kept q g old new none so_far = record {
    keeps = so_far.keeps;
    gets = so_far.gets ∙ sym (asked_push q g ∙ ap (λ l. gets_of options q g lines ++ l) none ∙ append-nil (gets_of options q g lines));
    named = so_far.named;
    few = let more = length_snoc lines line in let few = so_far.few in omega arith;
  }

  pub gets_skip : (g : ℕ) (olds mids : List ReaderPart) → is_get line ≡ false → Each (HasGets options trace g lines) olds mids → Each (HasGets options trace g (lines ++ line ∷ [])) olds mids
  gets_skip g olds mids none so_far = record {
    many = so_far.many;
    each = λ q old new is_old is_new. gets_kept q g old new (ap (λ b. cond b (cond ((g + gets_in lines) % options.readers == q) (line ∷ []) []) []) none) (so_far.each q old new is_old is_new);
  }

  pub gets_give : (g : ℕ) (olds mids : List ReaderPart) (number q : ℕ) (mid new : ReaderPart) → Each (HasGets options trace g lines) olds mids → line.op ≡ Get → q ≡ (g + gets_in lines) % options.readers
      → slice_get trace number ≡ Some line → slice_get mids q ≡ Some mid → KeepsReader mid new → new.gets ≡ mid.gets ++ number ∷ [] → Each (HasGets options trace g (lines ++ line ∷ [])) olds (slice_set mids q new)
  gets_give g olds mids number q mid new so_far get here is_line at keeps pushed = record {
    many = length-set mids q new ∙ so_far.many;
    each = λ i old t is_old is_new.
        elim (set_cases mids q new i t is_new) as (λ _. HasGets options trace g (lines ++ line ∷ []) i old t) [
          | inl same ↦
              let is_old_here : slice_get olds q ≡ Some old = subst (λ (n : ℕ). slice_get olds n ≡ Some old) (sym same.0) is_old in
              let was = so_far.each q old mid is_old_here at in
              let own = eq-eqb ((g + gets_in lines) % options.readers) q (sym here) in
              let one : gets_of options q (g + gets_in lines) (line ∷ []) ≡ line ∷ []
              = ap (λ b. cond b (cond ((g + gets_in lines) % options.readers == q) (line ∷ []) []) []) (ap is_get_op get) ∙ ap (λ b. cond b (line ∷ []) []) own in
              let names : NamesGet trace number = subst (λ (o : Option TraceLine). IsSomeAnd o (λ l. l.op ≡ Get)) (sym is_line) get in
              let found : lines_at trace (mid.gets ++ number ∷ []) ≡ lines_at trace mid.gets ++ line ∷ []
              = filter_map-append (slice_get trace) mid.gets (number ∷ []) ∙ ap (λ o. lines_at trace mid.gets ++ cons_option o []) is_line in
              subst (λ (x : ReaderPart). HasGets options trace g (lines ++ line ∷ []) i old x) same.1 (subst (λ (n : ℕ). HasGets options trace g (lines ++ line ∷ []) n old new) same.0 (record {
                keeps = record { seats = keeps.seats ∙ was.keeps.seats; tables = keeps.tables ∙ was.keeps.tables; worker = keeps.worker ∙ was.keeps.worker };
                gets = ap (lines_at trace) pushed ∙ found ∙ ap (λ ls. ls ++ line ∷ []) was.gets ∙ sym (asked_push q g ∙ ap (λ l. gets_of options q g lines ++ l) one);
                named = subst (All (NamesGet trace)) (sym pushed) (All-push (NamesGet trace) mid.gets number was.named names);
                few = let few = was.few in let a = ap length pushed in let b = length_snoc mid.gets number in let d = length_snoc lines line in omega arith;
              }))
          | inr other ↦
              let not_own : ((g + gets_in lines) % options.readers == i) ≡ false = ne_eqb ((g + gets_in lines) % options.readers) i (λ same. other.0 (here ∙ same)) in
              gets_kept i g old t (ap (λ b. cond b (cond ((g + gets_in lines) % options.readers == i) (line ∷ []) []) []) (ap is_get_op get) ∙ ap (λ b. cond b (line ∷ []) []) not_own) (so_far.each i old t is_old other.1)
        ];
  }

-- readers that have no gets have those of no lines
pub gets_none : (options : Options) (trace : List TraceLine) (g : ℕ) (olds news : List ReaderPart) → Each (λ (_ : ℕ). HasNoGets) olds news → Each (HasGets options trace g []) olds news
gets_none options trace g olds news clear = record {
  many = clear.many;
  each = λ q old new is_old is_new.
      let it = clear.each q old new is_old is_new in
      record {
        keeps = it.keeps;
        gets = ap (lines_at trace) it.none;
        named = All-same (NamesGet trace) new.gets [] it.none (All-nil (NamesGet trace));
        few = omega (arith, ap length it.none);
      };
}

pub take_most : {X : Type 0} (n : ℕ) (xs : List X) → length (take n xs) ≤ n
take_most zero xs = omega arith
take_most (suc n) [] = omega arith
take_most (suc n) (x ∷ xs) = let rest = take_most n xs in omega arith
