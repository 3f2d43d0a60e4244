-- The status of a write's reply is one of the version that has the write's operation.
use Rattle.std.proofs.Common.{◌≡◌, refl, sym, ◌∙◌, subst, cond, Bool, true, false, Some, List, ℕ, eqb}
use Rattle.std.specs.Prelude.{is_some, nat_le, nat_lt, ◌&&◌, IsTrue}
use Rattle.std.proofs.lemmas.Bool.{eqb-true}
use Rattle.std.proofs.Math.Bool.{and-true}
use Rattle.partition_model.specs.declared.options.Options.{Options}
use Rattle.partition_model.specs.declared.write.Op.{Op}
use Rattle.partition_model.specs.declared.write.Op.TheVariants.{Put as PutOp, Add as AddOp, Touch as TouchOp, Del as DelOp}
use Rattle.partition_model.specs.declared.write.Write.{Write}
use Rattle.partition_model.specs.declared.write.Outcome.{Outcome}
use Rattle.partition_model.specs.declared.write.Outcome.TheVariants.{Stored, Deleted, Absent, Touched, FullSpare, FullBlock, Worn, Exists}
use Rattle.partition_model.specs.Write.{write_of, size_of}
use Rattle.partition_model.specs.Cache as cache
use Rattle.partition_model.specs.CacheStep as cs
use Rattle.partition_model.specs.History.{History, State, cache_state, store_state, Allows, state_of}
use Rattle.batch_packets.specs.declared.batch.Want.{Want}
use Rattle.batch_packets.specs.declared.batch.Want.TheVariants.{Get, Put, Del, Add, Touch}
use Rattle.batch_packets.specs.BatchGrammar.{operation_of, is_operation}
use Rattle.batch_packets.specs.ReplyGrammar.{is_status, status_byte}
use Rattle.partition_model.specs.ReplyAt.{IsReplyAt}
use Rattle.datagram_answers.specs.Turn.{write_by, status_of}

-- an operation of both versions
abbrev pub IsCommonOp : Op → Type 0
IsCommonOp PutOp = Unit {0}
IsCommonOp AddOp = ⊥
IsCommonOp TouchOp = ⊥
IsCommonOp DelOp = Unit {0}

-- an outcome whose status both versions have
abbrev pub IsCommonStatus : Outcome → Type 0
IsCommonStatus outcome = IsTrue (nat_lt (status_byte (status_of outcome)) 8)

item_status : (fits : Bool) → IsCommonStatus (cond fits Stored FullBlock)
unfolding status_byte
item_status true = refl
item_status false = refl

cache_status : (op : Op) (options : Options) (write : Write) (worn found : Bool) → IsCommonOp op → IsCommonStatus (cond worn Worn (cs.reply_of op options write found))
unfolding status_byte
cache_status op options write true found is = refl
cache_status PutOp options write false found is = item_status (nat_le (size_of write) options.words)
cache_status AddOp options write false found is = absurd is
cache_status TouchOp options write false found is = absurd is
cache_status DelOp options write false true is = refl
cache_status DelOp options write false false is = refl

-- the machine answers such a write with a status of both versions
allowed_status : (options : Options) (now : State) (write : Write) (outcome : Outcome) → Allows options now write outcome → IsCommonOp write.op → IsCommonStatus outcome
unfolding cs.reply status_byte
allowed_status options (cache_state s) write outcome allowed is =
    subst IsCommonStatus (sym allowed) (cache_status write.op options write (cs.is_worn options s) (is_some (cache.record_of s write.key)) is)
allowed_status options (store_state s) write Stored allowed is = refl
allowed_status options (store_state s) write Deleted allowed is = refl
allowed_status options (store_state s) write Absent allowed is = refl
allowed_status options (store_state s) write Touched allowed is = absurd (subst IsCommonOp allowed.1.0 is)
allowed_status options (store_state s) write FullSpare allowed is = refl
allowed_status options (store_state s) write FullBlock allowed is = refl
allowed_status options (store_state s) write Worn allowed is = refl
allowed_status options (store_state s) write Exists allowed is = absurd (subst IsCommonOp allowed.1.0 is)

common_status : (accepted : Bool) (options : Options) (cut : History) (write : Write) (outcome : Outcome) → IsReplyAt accepted options cut write outcome
    → IsCommonOp write.op → IsCommonStatus outcome
common_status true options cut write outcome reply is = allowed_status options (state_of options reply.0) write outcome reply.2 is
common_status false options cut write outcome reply is = allowed_status options (state_of options cut) write outcome reply is

any_version : (version : ℕ) (outcome : Outcome) → IsCommonStatus outcome → IsTrue (is_status version (status_byte (status_of outcome)))
unfolding status_byte
any_version version Stored is = refl
any_version version Deleted is = refl
any_version version Absent is = refl
any_version version Touched is = absurd (cc)
any_version version FullSpare is = refl
any_version version FullBlock is = refl
any_version version Worn is = refl
any_version version Exists is = absurd (cc)

-- the second version has the status of each outcome
second_version : (outcome : Outcome) → IsTrue (is_status 2 (status_byte (status_of outcome)))
unfolding status_byte
second_version Stored = refl
second_version Deleted = refl
second_version Absent = refl
second_version Touched = refl
second_version FullSpare = refl
second_version FullBlock = refl
second_version Worn = refl
second_version Exists = refl

only_second : (version : ℕ) → (eqb version 2 && true) ≡ true → version ≡ 2
only_second version is = eqb-true version 2 (sym (and-true (eqb version 2)) ∙ is)

-- the reply to a request's write has a status of the version that has the request's operation
pub replied_status : (version : ℕ) (want : Want) (key value : List ℕ) → IsTrue (is_operation version (operation_of want))
    → (options : Options) (accepted : Bool) (cut : History) (write : Write) (outcome : Outcome) → write_by want key value ≡ Some write
    → IsReplyAt accepted options cut write outcome → IsTrue (is_status version (status_byte (status_of outcome)))
unfolding operation_of
replied_status version Get key value has options accepted cut write outcome is reply = absurd (cc)
replied_status version Put key value has options accepted cut write outcome is reply =
    let same : write_of PutOp key value ≡ write = cc in
    any_version version outcome (common_status accepted options cut write outcome reply (subst (λ (w : Write). IsCommonOp w.op) same tt))
replied_status version Del key value has options accepted cut write outcome is reply =
    let same : write_of DelOp key value ≡ write = cc in
    any_version version outcome (common_status accepted options cut write outcome reply (subst (λ (w : Write). IsCommonOp w.op) same tt))
replied_status version Add key value has options accepted cut write outcome is reply =
    let second : 2 ≡ version = sym (only_second version has) in subst (λ (v : ℕ). IsTrue (is_status v (status_byte (status_of outcome)))) second (second_version outcome)
replied_status version Touch key value has options accepted cut write outcome is reply =
    let second : 2 ≡ version = sym (only_second version has) in subst (λ (v : ℕ). IsTrue (is_status v (status_byte (status_of outcome)))) second (second_version outcome)
