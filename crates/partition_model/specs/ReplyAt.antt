-- What a reply to a write says of a history.
use Rattle.std.specs.Prelude.{◌≡◌, Bool, true, false, [], ◌∷◌, ◌++◌}
use Rattle.partition_model.specs.declared.options.Options.{Options}
use Rattle.partition_model.specs.declared.write.Write.{Write}
use Rattle.partition_model.specs.declared.write.Outcome.{Outcome}
use Rattle.partition_model.specs.History.{History, MayGive}

-- An accepted write is the last of the cut, and its outcome is one that the machine may give there. A refused one has an outcome that
-- the machine may give after the cut.
abbrev pub IsReplyAt : Bool → Options → History → Write → Outcome → Type 0
IsReplyAt true options cut write outcome = (before : History) × (cut ≡ before ++ write ∷ []) × MayGive options before write outcome
IsReplyAt false options cut write outcome = MayGive options cut write outcome
