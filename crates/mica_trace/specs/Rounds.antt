-- The rounds of a trace, which its syncs part, and the writes of its partitions.
use Rattle.std.specs.Prelude.{ℕ, zero, suc, ◌%◌, ◌==◌, Bool, true, false, List, [], ◌∷◌, length, take, count_by, Option, Some, None, option_map, if◌then◌else◌}
use Rattle.std.specs.List.{filter_map}
use Rattle.mica_words.specs.Hash.{partition_of}
use Rattle.partition_model.specs.declared.options.Options.{Options}
use Rattle.partition_model.specs.declared.write.Op.{Op}
use Rattle.partition_model.specs.declared.write.Op.TheVariants.{Put as PutOp, Add as AddOp, Touch as TouchOp, Del as DelOp}
use Rattle.partition_model.specs.declared.write.Write.{Write}
use Rattle.partition_model.specs.Write.{write_of}
use Rattle.mica_trace.specs.declared.line.TraceOp.{TraceOp}
use Rattle.mica_trace.specs.declared.line.TraceOp.TheVariants.{Put, Add, Del, Touch, Get, Sync}
use Rattle.mica_trace.specs.declared.line.TraceLine.{TraceLine}
use Rattle.mica_trace.specs.TraceGrammar.{is_sync, syncs_in}

-- the round of line n, both from 0: how many syncs stand before the line
abbrev pub round_of : List TraceLine → ℕ → ℕ
round_of lines n = syncs_in (take n lines)

-- the lines before a round, which begins after that many syncs
abbrev pub lines_before : List TraceLine → ℕ → List TraceLine
lines_before [] round = []
lines_before (line ∷ lines) zero = []
lines_before (line ∷ lines) (suc round) = line ∷ lines_before lines (if is_sync line then round else suc round)

-- what an operation does with its key, where it is a write
abbrev pub op_of : TraceOp → Option Op
op_of Put = Some PutOp
op_of Add = Some AddOp
op_of Del = Some DelOp
op_of Touch = Some TouchOp
op_of Get = None
op_of Sync = None

-- the write that an operation is, where it is one
abbrev pub write_by : TraceOp → List ℕ → List ℕ → Option Write
write_by op key value = option_map (λ does. write_of does key value) (op_of op)

-- the partition of a line's key
abbrev pub partition_in : Options → TraceLine → ℕ
partition_in options line = partition_of options.hashing line.key options.partitions

-- the key of the line belongs to the partition
abbrev pub is_in_partition : Options → ℕ → TraceLine → Bool
is_in_partition options partition line = partition_in options line == partition

-- the write of a line, if it is one of the partition
abbrev pub write_in : Options → ℕ → TraceLine → Option Write
write_in options partition line =
    if is_in_partition options partition line then write_by line.op line.key line.value else None

-- the writes of a partition, in trace order
abbrev pub writes_of : Options → ℕ → List TraceLine → List Write
writes_of options partition lines = filter_map (write_in options partition) lines

-- how many writes of the partition stand before a round
abbrev pub round_begin : Options → ℕ → List TraceLine → ℕ → ℕ
round_begin options partition lines round = length (writes_of options partition (lines_before lines round))

-- how many stand before its end, where the next round begins
abbrev pub round_end : Options → ℕ → List TraceLine → ℕ → ℕ
round_end options partition lines round = round_begin options partition lines (suc round)

-- whether an operation is a get
abbrev pub is_get_op : TraceOp → Bool
is_get_op Get = true
is_get_op _ = false

-- the reader of the get at place n: the gets go to the readers in turn
abbrev pub reader_of : Options → List TraceLine → ℕ → ℕ
reader_of options lines n = count_by (λ line. is_get_op line.op) (take n lines) % options.readers
