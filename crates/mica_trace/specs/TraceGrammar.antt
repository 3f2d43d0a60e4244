-- Traces, by cases on bytes.
use Rattle.std.specs.Prelude.{◌≡◌, ℕ, ◌+◌, ◌<◌, ◌≤◌, Bool, true, false, List, [], ◌∷◌, ◌++◌, length, count_by, codes, flat_map}
use Rattle.std.specs.List.{AllByRecursion, AllZip}
use Rattle.std.specs.Fmt.{decimal}
use Rattle.mica_trace.specs.declared.limits.TheConstants.{MAX_LINES, MAX_LINE_LEN, MAX_ROUNDS}
use Rattle.mica_trace.specs.declared.line.TraceOp.{TraceOp}
use Rattle.mica_trace.specs.declared.line.TraceOp.TheVariants.{Put, Add, Del, Touch, Get, Sync}
use Rattle.mica_trace.specs.declared.line.TraceLine.{TraceLine}
use Rattle.mica_trace.specs.declared.line.TraceFault.{TraceFault}
use Rattle.mica_trace.specs.declared.line.TraceFault.TheVariants.{BadLine, LongLine, TooManyLines, TooManyRounds, NoMemory}
use Rattle.mica_words.specs.Item.{KeyFits, ValueFits}
use Rattle.mica_trace.specs.Lines.{lines_of}

-- a key that fits, of visible characters, none a space
abbrev pub IsKey : List ℕ → Type 0
IsKey key = KeyFits key × AllByRecursion (λ b. (33 ≤ b) × (b ≤ 126)) key

-- a value that fits, of visible characters and spaces
abbrev pub IsValue : List ℕ → Type 0
IsValue value = ValueFits value × AllByRecursion (λ b. (32 ≤ b) × (b ≤ 126)) value

-- what an operation has for key and value
abbrev pub HasFields : TraceOp → List ℕ → List ℕ → Type 0
HasFields Put key value = IsKey key × IsValue value
HasFields Add key value = IsKey key × IsValue value
HasFields Del key value = IsKey key × (value ≡ [])
HasFields Touch key value = IsKey key × (value ≡ [])
HasFields Get key value = IsKey key × (value ≡ [])
HasFields Sync key value = (key ≡ []) × (value ≡ [])

-- a line that a trace may have
abbrev pub IsTraceLine : TraceLine → Type 0
IsTraceLine line = HasFields line.op line.key line.value

-- the text of an operation with this key and this value, without its line feed
abbrev pub op_text : TraceOp → List ℕ → List ℕ → List ℕ
op_text Put key value = codes "put " ++ key ++ 32 ∷ value
op_text Add key value = codes "add " ++ key ++ 32 ∷ value
op_text Del key value = codes "del " ++ key
op_text Touch key value = codes "touch " ++ key
op_text Get key value = codes "get " ++ key
op_text Sync key value = codes "sync"

-- the text of a line, without a line feed
abbrev pub line_text : TraceLine → List ℕ
line_text line = op_text line.op line.key line.value

-- the text is that of the line, which is one of a trace
abbrev pub IsTextOf : List ℕ → TraceLine → Type 0
IsTextOf text line = IsTraceLine line × (text ≡ line_text line)

-- the line that ends a round
abbrev pub sync_line : TraceLine
sync_line = record { op = Sync; key = []; value = [] }

-- whether an operation ends a round
abbrev pub is_sync_op : TraceOp → Bool
is_sync_op Sync = true
is_sync_op _ = false

-- whether a line does
abbrev pub is_sync : TraceLine → Bool
is_sync line = is_sync_op line.op

-- how many lines end a round
abbrev pub syncs_in : List TraceLine → ℕ
syncs_in lines = count_by is_sync lines

-- the text in which each line ends with a line feed
abbrev pub trace_text : List TraceLine → List ℕ
trace_text lines = flat_map (λ line. line_text line ++ 10 ∷ []) lines

-- no more lines and rounds than a trace may have; its last round ends with the trace
pub record IsWithinLimits (lines : List TraceLine) : Type 0 where
  pub few_lines : length lines ≤ MAX_LINES
  pub few_rounds : syncs_in lines < MAX_ROUNDS

-- after this many lines and syncs a trace may have the line
pub record HasLineRoom (lines syncs : ℕ) (line : TraceLine) : Type 0 where
  pub line_room : lines < MAX_LINES
  pub round_room : is_sync line ≡ true → syncs + 1 < MAX_ROUNDS

-- the text spells these lines, one after another
pub record IsTrace (text : List ℕ) (lines : List TraceLine) : Type 0 where
  pub spelled : AllZip IsTextOf (lines_of text) lines
  pub within : IsWithinLimits lines

-- the text spells no trace
abbrev pub IsNoTrace : List ℕ → Type 0
IsNoTrace text = (lines : List TraceLine) → ¬ (IsTrace text lines)

-- What line n, counted from 1, is refused for, after that many syncs. The causes stand in order: each one but the first says that those
-- above it don't hold.
abbrev pub IsFaultOf : ℕ → ℕ → List ℕ → TraceFault → Type 0
IsFaultOf n syncs text TooManyLines = MAX_LINES < n
IsFaultOf n syncs text (LongLine m) = (m ≡ n) × (n ≤ MAX_LINES) × (MAX_LINE_LEN < length text)
IsFaultOf n syncs text (BadLine m) =
    (m ≡ n) × (n ≤ MAX_LINES) × (length text ≤ MAX_LINE_LEN) × ((line : TraceLine) → ¬ (IsTextOf text line))
IsFaultOf n syncs text TooManyRounds = (n ≤ MAX_LINES) × (text ≡ codes "sync") × (MAX_ROUNDS ≤ syncs + 1)
IsFaultOf n syncs text NoMemory = ⊥

-- what is said of a fault
abbrev pub fault_text : TraceFault → List ℕ
fault_text (BadLine n) = codes "bad line " ++ decimal n
fault_text (LongLine n) = codes "long line " ++ decimal n
fault_text TooManyLines = codes "too many lines"
fault_text TooManyRounds = codes "too many rounds"
fault_text NoMemory = codes "out of memory"

-- A walk over the lines stops with this fault: the lines before are those of a trace, and the next one is refused for it.
pub record Refuses (text : List ℕ) (fault : TraceFault) : Type 0 where
  pub texts : List (List ℕ)
  pub at : List ℕ
  pub later : List (List ℕ)
  pub parts : lines_of text ≡ texts ++ at ∷ later
  pub before : List TraceLine
  pub spelled : AllZip IsTextOf texts before
  pub within : IsWithinLimits before
  pub refused : IsFaultOf (length before + 1) (syncs_in before) at fault
