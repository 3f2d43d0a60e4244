-- The batches that a trace is sent in: those of each round, and in it of each partition, in order.
use Rattle.std.specs.Prelude.{ℕ, ◌+◌, ◌%◌, ◌==◌, ◌&&◌, Bool, List, [], ◌∷◌, ◌++◌, length, map, filter, flat_map, nat_lt, nat_le, if◌then◌else◌, Option, Some, None, option_map}
use Rattle.std.specs.List.{range_with_len}
use Rattle.mica_words.specs.declared.hashing.Hashing.TheVariants.{Fnv1a}
use Rattle.mica_words.specs.Hash.{partition_of}
use Rattle.mica_trace.specs.declared.line.TraceOp.{TraceOp}
use Rattle.mica_trace.specs.declared.line.TraceOp.TheVariants.{Put, Add, Del, Touch, Get, Sync}
use Rattle.mica_trace.specs.declared.line.TraceLine.{TraceLine}
use Rattle.batch_packets.specs.declared.batch.Want.{Want}
use Rattle.batch_packets.specs.declared.batch.Want.TheVariants.{Put as PutWant, Add as AddWant, Del as DelWant, Touch as TouchWant, Get as GetWant}
use Rattle.batch_packets.specs.declared.batch.Request.{Request}
use Rattle.batch_packets.specs.declared.batch.Batch.{Batch}
use Rattle.batch_packets.specs.declared.header.TheConstants.{HEADER_LEN}
use Rattle.batch_packets.specs.BatchGrammar.{request_text}
use Rattle.batch_packets.specs.Datagram.{max_datagram_len}
use Rattle.mica_client.specs.declared.options.TheConstants.{VERSION}
use Rattle.server_words.specs.declared.ask_options.AskOptions.{AskOptions}

-- what a line asks for; a sync asks for nothing
abbrev pub want_of : TraceOp → Option Want
want_of Put = Some PutWant
want_of Add = Some AddWant
want_of Del = Some DelWant
want_of Touch = Some TouchWant
want_of Get = Some GetWant
want_of Sync = None

-- the request of line n, from 0: its ticket is the line's number from 1
abbrev pub request_of : ℕ → TraceLine → Option Request
request_of n line =
    option_map (λ want. record { want = want; ticket = n + 1; key = line.key; value = line.value }) (want_of line.op)

-- a request in front of others, where there is one
abbrev pub in_front : Option Request → List Request → List Request
in_front None requests = requests
in_front (Some request) requests = request ∷ requests

-- the requests of the lines from line n on
abbrev pub requests_from : ℕ → List TraceLine → List Request
requests_from n [] = []
requests_from n (line ∷ lines) = in_front (request_of n line) (requests_from (n + 1) lines)

-- a request goes to the end of its round, and a line without one ends the round
abbrev pub on_line : Option Request → List Request → (List Request → List (List Request)) → List (List Request)
on_line None round next = round ∷ next []
on_line (Some request) round next = next (round ++ request ∷ [])

-- the rounds of the lines from line n on, the first of which has these requests already
abbrev pub rounds_from : List Request → ℕ → List TraceLine → List (List Request)
rounds_from round n [] = round ∷ []
rounds_from round n (line ∷ lines) = on_line (request_of n line) round (λ r. rounds_from r (n + 1) lines)

-- how many bytes a datagram of these requests has
abbrev pub text_len : List Request → ℕ
text_len requests = HEADER_LEN + length (flat_map request_text requests)

-- a request joins a batch that has fewer than so many and stays within a datagram
abbrev pub joins : ℕ → List Request → Request → Bool
joins per group request = nat_lt (length group) per && nat_le (text_len (group ++ request ∷ [])) (max_datagram_len VERSION)

-- the last batch, where it has a request
abbrev pub last_batch : List Request → List (List Request)
last_batch [] = []
last_batch (request ∷ requests) = (request ∷ requests) ∷ []

-- the batches that requests are cut into, the first of which has these already
abbrev pub cut : ℕ → List Request → List Request → List (List Request)
cut per group [] = last_batch group
cut per group (request ∷ later) =
    if joins per group request then cut per (group ++ request ∷ []) later else group ∷ cut per (request ∷ []) later

-- the port of a partition's front
abbrev pub port_of : AskOptions → ℕ → ℕ
port_of options partition = options.port + partition % options.fronts

abbrev pub is_in_partition : AskOptions → ℕ → Request → Bool
is_in_partition options partition request = partition_of Fnv1a request.key options.partitions == partition

-- the requests of one batch, and the port that it goes to
pub record Group : Type 0 where
  pub port : ℕ
  pub requests : List Request

-- batches that go to one port
abbrev pub groups_at : ℕ → List (List Request) → List Group
groups_at port batches = map (λ requests. record { port = port; requests = requests }) batches

-- the batches of a port, where these are full, and the last one takes the requests that follow
abbrev pub batches_with : ℕ → ℕ → List Group → List Request → List Request → List Group
batches_with per port full last later = full ++ groups_at port (cut per last later)

-- the batches of one partition in a round
abbrev pub groups_in : AskOptions → List Request → ℕ → List Group
groups_in options round partition =
    groups_at (port_of options partition) (cut options.per [] (filter (is_in_partition options partition) round))

-- the batches of a round
abbrev pub groups_of_round : AskOptions → List Request → List Group
groups_of_round options round = flat_map (groups_in options round) (range_with_len 0 options.partitions)

-- the batches of a trace
abbrev pub groups_of : AskOptions → List TraceLine → List Group
groups_of options trace = flat_map (groups_of_round options) (rounds_from [] 0 trace)

-- a batch and the port that it goes to
pub record Ask : Type 0 where
  pub port : ℕ
  pub batch : Batch

-- the batch of this number
abbrev pub ask_of : ℕ → Group → Ask
ask_of number group = record { port = group.port; batch = record { version = VERSION; number = number; requests = group.requests } }

-- batches are numbered on from one to the next
abbrev pub numbered : ℕ → List Group → List Ask
numbered n [] = []
numbered n (group ∷ groups) = ask_of n group ∷ numbered (n + 1) groups

-- what is asked of a server for a trace, in order
abbrev pub asks_of : AskOptions → List TraceLine → List Ask
asks_of options trace = numbered 0 (groups_of options trace)
