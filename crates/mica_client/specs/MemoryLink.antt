-- What a link over memory keeps of the datagrams that passed.
use Rattle.std.specs.Prelude.{ℕ, ◌+◌, ◌≤◌, List, [], ◌∷◌, ◌++◌, map, slice_range, slice_index_or}
use Rattle.outside.specs.Traffic.{Datagram}
use Rattle.mica_client.specs.declared.memory_link.Pass.{Pass}
use Rattle.mica_client.specs.declared.memory_link.Pass.TheVariants.{Sent, Received}
use Rattle.mica_client.specs.Talk.{Passed, sent, received, Talk}

abbrev pub passed_by : List ℕ → List Datagram → Pass → Passed
passed_by bytes datagrams (Sent port from to faults) = sent port (slice_range bytes from to) faults
passed_by bytes datagrams (Received number faults) = received (slice_index_or datagrams number []) faults

abbrev pub passed_in : List ℕ → List Datagram → List Pass → List Passed
passed_in bytes datagrams passes = map (passed_by bytes datagrams) passes

-- where it begins and ends: among the bytes that were sent, or the datagrams
abbrev pub begin_of : Pass → ℕ
begin_of (Sent port from to faults) = from
begin_of (Received number faults) = number

abbrev pub end_of : Pass → ℕ
end_of (Sent port from to faults) = to
end_of (Received number faults) = number + 1

-- how far it may go, where there are so many bytes and datagrams
abbrev pub end_limit : ℕ → ℕ → Pass → ℕ
end_limit len count (Sent port from to faults) = len
end_limit len count (Received number faults) = count

-- it lies within so many bytes, or is one of so many datagrams
abbrev pub LiesWithin : ℕ → ℕ → Pass → Type 0
LiesWithin len count pass = (begin_of pass ≤ end_of pass) × (end_of pass ≤ end_limit len count pass)

-- with one more datagram at the end of those that are left
abbrev pub with_datagram : Datagram → Talk → Talk
with_datagram datagram talk = record talk { left = talk.left ++ datagram ∷ [] }
