use Rattle.owner_queue.proofs.acks.ack_queue.Given as goal

-- a note at the seat's table
abbrev pub ghosts-make : goal.ghosts-make
ghosts-make a = let of = a._of.now in record { terms = record { seat = of.seat; reads = of.reads; light = of.light } }
