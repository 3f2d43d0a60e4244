use Rattle.std.proofs.Common.{[], sym, ap, ◌∙◌, subst}
use Rattle.memcached_requests.specs.Next.{next_of}
use Rattle.connection_loop.specs.Reached.{Reaches, position_at}
use Rattle.connection_loop.proofs.Reaching.{begins_none, nothing_next}
use Rattle.connection_loop.proofs.client.Client.new.Goals as goal

pub returns-clause-talk : goal.returns-clause-talk
returns-clause-talk c = λ options base. subst (λ b. Reaches options base (position_at b 0) [] [] []) (sym c.nothing.ensures) (begins_none options base)

pub returns-clause-waits : goal.returns-clause-waits
returns-clause-waits c = ap next_of c.nothing.ensures ∙ nothing_next
