-- What the contract of a server comes to for memcached's clients.
use Rattle.std.specs.Prelude.{◌≡◌, ◌≤◌, ◌<◌, ◌+◌, ◌^◌, ⊤, ℕ, List, Some, None}
use Rattle.partition_model.specs.declared.options.Mode.TheVariants.{Store}
use Rattle.connections.specs.Log.{Log, received_of}
use Rattle.connections.specs.Shares.{ShareLogs}
use Rattle.served.specs.NetRun.{OnPorts}
use Rattle.locked_server.specs.Streams.{ListenFacts}
use Rattle.daemon_words.specs.declared.host.Host.{Host}
use Rattle.daemon_words.specs.DaemonWords.{Service, daemon_of}
use Rattle.daemon.specs.declared.status.DaemonStatus.{DaemonStatus}
use Rattle.daemon.specs.declared.status.DaemonStatus.TheVariants.{UsedUp, Stopped}
use Rattle.daemon.specs.Files.{FilesFacts}
use Rattle.daemon.specs.Daemon.{DaemonOutside, KeepsUp}
use Rattle.memcached_page.specs.Shelf.{empty}
use Rattle.memcached_page.specs.Page.{ServesAsMemcached}
use Rattle.client_stories.specs.Stories.{AreBytes}

-- it was carried out until nothing more was to come, or until it was told to stop
abbrev pub IsCarriedOut : DaemonStatus → Type 0
IsCarriedOut UsedUp = ⊤
IsCarriedOut Stopped = ⊤
IsCarriedOut _ = ⊥

-- Of so many shares of what listens these logs waited, and those were left.
pub record TellsLogs (shares : ℕ) (old new : ListenFacts) (waited left : ℕ → Log) : Type 0 where
  pub before : ShareLogs
  pub after : ShareLogs
  pub before_is : old.waits ≡ Some before
  pub after_is : new.released ≡ Some after
  pub waited_is : (f : ℕ) → f < shares → before (old.given + f) ≡ Some (waited f)
  pub left_is : (f : ℕ) → f < shares → after (old.given + f) ≡ Some (left f)

-- Words give a store that serves connections alone, and that no image fills; they give it a part at least. Its contract holds, with one of these statuses. What its clients send are bytes. Then they
-- are served as its page says. Numbers of values would end at 62 bits.
abbrev pub MemcachedInStore : Type 0
MemcachedInStore = (host : Host) (words : List (List ℕ)) (service : Service) (base : ℕ) (before after : FilesFacts) (old new : DaemonOutside) (status : DaemonStatus) (waited left : ℕ → Log)
    → daemon_of host words ≡ Some service → service.ports.fronts ≡ 0 → service.image ≡ None → service.options.mode ≡ Store → 1 ≤ service.options.partitions → base + service.options.wear < 2 ^ 62
    → KeepsUp (daemon_of host words) base before after old new status → IsCarriedOut status
    → TellsLogs service.streams.ports.fronts old.ports.listens new.ports.listens waited left
    → ((f c : ℕ) → f < service.streams.ports.fronts → AreBytes (received_of c (left f).entries))
    → OnPorts (λ ports ports'. ServesAsMemcached service.options service.streams.ports.fronts new.lacked (λ part. empty) waited left) old.ports.net.ports new.ports.net.ports
