-- What cases tell apart.
use Rattle.std.proofs.Common.{ℕ, Bool, true, false}
use Rattle.memcached_requests.specs.declared.request.Next.{Next}
use Rattle.memcached_requests.specs.declared.request.Next.TheVariants.{Whole, More}
use Rattle.memcached_commands.specs.declared.ask.Says.{Says}
use Rattle.memcached_commands.specs.declared.ask.Says.TheVariants.{Shows}
use Rattle.memcached_stats.specs.Stats.{Told}

-- the number of an item that is shown, and 0 of all else
abbrev pub shown_number : Says → ℕ
shown_number (Shows item) = item.unique
shown_number _ = 0

-- bytes begin with a request
abbrev pub is_command : Next → Bool
is_command (Whole request style len last) = true
is_command More = false

-- a server told nothing of itself
abbrev pub nothing_told : Told
nothing_told = record {
  about = record {
    pid = 0;
    uptime = 0;
    time = 0;
    user = 0;
    system = 0;
    threads = 0;
    limit_maxbytes = 0;
    hash_bytes = 0;
    malloced = 0;
    max_connections = 0;
    port = 0;
    idle_timeout = 0;
    evicts = false;
  };
  counts = λ counter. 0;
  before = λ counter. 0;
  wear = λ partition. record { writes = 0; writes_left = 0 };
}
