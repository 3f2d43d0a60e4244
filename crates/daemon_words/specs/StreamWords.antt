-- The words of fronts behind connections: their port, the first address that it is of, a Unix socket beside it or in its place, how many threads serve them, how many connections all have at most, how long
-- one may be silent, and how much all may keep of what waits.
use Rattle.std.specs.Prelude.{ℕ, ◌*◌, ◌/◌, ◌==◌, ◌||◌, ◌&&◌, Bool, true, false, List, [], ◌∷◌, min, max, Option, Some, None, is_none, is_some, option_and_then, option_map, unwrap_or, codes, if◌then◌else◌}
use Rattle.std.specs.List.{before_first, after_first, list_any}
use Rattle.std.specs.declared.net.ipv4_addr.Ipv4Addr.{Ipv4Addr}
use Rattle.server_words.specs.declared.limits.TheConstants.{MOST_FRONTS}
use Rattle.daemon_words.specs.declared.streams.TheConstants.{MOST_IDLE}
use Rattle.daemon_words.specs.declared.streams.StreamOptions.{StreamOptions}
use Rattle.partition_sizes.specs.declared.sizes.TheConstants.{LEAST_MEMORY, MOST_MEMORY}
use Rattle.daemon_words.specs.declared.memory.TheConstants.{MOST_ITEM_SIZE, LEAST_BUFFERS, THREAD_BUFFERS}
use Rattle.daemon_words.specs.Secret.{secret_name}
use Rattle.daemon_words.specs.Memory.{amount_of, memory_of, memory_name}
use Rattle.option_words.specs.Words.{Text}
use Rattle.option_words.specs.Settings.{Setting, number, port, number_of, value_of, ◌>>=◌}

abbrev pub is_dot : ℕ → Bool
is_dot x = x == 46

-- the text before the first dot, or all of it where there is none
abbrev pub before_dot : Text → Text
before_dot text = before_first is_dot text

-- the text behind the first dot, or nothing where there is none
abbrev pub behind_dot : Text → Text
behind_dot text = after_first is_dot text

abbrev pub octet_of : Text → Option ℕ
octet_of text = number_of 0 255 text

abbrev pub address : ℕ → ℕ → ℕ → ℕ → Ipv4Addr
address a b c d = record { octets = a ∷ b ∷ c ∷ d ∷ [] }

-- the address that a text writes: four numbers up to 255, with a dot between each and the next
abbrev pub address_of : Text → Option Ipv4Addr
address_of text =
    octet_of (before_dot text) >>= λ a.
    octet_of (before_dot (behind_dot text)) >>= λ b.
    octet_of (before_dot (behind_dot (behind_dot text))) >>= λ c.
    octet_of (behind_dot (behind_dot (behind_dot text))) >>= λ d.
    Some (address a b c d)

abbrev pub is_comma : ℕ → Bool
is_comma x = x == 44

abbrev pub is_colon : ℕ → Bool
is_colon x = x == 58

-- the text before the first comma, or all of it where there is none
abbrev pub first_listed : Text → Text
first_listed text = before_first is_comma text

-- The address of the place by a list of addresses: the first of them, where it is one of IPv4. One with a colon is of IPv6, or stands before its port. What it is, and
-- what else is listed, an adapter is told apart.
abbrev pub place_of : Text → Option (Option Ipv4Addr)
place_of list = if list_any is_colon (first_listed list) then Some None else option_map Some (address_of (first_listed list))

-- the port, which is memcached's own where none is given
abbrev pub memcached : Setting ℕ
memcached = number (codes "memcached") 1 65535 11211

-- how many threads there are where no number is given: as memcached's, or as many as there are processors, where these are fewer
abbrev pub threads_for : ℕ → ℕ
threads_for processors = max 1 (min 4 processors)

-- how many fronts there are, each in a thread, beside so many processors
abbrev pub threads_name : Text
threads_name = codes "threads"

abbrev pub threads : ℕ → Setting ℕ
threads processors = number threads_name 1 MOST_FRONTS (threads_for processors)

-- the first address that the port is of, where it is one of IPv4: the machine's own where none is given
abbrev pub listen : Setting (Option Ipv4Addr)
listen = record { name = codes "listen"; meaning = place_of; default = Some (Some (address 127 0 0 1)) }

-- the most connections that all fronts have together at a time
abbrev pub connections : Setting ℕ
connections = number (codes "connections") 1 65536 1024

-- the options that name a Unix socket, and who may come there
abbrev pub socket_name : Text
socket_name = codes "socket"

abbrev pub socket_mode_name : Text
socket_mode_name = codes "socket-mode"

-- how many seconds a connection may be silent, where that is not 0
abbrev pub idle : Setting ℕ
idle = number (codes "idle-timeout") 0 MOST_IDLE 0

-- the longest value that is taken: a bound below that of the protocol is not served, so it is this one
abbrev pub item_size : Setting ℕ
item_size = record { name = codes "item-size"; meaning = amount_of MOST_ITEM_SIZE MOST_ITEM_SIZE; default = Some MOST_ITEM_SIZE }

-- so much memory is given, or the least
abbrev pub memory_among : (Text → Option Text) → ℕ
memory_among given = unwrap_or (option_and_then memory_of (given memory_name)) LEAST_MEMORY

-- what all threads and connections may keep of what waits, in bytes: a part for each thread, of 8 MiB at least. Where nothing is said of it, an
-- eighth of the memory, or 16 MiB for each thread where that is more
abbrev pub buffers : ℕ → ℕ → Setting ℕ
buffers memory threads = record {
  name = codes "buffers";
  meaning = amount_of (threads * LEAST_BUFFERS) MOST_MEMORY;
  default = Some (max (memory / 8) (threads * THREAD_BUFFERS));
}

-- the names of these options
abbrev pub stream_names : List Text
stream_names = memcached.name ∷ threads_name ∷ listen.name ∷ connections.name ∷ socket_name ∷ socket_mode_name ∷ idle.name ∷ item_size.name ∷ codes "buffers" ∷ secret_name ∷ []

-- there are no such fronts
abbrev pub no_streams : StreamOptions
no_streams = record { ports = record { port = 0; has_socket = false; fronts = 0 }; address = None; connections = 0; idle = 0; buffers = 0 }

-- one of the options is given that are of a port or a socket
abbrev pub gives_door : (Text → Option Text) → Bool
gives_door given = is_some (given memcached.name) || is_some (given listen.name) || is_some (given socket_name) || is_some (given socket_mode_name)

-- or another one that is of such fronts
abbrev pub gives_streams : (Text → Option Text) → Bool
gives_streams given =
    gives_door given || is_some (given threads_name) || is_some (given connections.name) || is_some (given idle.name) || is_some (given item_size.name) || is_some (given (codes "buffers"))
    || is_some (given secret_name)

-- the port, and none where a socket is named, and neither a port nor an address
abbrev pub port_given : (Text → Option Text) → Option ℕ
port_given given = if is_some (given socket_name) && is_none (given memcached.name) && is_none (given listen.name) then Some 0 else value_of memcached given

-- whether a socket is named, without which it has no mode
abbrev pub socket_given : (Text → Option Text) → Option Bool
socket_given given = if is_none (given socket_name) && is_some (given socket_mode_name) then None else Some (is_some (given socket_name))

-- fronts behind one port, a socket, or both
abbrev pub some_streams : ℕ → (Text → Option Text) → Option StreamOptions
some_streams processors given =
    port_given given >>= λ port.
    socket_given given >>= λ socket.
    value_of (threads processors) given >>= λ threads.
    value_of listen given >>= λ address.
    value_of connections given >>= λ connections.
    value_of idle given >>= λ idle.
    value_of item_size given >>= λ longest.
    value_of (buffers (memory_among given) threads) given >>= λ buffers.
    Some (record {
      ports = record { port = port; has_socket = socket; fronts = threads };
      address = address;
      connections = connections;
      idle = idle;
      buffers = buffers;
    })

-- a server is of one protocol: there are such fronts where no port of datagrams is given
abbrev pub has_streams : (Text → Option Text) → Bool
has_streams given = is_none (given port.name)

-- where there are none, nothing is said of them
abbrev pub streams_by : ℕ → (Text → Option Text) → Bool → Option StreamOptions
streams_by processors given true = some_streams processors given
streams_by processors given false = if gives_streams given then None else Some no_streams

abbrev pub streams_given : ℕ → (Text → Option Text) → Option StreamOptions
streams_given processors given = streams_by processors given (has_streams given)
