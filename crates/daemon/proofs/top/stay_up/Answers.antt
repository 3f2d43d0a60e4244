use Rattle.std.proofs.Common.{◌≡◌, ◌<◌, ℕ, Bool, true, false, List, [], ◌∷◌, length, inl, refl, sym, ◌∙◌, subst, if◌then◌else◌, arith}
use Rattle.std.specs.Prelude.{◌==◌}
use Rattle.std.proofs.lemmas.Bool.{eqb-true}
use Rattle.connections.specs.declared.listeners.Place.{Place}
use Rattle.served.specs.NetRun.{net_facts}
use Rattle.server_words.specs.Output.{sink_facts}
use Rattle.locked_server.specs.Causes.{ports_at}
use Rattle.daemon.specs.Daemon.{daemon_outside, place_at}
use Rattle.daemon.proofs.Announced.{serves_placed}
use Rattle.daemon.proofs.top.stay_up.Goals as goal

-- there is a place where there are fronts
is_placed : (fronts : ℕ) (place : Place) (none : Bool) → (fronts == 0) ≡ none → 0 < fronts → 0 < length (if none then [] else place ∷ [])
is_placed fronts place true is some = absurd (let same = eqb-true fronts 0 is in omega (arith, same, some))
is_placed fronts place false is some = omega arith

pub serve_aloud-requires-clause-places : goal.serve_aloud-requires-clause-places
serve_aloud-requires-clause-places g c lifetimes outlive some =
    let streams = c.args.read.now.streams in
    subst (λ (all : List Place). 0 < length all) (sym (c.set_places.ensures.places ∙ c.in-Ok-places_of.ensures))
    (is_placed streams.ports.fronts (place_at streams.address streams.ports.port) (streams.ports.fronts == 0) refl some)

pub returns : goal.returns
returns g c =
    let set = c.set_places.ensures in
    inl (serves_placed c.args.read.now.streams
    (daemon_outside (sink_facts g.K.Sink c.args.speaker.now.sink) (ports_at g.N.Net g.L.Listeners c.args.net.now c.args.listeners.now) c.args.left.now.tables c.args.left.now.lacked)
    (λ i. daemon_outside (sink_facts g.K.Sink c.args.speaker.now.sink) (record {
      net = net_facts g.N.Net c.args.net.now;
      listens = record {
        faults = set.faults i;
        waits = set.waits i;
        released = set.released i;
        places = (set.places ∙ c.in-Ok-places_of.ensures) i;
        most = set.most i;
        heard = set.unheard i;
        given = set.given i;
      };
    }) c.args.left.now.tables c.args.left.now.lacked)
    c.buffers_of.ensures c.serve_aloud.ensures)
