use Rattle.std.proofs.Common.{◌≡◌, ◌++◌, ◌∷◌, [], List, map, sym, ap, ◌∙◌, refl}
use Rattle.std.specs.Prelude.{option_map}
use Rattle.std.proofs.lemmas.List.{map-append}
use Rattle.connections.specs.Shares.{ShareFacts, with_share}
use Rattle.locked_server.specs.Streams.{stream_facts, with_shares}
use Rattle.locked_server.proofs.Released.{none_released, one_released}
use Rattle.locked_server.proofs.listening.release_streams.Given as given
use Rattle.locked_server.proofs.listening.release_streams.Goals as goal

abbrev facts : (g : given.Over) → g.row.L-Port.Denot → ShareFacts
facts g = stream_facts g.L.Port.Connections

pub loop-share-init : goal.loop-share-init
loop-share-init g c =
    record { released = none_released (g.L.Listeners.released c.args.listeners.now); waits = refl; places = refl; most = refl; heard = refl; given = refl; faults = refl }

pub loop-share-preserved : goal.loop-share-preserved
loop-share-preserved g c =
    let inv = c.loop-share.invariant in
    let done = map (facts g) c.loop-share.yielded in
    let share = c.in-Some.share in
    let gone = c.release.ensures in
    let more : map (facts g) (c.loop-share.yielded ++ share ∷ []) ≡ done ++ facts g share ∷ [] = map-append (facts g) c.loop-share.yielded (share ∷ []) in
    let before = g.L.Listeners.released c.args.listeners.now in
    record {
      released = gone.released ∙ ap (option_map (with_share (facts g share).share (facts g share).log)) inv.released ∙ one_released done (facts g share) before
          ∙ ap (λ (l : List ShareFacts). option_map (with_shares l) before) (sym more);
      waits = gone.waits ∙ inv.waits;
      places = gone.places ∙ inv.places;
      most = gone.most ∙ inv.most;
      heard = gone.heard ∙ inv.heard;
      given = gone.given ∙ inv.given;
      faults = gone.faults ∙ inv.faults;
    }
