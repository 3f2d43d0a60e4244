use Rattle.named_files.proofs.Replaced.{put_after}
use Rattle.named_files.proofs.replacing.replace.Goals as goal

pub returns-in_err-put_in_place-clause-any_moment : goal.returns-in_err-put_in_place-clause-any_moment
returns-in_err-put_in_place-clause-any_moment g c =
    put_after _ (g.P.Place.state c.write_beside.new.place) _ _ c.in_ok-write_beside.ensures.same c.in_ok-write_beside.ensures.wrote c.in_err-put_in_place.ensures.any_moment

pub returns-clause-any_moment : goal.returns-clause-any_moment
returns-clause-any_moment g c =
    put_after _ (g.P.Place.state c.write_beside.new.place) _ _ c.in_ok-write_beside.ensures.same c.in_ok-write_beside.ensures.wrote c.in_ok-put_in_place.ensures.any_moment
