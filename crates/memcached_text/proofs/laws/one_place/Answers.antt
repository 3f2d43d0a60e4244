use Rattle.memcached_text.proofs.PlaceLaws as places
use Rattle.memcached_text.proofs.laws.one_place.Goals as goal

pub returns : goal.returns
returns c = places.keeps_place
