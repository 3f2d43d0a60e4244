use Rattle.memcached_frames.proofs.HeaderLaws.{one_header}
use Rattle.memcached_frames.proofs.header.one_header.Goals as goal

pub returns : goal.returns
returns c = one_header
