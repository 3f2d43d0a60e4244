use Rattle.memcached_commands.proofs.DecideLaws as laws
use Rattle.memcached_commands.proofs.laws.fits.Goals as goal

pub returns : goal.returns
returns c = laws.fits
