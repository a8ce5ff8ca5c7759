use Rattle.format.specs.Header.{cowd_header}
use Rattle.cowd.proofs.header.Goals as goal

pub returns : goal.returns
unfolding cowd_header
returns c = rw c.directory_sectors.ensures
