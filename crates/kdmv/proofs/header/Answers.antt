use Rattle.format.specs.Header.{kdmv_header}
use Rattle.kdmv.proofs.header.Goals as goal

pub returns : goal.returns
unfolding kdmv_header
returns c = rw (
  c.one_is_zero.ensures,
  c.directory_sectors.ensures,
  c.directory_entries.ensures.0,
)
