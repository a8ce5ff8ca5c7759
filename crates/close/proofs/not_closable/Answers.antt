use Rattle.close.proofs.not_closable.Goals as goal

pub returns : goal.returns
returns c = rw (
  c.descriptor_past.ensures,
  c.walk_misplaced.ensures,
  c.no_stream.ensures,
  c.overhead-start.ensures,
  c.file_sectors-sectors.ensures,
)
