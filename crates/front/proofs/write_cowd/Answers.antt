use Rattle.front.proofs.HeaderWritten.{cowd_join}
use Rattle.front.proofs.write_cowd.Goals as goal

pub returns : goal.returns
returns c = cowd_join _ _ _ _ _ _ _ c.fill.ensures c.put_cowd.ensures c.tables_of.ensures.0
