use Rattle.front.proofs.HeaderWritten.{header_join}
use Rattle.front.proofs.write_kdmv.Goals as goal

pub returns : goal.returns
returns c = header_join _ _ _ _ _ _ c.put_back.ensures c.put_front.ensures
    c.sector_v.ensures.0
