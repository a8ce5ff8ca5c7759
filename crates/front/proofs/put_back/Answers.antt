use Rattle.front.proofs.HeaderWritten.{back}
use native.Mathlib.Omega.{arith}
use Rattle.front.proofs.put_back.Goals as goal

pub returns : goal.returns
returns c = back _ _ _ _ _ _ _ _ c.fill-2.ensures c.copy.ensures c.fill.ensures c.put_number-3.ensures
    c.put_number-2.ensures c.put_number.ensures (omega arith)
