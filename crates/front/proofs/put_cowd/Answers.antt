use Rattle.front.proofs.HeaderWritten.{cowd_front_lem}
use Rattle.front.proofs.put_cowd.Goals as goal

pub returns : goal.returns
returns c = cowd_front_lem _ _ _ _ _ _ _ _ _ _ _ _ _ c.put_number-7.ensures c.put_number-6.ensures c.put_number-5.ensures
    c.put_number-4.ensures c.put_number-3.ensures c.put_number-2.ensures c.put_number.ensures c.copy.ensures
