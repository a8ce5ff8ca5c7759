use Rattle.framing.proofs.FrameLaws.{back_left, back_right, back_put}
use Rattle.framing.proofs.put_back.Goals as goal

pub put_if-next-requires : goal.put_if-next-requires
put_if-next-requires c = search back_left

pub put_if-requires : goal.put_if-requires
put_if-requires c = search back_right

pub returns : goal.returns
returns c = search back_put
