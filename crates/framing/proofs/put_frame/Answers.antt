use Rattle.framing.proofs.FrameLaws.{frame_left, frame_right, frame_put}
use borrow.Author.Rules.{rules}
use Rattle.framing.proofs.put_frame.Goals as goal

pub put_front-next-requires : goal.put_front-next-requires
put_front-next-requires c = search frame_left

pub put_rest-requires : goal.put_rest-requires
put_rest-requires c = (search rules, search frame_right)

pub returns : goal.returns
returns c = search frame_put
