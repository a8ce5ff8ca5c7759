use Rattle.framing.specs.WordsPut.{head_words}
use Rattle.framing.proofs.WordsLaws.{room_left, room_right, put_more}
use Rattle.framing.proofs.put_head.Goals as goal

pub put-next-requires : goal.put-next-requires
unfolding head_words
put-next-requires c = search room_left

pub put_if-requires : goal.put_if-requires
unfolding head_words
put_if-requires c = search room_right

pub returns : goal.returns
unfolding head_words
returns c = search put_more
