use Rattle.framing.specs.WordsPut.{front_words}
use Rattle.framing.proofs.WordsLaws.{room_left, room_right, put_more}
use Rattle.framing.proofs.put_front.Goals as goal

pub put_head-next-requires : goal.put_head-next-requires
unfolding front_words
put_head-next-requires c = search room_left

pub put_directories-requires : goal.put_directories-requires
unfolding front_words
put_directories-requires c = search room_right

pub returns : goal.returns
unfolding front_words
returns c = search put_more
