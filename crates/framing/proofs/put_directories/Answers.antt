use Rattle.framing.specs.WordsPut.{directory_words}
use Rattle.framing.proofs.WordsLaws.{room_left, room_right, put_more}
use Rattle.framing.proofs.put_directories.Goals as goal

pub put-next-requires : goal.put-next-requires
unfolding directory_words
put-next-requires c = search room_left

pub put_if-requires : goal.put_if-requires
unfolding directory_words
put_if-requires c = search room_right

pub returns : goal.returns
unfolding directory_words
returns c = search put_more
