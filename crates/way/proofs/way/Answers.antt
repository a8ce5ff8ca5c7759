use Rattle.header.proofs.HeaderAnswered.{judged_sound}
use Rattle.way.proofs.WayLaws.{judged_as}
use Rattle.format.specs.Way.{way_from}
use Rattle.way.proofs.way.Goals as goal

pub way_in-requires : goal.way_in-requires
unfolding way_from
way_in-requires c = search judged_sound

pub returns-in-Err : goal.returns-in-Err
unfolding way_from
returns-in-Err c = search judged_as

pub returns-in-Ok : goal.returns-in-Ok
unfolding way_from
returns-in-Ok c = search judged_as
