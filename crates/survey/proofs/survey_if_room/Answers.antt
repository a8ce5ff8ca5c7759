use Rattle.survey.proofs.SurveySteps.{room_short, room_rows, room_tally, room_told}
use Rattle.survey.proofs.survey_if_room.Goals as goal

pub returns-then-rows-lengths : goal.returns-then-rows-lengths
returns-then-rows-lengths c = search room_short

pub returns : goal.returns
returns c = search room_told

pub survey_all-requires-clause-lengths_in_bounds : goal.survey_all-requires-clause-lengths_in_bounds
survey_all-requires-clause-lengths_in_bounds c = (search room_rows, search room_tally)
