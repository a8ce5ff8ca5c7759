use Rattle.lengths.proofs.Sums.{laid_of}
use Rattle.survey.proofs.SurveySteps.{lengths_refused, lengths_told}
use Rattle.survey.proofs.survey.Goals as goal

pub returns-then-lengths_broken : goal.returns-then-lengths_broken
returns-then-lengths_broken c = search lengths_refused

pub survey_if_room-requires : goal.survey_if_room-requires
survey_if_room-requires c = search laid_of

pub returns : goal.returns
returns c = search lengths_told
