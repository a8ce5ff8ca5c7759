use Rattle.format.specs.Header.{kind_gone}
use Rattle.cowd.proofs.kind_gone.Goals as goal

pub returns-in-KdmvAlone : goal.returns-in-KdmvAlone
unfolding kind_gone
returns-in-KdmvAlone c = rw c.in-KdmvAlone.is

pub returns-in-Either : goal.returns-in-Either
unfolding kind_gone
returns-in-Either c = rw c.in-Either.is
