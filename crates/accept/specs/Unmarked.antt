-- What refusals 1 to 11 leave: the header of an image where the check comes to 12, or why it does not.
use Rattle.base.specs.Pick.{pick}
use Rattle.format.specs.CheckIn.{came_to_marking}
use Rattle.format.specs.declared.Header.{Header}
use Rattle.std.specs.Prelude.{Result, Ok, Err}
use Rattle.format.specs.declared.Shape.{Shape}
use Rattle.format.specs.declared.Refusal.{Refusal}

unfoldable pub unmarked_of : Result Shape Refusal → Header → Result Header Refusal
unmarked_of (Ok sizes) h = Ok h
unmarked_of (Err r) h = pick (came_to_marking (Err r)) (Ok h) (Err r)
