-- What `u64::from` gives for a bool: 1 where it holds, else 0.
use mathlib.Core.Path.{◌≡◌, refl}
use mathlib.Core.Bool.{Bool, true, false}
use mir.Val.{bool_byte}
use Rattle.base.specs.Pick.{pick}

pub bool_number : (b : Bool) → bool_byte b ≡ pick b 1 0
unfolding pick
bool_number true = refl
bool_number false = refl
