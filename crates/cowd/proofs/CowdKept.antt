-- What is known of a COWD header where no rule is broken.
use mathlib.Core.Path.{◌≡◌, sym, ◌∙◌}
use mathlib.Core.Bool.{Bool, false}
use Rattle.base.proofs.Steps.{or_no}
use Rattle.format.specs.Kdmv.{capacity_broken, grain_size_broken}
use Rattle.format.specs.Cowd.{cowd_sizes_broken}
use Rattle.format.specs.declared.CowdFields.{CowdFields}
use Rattle.format.specs.Judged.{Sized}
use Rattle.sizes.proofs.Sizes.{sized}

pub cowd_sized : {r : Bool} (k : CowdFields) → r ≡ cowd_sizes_broken k → r ≡ false → Sized k.capacity k.grain_size
cowd_sized k e f =
    let s = or_no (capacity_broken k.capacity) (grain_size_broken 1 k.grain_size) (sym e ∙ f) in
    sized 1 _ _ s.0 s.1
