-- Lists of areas put together, as a stretch takes them.
use Rattle.std.specs.Prelude.{◌≡◌, refl, List, [], ◌∷◌, ◌++◌}
use Rattle.format.specs.Areas.{Area}
use Rattle.ascent.specs.Ascend.{stretched, ascend}
use Rattle.ascent.specs.declared.Stretch.{Stretch}

pub ascend_append : (l m : List Area) (st : Stretch) → ascend st (l ++ m) ≡ ascend (ascend st l) m
unfolding ascend
ascend_append [] m st = refl
ascend_append (a ∷ l) m st = ascend_append l m (stretched st a)

pub ascend_none : (st : Stretch) → ascend st [] ≡ st
unfolding ascend
ascend_none st = refl

pub ascend_on : (l m : List Area) (a b c : Stretch) → b ≡ ascend a l → c ≡ ascend b m → c ≡ ascend a (l ++ m)
ascend_on l m a b c e q = rw (ascend_append l m a, ← e) q
