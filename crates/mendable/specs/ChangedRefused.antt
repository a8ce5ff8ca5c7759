-- Whether the changed image would be refused, judged on the image itself as read from the good side.
use Rattle.std.specs.Prelude.{ℕ, List, Bool, true}
use Rattle.format.specs.Areas.{areas, meet}
use Rattle.format.specs.Check.{lowest_past, lowest_bad_marker}
use Rattle.format.specs.declared.Header.{Header}
use Rattle.std.specs.Prelude.{Option, Some, None}

unfoldable pub unless_none : Option ℕ → Bool → Bool
unless_none None rest = rest
unless_none (Some x) rest = true

-- 9, 10 and 12; 11 is mended
unfoldable pub changed_refused : List ℕ → Header → Bool
changed_refused s g = unless_none (lowest_past s g) (unless_none (lowest_bad_marker s g) (meet (areas s g)))
