-- What a search for a sector has found.
use Rattle.std.proofs.Common.{◌≡◌, ℕ, ◌+◌, ◌<◌, List, [], ◌∷◌, Bool, true, false, Option, None, Some, refl, sym, ◌∙◌, ap}
use native.Mathlib.Numerals.{add-one}
use lib.ListN.{length, get_or, drop}
use lib.Seq.{drop-cons}
use Rattle.std.specs.Prelude.{position, cond}
use Rattle.std.specs.List.{position_from}
use Rattle.std.proofs.lemmas.Iterator.Adapters.{position_from-zero}
use Rattle.base.specs.Pick.{pick}
use Rattle.descriptor.specs.declared.Extent.{Extent}
use Rattle.descriptor.specs.declared.Found.{Found}
use Rattle.descriptor.specs.Descriptor.{no_extent}
use Rattle.descriptor.specs.Records.{holding, found_at, not_found, found_from, find_answer}

-- the search from the record i on
module _ (ys : List Extent) (i s : ℕ) where
  pub found_here : i < length ys → found_from (drop i ys) i s
      ≡ pick (holding (get_or ys i no_extent) s) (found_at i) (found_from (drop (i + 1) ys) (i + 1) s)
  unfolding found_from
  found_here l = simp (drop-cons ys i no_extent l, add-one)

-- a record's number in an answer
abbrev pub told : Option ℕ → Found
told None = not_found
told (Some i) = found_at i

told_either : (b : Bool) (i : ℕ) (r : Option ℕ) → pick b (found_at i) (told r) ≡ told (cond b (Some i) r)
unfolding pick
told_either true i r = refl
told_either false i r = refl

told_from : (list : List Extent) (i sector : ℕ) → found_from list i sector ≡ told (position_from (λ e. holding e sector) i list)
unfolding found_from
told_from [] i sector = refl
told_from (e ∷ list) i sector =
    ap (pick (holding e sector) (found_at i)) (told_from list (i + 1) sector) ∙ told_either (holding e sector) i _

pub found_told : (list : List Extent) (sector : ℕ) (r : Option ℕ) → r ≡ position (λ e. holding e sector) list
    → told r ≡ find_answer list sector
found_told list sector r e = sym (told_from list 0 sector ∙ ap told (sym (e ∙ position_from-zero _ list)))
