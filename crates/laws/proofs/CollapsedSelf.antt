-- Collapse of an image with itself answers and writes what its normal form does, whatever the image is. Demand 3.
use Prim.Native.Nat.{ℕ}
use mathlib.Core.Path.{◌≡◌, refl, ap, fun_ext, ◌∙◌}
use mathlib.Core.List.{List}
use mathlib.Core.Bool.{or_self}
use lib.ListN.{length}
use Rattle.base.specs.Pick.{pick}
use Rattle.format.specs.Header.{header_of}
use Rattle.format.specs.Check.{check}
use Rattle.format.specs.Grains.{Map, merge}
use Rattle.format.specs.Collapse.{map_of, if_accepted, not_collapsible, still_open, normal_from, normal, collapse_from}
use Rattle.format.specs.Collapse.{collapse}
use Rattle.format.specs.Collapse.{laid_out, output, normal_output, collapse_output}
use Rattle.format.specs.declared.Header.{Header}
use Rattle.format.proofs.Grains.{onto_self}
use Rattle.format.proofs.LayersAt.{like}
use Rattle.std.specs.Prelude.{Result, Ok, Err}
use Rattle.format.specs.declared.Shape.{Shape}
use Rattle.format.specs.declared.Refusal.{Refusal}

merge_self : (m : Map) → merge m m ≡ m
merge_self m = fun_ext (λ g. onto_self (m g))

accepted_self : (a : Result Shape Refusal) (x : Result ℕ Refusal) → if_accepted a (if_accepted a x) ≡ if_accepted a x
unfolding if_accepted
accepted_self (Err r) x = refl
accepted_self (Ok sizes) x = refl

from_self : (h : Header) (m : Map) (room : ℕ) → collapse_from h h (merge m m) room ≡ normal_from h m room
unfolding collapse_from normal_from pick
from_self h m room = rw (merge_self m, or_self (not_collapsible h), like h h refl refl, or_self (still_open h))

module _ (s : List ℕ) where
  pub collapse_self : (room : ℕ) → collapse s s room ≡ normal s room
  collapse_self room =
      accepted_self (check s) _ ∙ ap (if_accepted (check s)) (from_self (header_of s) (map_of s) room)

  pub collapse_self_output : (out : List ℕ) → collapse_output s s out ≡ normal_output s out
  collapse_self_output out =
      rw (collapse_self (length out))
      (ap (λ (m : Map). output (normal s (length out)) (laid_out (header_of s) m) out) (merge_self (map_of s)))
