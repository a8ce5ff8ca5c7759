-- Collapse and normal form answer 27 exactly where the checks, 23 and 22 let the images through and one was still open.
use Prim.Native.Nat.{ℕ, ◌≤◌}
use mathlib.Core.Path.{◌≡◌, refl, ◌∙◌}
use mathlib.Core.List.{List}
use mathlib.Core.Logic.{⊎_elim}
use mathlib.Core.Bool.{Bool, true, false, ◌||◌}
use native.Mathlib.Omega.{arith}
use lib.Dec.{ltb, lit≤}
use Rattle.base.specs.Pick.{pick}
use Rattle.format.specs.Header.{header_of}
use Rattle.format.specs.Check.{check}
use Rattle.format.specs.Chain.{unlike}
use Rattle.format.specs.Collapse.{if_accepted, not_collapsible, written_if_room, normal_from, normal, collapse_from, collapse}
use Rattle.format.specs.Answers.{number}
use Rattle.format.specs.declared.Refusal.{Refusal}
use Rattle.format.specs.declared.Refusal.TheVariants.{TooLittleRoom, LayersDiffer, NotCollapsible, StillOpen}
use Rattle.format.proofs.Picked.{pick_then, pick_else, passed}
use Rattle.laws.specs.StillOpen.{SomeAccepted, OpenImage, OpenImages}
use Rattle.laws.proofs.CheckRefusals.{check_refuses}
use Rattle.std.specs.Prelude.{Result, Ok, Err}
use Rattle.format.specs.declared.Shape.{Shape}

-- ---- the steps to an answer of 27
-- it is no answer of a check
was_checked : (s : List ℕ) (a : Result Shape Refusal) (b : Result ℕ Refusal) → check s ≡ a → if_accepted a b ≡ Err StillOpen
    → (SomeAccepted s) × (b ≡ Err StillOpen)
unfolding if_accepted
was_checked s (Err r) b e q =
    let is : r ≡ StillOpen = cc in
    absurd (⊎_elim (λ l. omega arith) (λ l. omega arith) (check_refuses s StillOpen (rw is at e)))
was_checked s (Ok sizes) b e q = ((sizes.capacity, sizes.grain_size, e), q)

-- nor one of a lower number
past : (b : Bool) (r : Refusal) (y : Result ℕ Refusal) → number r ≤ 26 → pick b (Err r) y ≡ Err StillOpen
    → (b ≡ false) × (y ≡ Err StillOpen)
past b r y low e =
    passed b (Err r) y (Err StillOpen)
    (λ q. let is : r ≡ StillOpen = cc in let less = rw is at low in omega arith)
    e

was_open : (b : Bool) (room long : ℕ) → pick b (Err StillOpen) (written_if_room room long) ≡ Err StillOpen → b ≡ true
unfolding written_if_room pick
was_open true room long e = refl
was_open false room long e =
    let l : Ok long ≡ Err StillOpen = (past (ltb room long) TooLittleRoom (Ok long) (lit≤ tt) e).1 in
    let z : ◌≡◌ {A = ℕ} 0 1 = cc in
    absurd (omega arith)

-- ---- normal form
module _ (s : List ℕ) (room : ℕ) where
  pub normal_open : normal s room ≡ Err StillOpen → OpenImage s
  unfolding normal_from
  normal_open e =
      let a = was_checked s (check s) _ refl e in
      let n = past (not_collapsible (header_of s)) NotCollapsible _ (lit≤ tt) a.1 in
      record { checked = a.0; collapsible = n.0; dirty = was_open _ room _ n.1 }

  pub open_normal : OpenImage s → normal s room ≡ Err StillOpen
  unfolding if_accepted normal_from
  open_normal p = rw p.checked.2 (pick_else _ _ _ p.collapsible ∙ pick_then _ _ _ p.dirty)

-- ---- collapse
module _ (lower upper : List ℕ) (room : ℕ) where
  pub collapse_open : collapse lower upper room ≡ Err StillOpen → OpenImages lower upper
  unfolding collapse_from
  collapse_open e =
      let a = was_checked lower (check lower) _ refl e in
      let b = was_checked upper (check upper) _ refl a.1 in
      let n = past (not_collapsible (header_of lower) || not_collapsible (header_of upper)) NotCollapsible _ (lit≤ tt)
      b.1 in
      let u = past (unlike (header_of lower) (header_of upper)) LayersDiffer _ (lit≤ tt) n.1 in
      record {
        lower_checked = a.0;
        upper_checked = b.0;
        collapsible = n.0;
        alike = u.0;
        dirty = was_open _ room _ u.1;
      }

  pub open_collapse : OpenImages lower upper → collapse lower upper room ≡ Err StillOpen
  unfolding if_accepted collapse_from
  open_collapse p =
      rw (p.lower_checked.2, p.upper_checked.2)
      (pick_else _ _ _ p.collapsible ∙ pick_else _ _ _ p.alike ∙ pick_then _ _ _ p.dirty)
