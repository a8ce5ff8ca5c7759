-- Layers are not unlike exactly where capacity and grain size are the same.
use mathlib.Core.Path.{◌≡◌}
use mathlib.Core.Bool.{false}
use lib.Dec.{eqb}
use borrow.Author.Tests.{eqb-true, eq-eqb}
use Rattle.base.proofs.Steps.{and_yes, not_no}
use Rattle.format.specs.Chain.{unlike}
use Rattle.format.specs.declared.Header.{Header}

module _ (a b : Header) where
  pub like : a.capacity ≡ b.capacity → a.grain_size ≡ b.grain_size → unlike a b ≡ false
  unfolding unlike
  like e f = rw (eq-eqb a.capacity b.capacity e, eq-eqb a.grain_size b.grain_size f)

  pub alike : unlike a b ≡ false → (a.capacity ≡ b.capacity) × (a.grain_size ≡ b.grain_size)
  unfolding unlike
  alike e =
      let r = and_yes (eqb a.capacity b.capacity) (eqb a.grain_size b.grain_size) (not_no _ e) in
      (eqb-true _ _ r.0, eqb-true _ _ r.1)
