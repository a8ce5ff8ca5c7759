-- A fault that was found, or none, as a match on it tells.
use mathlib.Core.Path.{◌≡◌}
use Rattle.format.specs.Header.{unless_fault}
use Rattle.format.specs.declared.Refusal.{Refusal}
use Rattle.std.specs.Prelude.{Result, Ok, Err}
use Rattle.format.specs.declared.Header.{Header}

module _ (z a : Result Header Refusal) (f e : Result (Unit {0}) Refusal) (is : f ≡ e) where
  pub fault_found : (r : Refusal) → f ≡ Err r → z ≡ Err r → z ≡ unless_fault e a
  unfolding unless_fault
  fault_found r q p = rw (← is, q) p

  pub fault_none : f ≡ (Ok tt) → z ≡ a → z ≡ unless_fault e a
  unfolding unless_fault
  fault_none q p = rw (← is, q) p
