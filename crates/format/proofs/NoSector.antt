-- An entry that is no sector, as the last arm of a match tells it, is absent or zero.
use Prim.Native.Nat.{ℕ}
use mathlib.Core.Path.{◌≡◌, refl}
use mathlib.Core.Logic.{◌⊎◌, inl, inr}
use Rattle.format.specs.declared.Entry.{Entry}
use Rattle.format.specs.declared.Entry.TheVariants.{Absent, Zero, Sector}

pub no_sector : (v : Entry) → ((x : ℕ) → v ≡ Sector x → ⊥) → (v ≡ Absent) ⊎ (v ≡ Zero)
no_sector Absent other = inl refl
no_sector Zero other = inr refl
no_sector (Sector x) other = absurd (other x refl)
