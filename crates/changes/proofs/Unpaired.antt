-- Two directory entries that do not both name a table: nothing is compared, and nothing written.
use Prim.Native.Nat.{ℕ, ◌≤◌}
use mathlib.Core.Path.{◌≡◌, refl}
use mathlib.Core.List.{List, []}
use native.Mathlib.Omega.{arith}
use Rattle.base.proofs.Rows.{rows_none}
use Rattle.format.specs.Mend.{over_table, change_of}
use Rattle.format.specs.declared.Entry.{Entry}
use Rattle.format.specs.declared.Entry.TheVariants.{Absent, Zero, Sector}
use Rattle.framing.specs.WordsPut.{WordsPut}
use Rattle.framing.proofs.WordsLaws.{put_none}
use Rattle.changes.specs.TableChanges.{differing_in, changes_in}

abbrev pub Unpaired : Entry → Entry → Type 0
Unpaired a b = (t u : ℕ) → a ≡ Sector t → b ≡ Sector u → ⊥

-- ---- what it tells
pub none_differs : (s : List ℕ) (n : ℕ) (a b : Entry) → Unpaired a b → (0 ≡ differing_in s n a b) × (0 ≤ n)
unfolding differing_in
none_differs s n Absent b p = (refl, omega arith)
none_differs s n Zero b p = (refl, omega arith)
none_differs s n (Sector t) Absent p = (refl, omega arith)
none_differs s n (Sector t) Zero p = (refl, omega arith)
none_differs s n (Sector t) (Sector u) p = absurd (p t u refl refl)

none_changes : (s : List ℕ) (first n : ℕ) (a b : Entry) → Unpaired a b → changes_in s first n a b ≡ []
unfolding change_of
none_changes s first n Absent b p = rows_none n _ (λ k l. refl)
none_changes s first n Zero b p = rows_none n _ (λ k l. refl)
none_changes s first n (Sector t) Absent p = rows_none n _ (λ k l. refl)
none_changes s first n (Sector t) Zero p = rows_none n _ (λ k l. refl)
none_changes s first n (Sector t) (Sector u) p = absurd (p t u refl refl)

pub none_put : (s : List ℕ) (first n at : ℕ) (d : List ℕ) (a b : Entry) → Unpaired a b
    → WordsPut (changes_in s first n a b) d at d at
none_put s first n at d a b p = rw (none_changes s first n a b p) (put_none d at)

pub none_written : (s : List ℕ) (n : ℕ) (m : List ℕ) (a b : Entry) → Unpaired a b → m ≡ over_table s n a b m
unfolding over_table
none_written s n m Absent b p = refl
none_written s n m Zero b p = refl
none_written s n m (Sector t) Absent p = refl
none_written s n m (Sector t) Zero p = refl
none_written s n m (Sector t) (Sector u) p = absurd (p t u refl refl)
