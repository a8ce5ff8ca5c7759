-- 11: copies do not differ exactly where the redundant directory and its tables say what the primary ones say.
use Prim.Native.Nat.{ℕ, ◌<◌}
use mathlib.Core.Path.{◌≡◌, refl, sym, ◌∙◌}
use mathlib.Core.List.{List}
use mathlib.Core.Bool.{false, true≢false}
use mathlib.Core.Logic.{⊎_elim}
use lib.Dec.{eqb}
use borrow.Author.Tests.{eqb-false, eq-eqb, ne_eqb}
use Rattle.base.proofs.Steps.{true_or_false}
use Rattle.format.specs.Header.{directory_entries_of}
use Rattle.format.specs.Entries.{entry_at, meaning_at, entries_in_use, any_below}
use Rattle.format.specs.Check.{copy_differs, entry_differs, copies_differ}
use Rattle.format.specs.Accepted.{SameEntry}
use Rattle.format.specs.Accepted.SameEntry.{absent, zero, tables}
use Rattle.format.specs.declared.Header.{Header}
use Rattle.format.specs.declared.Entry.{Entry}
use Rattle.format.specs.declared.Entry.TheVariants.{Absent, Zero, Sector}
use Rattle.format.proofs.Entries.{some_no, no_some}
use Rattle.format.proofs.Mistakes.{all_compared}
use Rattle.format.proofs.Picked.{pick_then, pick_else}

-- ---- two entries
copy_kept : (s : List ℕ) (n : ℕ) (a b : Entry) → copy_differs s n a b ≡ false → SameEntry s n a b
unfolding copy_differs
copy_kept s n Absent Absent e = absent
copy_kept s n Absent Zero e = absurd (true≢false e)
copy_kept s n Absent (Sector u) e = absurd (true≢false e)
copy_kept s n Zero Absent e = absurd (true≢false e)
copy_kept s n Zero Zero e = zero
copy_kept s n Zero (Sector u) e = absurd (true≢false e)
copy_kept s n (Sector t) Absent e = absurd (true≢false e)
copy_kept s n (Sector t) Zero e = absurd (true≢false e)
copy_kept s n (Sector t) (Sector u) e = tables (all_compared s t u n e)

kept_copy : {s : List ℕ} {n : ℕ} {a b : Entry} → SameEntry s n a b → copy_differs s n a b ≡ false
unfolding copy_differs
kept_copy absent = refl
kept_copy zero = refl
kept_copy {s} {n} (tables {t} {u} f) = no_some _ n (λ k l. rw (eq-eqb (entry_at s t k) (entry_at s u k) (f k l)))

-- ---- all that are in use
abbrev pub SameCopies : List ℕ → Header → Type 0
SameCopies s h =
    (h.redundant ≡ 0 → ⊥) → (d : ℕ) → d < directory_entries_of h
    → SameEntry s (entries_in_use h d) (meaning_at s h.one_is_zero h.directory d)
    (meaning_at s h.one_is_zero h.redundant d)

module _ (s : List ℕ) (h : Header) where
  pub copies_kept : copies_differ s h ≡ false → SameCopies s h
  unfolding copies_differ
  copies_kept e n d l =
      let q : any_below (entry_differs s h) (directory_entries_of h) ≡ false =
      sym (pick_else (eqb h.redundant 0) _ _ (ne_eqb h.redundant 0 n)) ∙ e in
      copy_kept s _ _ _ (some_no (entry_differs s h) (directory_entries_of h) q d l)

  pub kept_copies : SameCopies s h → copies_differ s h ≡ false
  unfolding copies_differ
  kept_copies f =
      ⊎_elim (λ z. pick_then _ _ _ z)
      (λ n. pick_else _ _ _ n ∙ no_some (entry_differs s h) (directory_entries_of h)
      (λ d l. kept_copy (f (eqb-false _ _ n) d l)))
      (true_or_false (eqb h.redundant 0))
