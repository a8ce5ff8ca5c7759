-- The tail's parts put together.
use Prim.Native.Nat.{ℕ, ◌+◌, ◌-◌, ◌*◌, ◌≤◌}
use mathlib.Core.Path.{◌≡◌, refl, ap, ◌∙◌}
use mathlib.Core.List.{List, ◌++◌, append_assoc}
use mathlib.Core.Bool.{false}
use mathlib.Core.Logic.{⊎_elim}
use native.Mathlib.Omega.{arith}
use lib.Dec.{ltb}
use lib.ListN.{length}
use borrow.Author.Tests.{lt-ltb, le-ltb}
use Rattle.base.specs.Pick.{pick}
use Rattle.base.specs.Numbers.{le_bytes}
use Rattle.base.specs.Bytes.{over, zeros}
use Rattle.base.specs.Rows.{rows, entry_bytes}
use Rattle.base.proofs.Steps.{lt_or_ge}
use Rattle.base.proofs.Over.{over_length, first, last, more, zeros_ends}
use Rattle.base.proofs.OverApart.{over_swap}
use Rattle.base.proofs.Rows.{rows_same}
use Rattle.format.specs.Geometry.{file_sectors}
use Rattle.format.specs.Header.{directory_entries_of}
use Rattle.format.specs.Stream.{overhead, KeptGrain, kept_grains}
use Rattle.format.specs.Tail.{tail_sectors, marker_bytes, table_parts, new_directory_entry, new_directory_bytes, footer_bytes}
use Rattle.format.specs.Tail.{has_grains, tail_bytes}
use Rattle.format.specs.Close.{tail_of}
use Rattle.format.specs.declared.Header.{Header}
use Rattle.format.proofs.StreamKept.{walk_ascends}
use Rattle.format.proofs.StreamEntries.{has_past}
use Rattle.layout.proofs.EntryRuns.{entries_long}
use Rattle.layout.proofs.Padded.{entries_padded}
use Rattle.walk.specs.Walked.{Tallied}
use Rattle.walk.specs.declared.Counted.{Counted}
use Rattle.tail.specs.TailPut.{Walking, with_rows, last_parts}
use Rattle.tail.proofs.TailBytes.{marker_length}
use Rattle.tail.proofs.TailRows.{tables_length}

regroup : (a m e z k f y : List ℕ) → a ++ m ++ e ++ z ++ (k ++ f ++ y) ≡ a ++ m ++ (e ++ z) ++ k ++ f ++ y
regroup a m e z k f y = simp append_assoc

module _ (s : List ℕ) (h : Header) (w : Walking s h) (n : ℕ) (is : n ≡ directory_entries_of h)
    (fits : n * 4 ≤ 512 * h.directory_sectors) where
  abbrev l : List KeptGrain
  l = kept_grains s h

  -- ---- the directory: an entry that is not in use has no grains
  unused : (end k : ℕ) → n ≤ k → new_directory_entry end l k ≡ 0
  unfolding pick
  unused end k b =
      let none : has_grains l k ≡ false =
      has_past s h w.walkable.sizes.low w.walkable.table
      (walk_ascends s h w.walkable.sizes.low (file_sectors s) (overhead s) 0) k (rw (← is) b) in
      rw none

  padded_same : (end k : ℕ) → new_directory_entry end l k ≡ pick (ltb k n) (new_directory_entry end l k) 0
  unfolding pick
  padded_same end k = ⊎_elim (λ b. rw (lt-ltb k n b)) (λ b. rw (le-ltb k n b) (unused end k b)) (lt_or_ge k n)

  directory_is : (end : ℕ) → new_directory_bytes h end l
      ≡ entry_bytes n (new_directory_entry end l) ++ zeros (512 * h.directory_sectors - 4 * n)
  unfolding new_directory_bytes
  directory_is end =
      let all = 128 * h.directory_sectors in
      let q : 4 * (all - n) ≡ 512 * h.directory_sectors - 4 * n = omega arith in
      rows_same all _ _ (λ k b. ap (le_bytes 4) (padded_same end k))
      ∙ entries_padded n (new_directory_entry end l) all (omega arith)
      ∙ rw q

  module _ (kept : Counted) (t : Tallied s h kept) (d : List ℕ) (room : 512 * tail_sectors h l ≤ length d) where
    abbrev T : ℕ
    T = kept.tables

    abbrev A : List ℕ
    A = rows n (table_parts l)

    abbrev E : List ℕ
    E = entry_bytes n (new_directory_entry kept.sectors l)

    abbrev M : List ℕ
    M = marker_bytes h.directory_sectors 2

    abbrev directory : ℕ
    directory = 2560 * T + 512

    A_length : length A ≡ 2560 * T
    A_length = tables_length l n ∙ rw (is, t.tables)

    A_room : length (over d 0 A) ≡ length d
    A_room = over_length d 0 A (omega (arith, A_length, t.tables))

    -- the marker goes below the directory that stands already
    swapped : (x₂ : List ℕ) → x₂ ≡ over (with_rows l kept.sectors directory n d) (directory - 512) M
        → x₂ ≡ over (over (over d 0 A) (2560 * T) M) directory E
    swapped x₂ p =
        let q : directory - 512 ≡ 2560 * T = omega arith in
        p ∙ rw q
        (over_swap (over d 0 A) M E (2560 * T) directory (omega (arith, marker_length h.directory_sectors 2))
        (omega (arith, A_room, entries_long (new_directory_entry kept.sectors l) n, t.tables)))

    tail_is : A ++ M ++ E ++ zeros (512 * h.directory_sectors - 4 * n)
        ++ last_parts s (kept.sectors + 5 * kept.tables + 1) ≡ tail_of s h
    unfolding tail_bytes last_parts rows
    tail_is =
        regroup A M E _ (marker_bytes 0 3) (footer_bytes s (kept.sectors + 5 * kept.tables + 1)) (zeros 512)
        ∙ rw (← directory_is kept.sectors, t.sectors, t.tables, is)

    pub tail_joined : (x₁ x₂ x₃ x₄ : List ℕ) → x₁ ≡ with_rows l kept.sectors directory n d
        → x₂ ≡ over x₁ (directory - 512) M
        → x₃ ≡ over x₂ (directory + 4 * n) (zeros (directory + 512 * h.directory_sectors - (directory + 4 * n)))
        → x₄ ≡ over x₃ (directory + 512 * h.directory_sectors) (last_parts s (kept.sectors + 5 * kept.tables + 1))
        → x₄ ≡ over d 0 (tail_of s h)
    tail_joined x₁ x₂ x₃ x₄ p₁ p₂ p₃ p₄ =
        let z : directory + 512 * h.directory_sectors - (directory + 4 * n) ≡ 512 * h.directory_sectors - 4 * n =
        omega arith in
        let w₁ = first d 0 (over d 0 A) A (2560 * T) refl (omega arith) (omega (arith, A_length)) in
        let w₂ = more d 0 (over (over d 0 A) (2560 * T) M) M (over d 0 A) A (2560 * T) directory refl w₁
        (omega (arith, marker_length h.directory_sectors 2)) in
        let w₃ = more d 0 x₂ E _ (A ++ M) directory (directory + 4 * n) (swapped x₂ (rw p₁ at p₂)) w₂
        (omega (arith, entries_long (new_directory_entry kept.sectors l) n)) in
        let w₄ = more d 0 x₃ _ x₂ _ (directory + 4 * n) (directory + 512 * h.directory_sectors) (rw z at p₃) w₃
        (zeros_ends (directory + 4 * n) _ (directory + 512 * h.directory_sectors) (omega arith)) in
        last d 0 x₄ _ x₃ _ (directory + 512 * h.directory_sectors) p₄ w₄ ∙ ap (over d 0) tail_is
