-- A closed image closed again (request A12): the walk goes through the kept part as before and then through the tail, in
-- which no grain stands, up to the footer's marker. So it keeps the same grains, and the same image is written.
use Prim.Native.Nat.{ℕ, zero, suc, ◌+◌, ◌-◌, ◌*◌, ◌≤◌, ◌<◌}
use mathlib.Core.Path.{◌≡◌, refl, ap, ◌∙◌}
use mathlib.Core.List.{List, [], ◌∷◌}
use mathlib.Core.Bool.{true, false}
use mathlib.Core.Logic.{⊎_elim}
use native.Mathlib.Omega.{arith}
use Rattle.base.specs.SumsBelow.{sum_below}
use Rattle.base.proofs.Steps.{true_or_false}
use Rattle.base.proofs.Rows.{entries_length}
use Rattle.format.specs.Geometry.{file_sectors}
use Rattle.format.specs.Header.{start_of, directory_entries_of}
use Rattle.format.specs.Stream.{block_at, KeptGrain, kept_grain, walk_on, walk, kept_grains, grains_end, kept_sectors}
use Rattle.format.specs.Tail.{has_grains, tables_below, new_entry}
use Rattle.format.specs.Close.{closed_image}
use Rattle.format.specs.declared.Header.{Header}
use Rattle.format.specs.declared.closing.Block.{Block}
use Rattle.format.specs.declared.closing.Block.TheVariants.{Stop, Other, Grain}
use Rattle.format.proofs.Picked.{pick_then, pick_else}
use Rattle.format.proofs.StreamKept.{Told, block_told, walk_ascends}
use Rattle.laws.specs.Closed.{closed_directory}
use Rattle.laws.proofs.ClosedStart.{Closing, end_late, tail_stands}
use Rattle.laws.proofs.ClosedTail.{marker_stands, table_stands, directory_marker, footer_marker}
use Rattle.laws.proofs.ClosedHeader.{closed_sectors_lem}
use Rattle.laws.proofs.ClosedBlocks.{table_block, directory_block, footer_block, size_read, type_read, taken, kept_block}

-- ---- one block of a walk
module _ (s : List ℕ) (h : Header) (p next : ℕ) where
  -- where nothing is kept after a block, or it stops
  stop_none : block_at s h p next ≡ Stop → (m : ℕ) → walk s h m p next ≡ []
  unfolding walk walk_on
  stop_none e zero = refl
  stop_none e (suc m) = rw e

  other_none : (k : ℕ) → block_at s h p next ≡ Other k → ((m : ℕ) → walk s h m (p + k) next ≡ []) → (m : ℕ)
      → walk s h m p next ≡ []
  unfolding walk walk_on
  other_none k e f zero = refl
  other_none k e f (suc m) = rw e (f m)

module _ (s : List ℕ) (z : Closing s) where
  -- ---- the tail
  abbrev after : ℕ → ℕ
  after d = kept_sectors s (start_of s) + 5 * tables_below (kept_grains s (start_of s)) d

  last_none : (next m : ℕ) → walk (closed_image s) (start_of s) m (closed_directory s + (start_of s).directory_sectors) next
      ≡ []
  last_none next m =
      let t = footer_marker s (start_of s) _ _ z.started.long (tail_stands s z) in
      stop_none (closed_image s) (start_of s) _ next
      (footer_block (closed_image s) (start_of s) _ next (omega (arith, closed_sectors_lem s z))
      (size_read _ 0 3 t) (type_read _ 0 3 t (omega arith))) m

  directory_none : (next m : ℕ) → walk (closed_image s) (start_of s) m (after (directory_entries_of (start_of s))) next ≡ []
  directory_none next m =
      let p = after (directory_entries_of (start_of s)) in
      let k = 1 + (start_of s).directory_sectors in
      let t = directory_marker s (start_of s) _ _ z.started.long (tail_stands s z) in
      let e : closed_directory s + (start_of s).directory_sectors ≡ p + k = omega arith in
      other_none (closed_image s) (start_of s) p next k
      (directory_block (closed_image s) (start_of s) p next (omega (arith, closed_sectors_lem s z))
      (size_read p _ 2 t) (type_read p _ 2 t (omega arith)) (omega (arith, closed_sectors_lem s z)))
      (λ i. rw e at (last_none next i)) m

  -- table after table
  module _ (d : ℕ) where
    table_next : has_grains (kept_grains s (start_of s)) d ≡ true → after (suc d) ≡ after d + 5
    unfolding sum_below
    table_next t = rw (pick_then {A = ℕ} _ 1 0 t) (omega arith)

    none_next : has_grains (kept_grains s (start_of s)) d ≡ false → after (suc d) ≡ after d
    unfolding sum_below
    none_next f = rw (pick_else {A = ℕ} _ 1 0 f) (omega arith)

    module _ (low : d < directory_entries_of (start_of s)) (there : has_grains (kept_grains s (start_of s)) d ≡ true) where
      table_here : after d + 5 ≤ file_sectors (closed_image s)
      table_here =
          let t = table_stands s (start_of s) _ _ z.started.long (tail_stands s z) d low there in
          omega (arith, t.inside, entries_length 512 (new_entry (kept_grains s (start_of s)) d))

      table_is : (next : ℕ) → block_at (closed_image s) (start_of s) (after d) next ≡ Other 5
      table_is next =
          let t = marker_stands s (start_of s) _ _ z.started.long (tail_stands s z) d low there in
          table_block (closed_image s) (start_of s) (after d) next (omega (arith, table_here)) (size_read (after d) 4 1 t)
          (type_read (after d) 4 1 t (omega arith)) table_here

  tables_none : (i d : ℕ) → d + i ≡ directory_entries_of (start_of s) → (next m : ℕ)
      → walk (closed_image s) (start_of s) m (after d) next ≡ []
  tables_none zero d e next m =
      let q : directory_entries_of (start_of s) ≡ d = omega arith in rw q at (directory_none next m)
  tables_none (suc i) d e next m =
      ⊎_elim
      (λ t.
      other_none (closed_image s) (start_of s) (after d) next 5 (table_is d (omega arith) t next)
      (λ j. rw (table_next d t) at (tables_none i (suc d) (omega arith) next j)) m)
      (λ f. rw (none_next d f) at (tables_none i (suc d) (omega arith) next m))
      (true_or_false (has_grains (kept_grains s (start_of s)) d))

  -- from the kept part's end on no grain is kept
  tail_none : (p next m : ℕ) → p ≡ kept_sectors s (start_of s) → walk (closed_image s) (start_of s) m p next ≡ []
  unfolding sum_below
  tail_none p next m e =
      let q : after 0 ≡ p = omega arith in rw q at (tables_none (directory_entries_of (start_of s)) 0 (omega arith) next m)

  -- ---- the kept part
  one : 1 ≤ (start_of s).grain_size
  one = omega (arith, z.sizes.low)

  ends_late : (n p next : ℕ) → p ≤ grains_end p (walk s (start_of s) n p next)
  ends_late n p next = end_late s (start_of s) (walk_ascends s (start_of s) one n p next)

  walk_step : (b : Block) (p next m : ℕ) → block_at (closed_image s) (start_of s) p next ≡ b
      → walk (closed_image s) (start_of s) (suc m) p next ≡ walk_on b p next (walk (closed_image s) (start_of s) m)
  unfolding walk
  walk_step b p next m e = rw e

  -- a block of the kept part: as many sectors fewer are left
  go_on : (b : Block) (p next m : ℕ) → block_at s (start_of s) p next ≡ b → 1 ≤ taken b
      → p + taken b ≤ kept_sectors s (start_of s) → file_sectors (closed_image s) - p ≤ m
      → (i : ℕ) × (file_sectors (closed_image s) - (p + taken b) ≤ i)
      × (walk (closed_image s) (start_of s) m p next ≡ walk_on b p next (walk (closed_image s) (start_of s) i))
  go_on b p next zero q some low fuel = absurd (omega (arith, closed_sectors_lem s z))
  go_on b p next (suc m) q some low fuel =
      (m, omega arith, walk_step b p next m (kept_block s z p next (rw q (some, low)) ∙ q))

  abbrev pub Ends : ℕ → List KeptGrain → Type 0
  Ends p l = grains_end p l ≡ kept_sectors s (start_of s)

  abbrev pub WalkSame : ℕ → Type 0
  WalkSame n = (m p next : ℕ) → Ends p (walk s (start_of s) n p next) → file_sectors (closed_image s) - p ≤ m
      → walk (closed_image s) (start_of s) m p next ≡ walk s (start_of s) n p next

  module _ (n : ℕ) (same : WalkSame n) (p next m : ℕ) (fuel : file_sectors (closed_image s) - p ≤ m) where
    -- after a block of another kind grains follow, or none
    after_other : (k : ℕ) → 1 ≤ k → block_at s (start_of s) p next ≡ Other k → (l : List KeptGrain)
        → walk s (start_of s) n (p + k) next ≡ l → Ends p l → walk (closed_image s) (start_of s) m p next ≡ l
    unfolding grains_end walk_on taken
    after_other k some q [] w e = tail_none p next m e
    after_other k some q (j ∷ l) w e =
        let f : Ends (p + k) (walk s (start_of s) n (p + k) next) = rw w e in
        let r = go_on (Other k) p next m q some (omega (arith, ends_late n (p + k) next, f)) fuel in
        r.2 ∙ same r.0 (p + k) next f r.1 ∙ w

    after_block : (b : Block) → block_at s (start_of s) p next ≡ b → Told s (start_of s) p next b
        → Ends p (walk_on b p next (walk s (start_of s) n))
        → walk (closed_image s) (start_of s) m p next ≡ walk_on b p next (walk s (start_of s) n)
    unfolding grains_end walk_on taken
    after_block Stop q t e = tail_none p next m e
    after_block (Other k) q t e = after_other k t.0 q _ refl e
    after_block (Grain g k) q t e =
        let r = go_on (Grain g k) p next m q t.1.one (omega (arith, ends_late n (p + k) (g + 1), e)) fuel in
        r.2 ∙ ap (λ (l : List KeptGrain). kept_grain g p k ∷ l) (same r.0 (p + k) (g + 1) e r.1)

  pub walk_same : (n : ℕ) → WalkSame n
  unfolding walk grains_end
  walk_same zero m p next e fuel = tail_none p next m e
  walk_same (suc n) m p next e fuel =
      after_block n (walk_same n) p next m fuel (block_at s (start_of s) p next) refl
      (block_told s (start_of s) one p next) e
