-- What is known of a start where 41 was not given.
use Prim.Native.Nat.{ℕ, ◌*◌, ◌≤◌}
use mathlib.Core.Path.{◌≡◌, sym, ◌∙◌}
use mathlib.Core.List.{List}
use mathlib.Core.Bool.{Bool, false}
use native.Mathlib.Omega.{arith}
use lib.Dec.{ltb}
use lib.ListN.{length}
use borrow.Author.Tests.{ltb-false}
use Rattle.base.proofs.Steps.{or_no}
use Rattle.base.proofs.Rounding.{ceil_most}
use Rattle.format.specs.Geometry.{file_sectors, directory_entries}
use Rattle.format.specs.Header.{directory_entries_of, judge_start}
use Rattle.format.specs.Stream.{overhead, kept_grains}
use Rattle.format.specs.Check.{descriptor_misplaced}
use Rattle.format.specs.Close.{no_stream, walk_misplaced, not_closable}
use Rattle.format.specs.declared.Header.{Header}
use Rattle.format.proofs.Geometry.{directory_room}
use Rattle.format.proofs.HeaderStart.{started, StartSizes, started_sizes}
use Rattle.format.proofs.TailLengths.{tables_most}
use Rattle.walk.specs.Walked.{Walkable, Tallied}
use Rattle.walk.specs.declared.Counted.{Counted}
use Rattle.tail.specs.TailPut.{Walking}
use Rattle.std.specs.Prelude.{Ok}

-- a header that is known has its sector 0
pub known_long : (s : List ℕ) (h : Header) → judge_start s ≡ Ok h → 512 ≤ length s
known_long s h e = (started s h e).long

-- ---- a stream that can be walked
module _ (s : List ℕ) (h : Header) where
  sizes_walkable : StartSizes h → Walkable h
  sizes_walkable z = record {
    sizes = record { low = omega (arith, z.low); high = z.high; small = z.small };
    table = z.table;
    few = z.few;
  }

  entries_fit : StartSizes h → directory_entries_of h * 4 ≤ 512 * h.directory_sectors
  entries_fit z =
      rw (z.room, z.table) (omega (arith, directory_room (directory_entries h.capacity 512 h.grain_size)))

  pub walking_of : {b : Bool} → judge_start s ≡ Ok h → b ≡ not_closable s h → b ≡ false
      → Walking s h × (directory_entries_of h * 4 ≤ 512 * h.directory_sectors)
  walking_of e c f =
      let a = or_no (no_stream h) _ (sym c ∙ f) in
      let m = or_no (walk_misplaced s) (descriptor_misplaced (overhead s) h) a.1 in
      let o = or_no (ltb 0x80000000 (file_sectors s)) _ m.0 in
      let p = or_no (ltb (overhead s) 2) (ltb (file_sectors s) (overhead s)) o.1 in
      let t = started s h e in
      let z = started_sizes s h t in (
        record {
          walkable = sizes_walkable z;
          some = omega (arith, t.long);
          starts = ltb-false (file_sectors s) (overhead s) p.1;
        },
        entries_fit z,
      )

-- ---- there are few tables
entries_few : (c size per : ℕ) → 1 ≤ per * size → directory_entries c per size ≤ c
unfolding directory_entries
entries_few c size per one = ceil_most c (per * size) one

pub tables_few : (s : List ℕ) (h : Header) → Walking s h → (kept : Counted) → Tallied s h kept → kept.tables ≤ 0x80000000
tables_few s h w kept t =
    let l = kept_grains s h in
    let most = tables_most l (directory_entries_of h) in
    let per : 1 ≤ h.entries_per_table * h.grain_size =
    rw w.walkable.table (omega (arith, w.walkable.sizes.low)) in
    omega (
      arith,
      t.tables,
      most,
      entries_few h.capacity h.grain_size h.entries_per_table per,
      w.walkable.sizes.small,
    )
