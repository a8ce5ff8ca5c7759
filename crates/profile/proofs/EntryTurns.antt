-- How the comparison goes on from one part to the next, each premise as the code gives it.
use Prim.Native.Nat.{ℕ, ◌+◌, ◌*◌, ◌-◌, ◌≤◌, ◌<◌}
use mathlib.Core.Path.{◌≡◌, refl, sym, ap}
use mathlib.Core.List.{List}
use native.Mathlib.Omega.{arith}
use lib.ListN.{length}
use Rattle.base.specs.Numbers.{le_bytes}
use Rattle.base.specs.Bytes.{SameBytes, over, zeros}
use Rattle.base.proofs.SameBytes.{within}
use Rattle.base.proofs.Stands.{Stands}
use Rattle.base.proofs.Numbers.{le_ends}
use Rattle.base.proofs.Over.{zeros_ends}
use Rattle.format.specs.Grains.{grain_map}
use Rattle.format.specs.Layout.{table_count, tables_at, tables_end, header_bytes}
use Rattle.format.specs.declared.Kind.TheVariants.{Kdmv}
use Rattle.format.specs.declared.Header.{Header}
use Rattle.format.specs.declared.Refusal.TheVariants.{NotNormal}
use Rattle.format.proofs.Lengths.{header_length}
use Rattle.layout.proofs.PartSizes.{directory_fits}
use Rattle.laws.proofs.LayoutBack.{table_stands}
use Rattle.alike.specs.FirstOther.{FirstOther}
use Rattle.profile.specs.FormCompared.{form_of, compared, Published, AlikeTo}
use Rattle.profile.proofs.Parts.{part_same, part_other}
use Rattle.profile.proofs.LaidFront.{directory_unused, tables_inside}
use Rattle.profile.proofs.Stages.{sizes, image_long, form_header, header_as, laid_readable}
use Rattle.profile.proofs.Stages.{directory_inside}
use Rattle.std.specs.Prelude.{Err}

module _ {n : ℕ} {s : List ℕ} {h : Header} (a : AlikeTo n s h) where
  pub alike_as : (k : ℕ) → n ≡ k → AlikeTo k s h
  alike_as k e = rw e at a

  -- ---- one part more
  module _ (w : List ℕ) (stands : Stands (form_of s h) n w) (r : ℕ) (f : FirstOther s n w r) (end : ℕ) (e : n + length w ≡ end)
    where
      pub alike_on : end ≤ r → AlikeTo end s h
      alike_on l =
          record { published = a.published; same = part_same s (form_of s h) n w stands a.same r f end e l }

      pub alike_not : r < end → end ≤ length s → Err (NotNormal r) ≡ compared s h
      alike_not l room = part_other s (form_of s h) n w stands a.same r f h end e l room

  -- ---- what is alike up to an earlier place
  pub earlier : (k : ℕ) → k ≤ n → SameBytes s (form_of s h) 0 k
  earlier k l = within s (form_of s h) 0 n 0 k a.same (omega arith) (omega arith)

  pub directory_room : 512 ≤ n → 512 + 4 * table_count Kdmv h.capacity h.grain_size ≤ length s
  directory_room l = directory_inside s h a.published (earlier 512 l)

  pub tables_room : 512 + 4 * table_count Kdmv h.capacity h.grain_size ≤ n
      → 512 * tables_end Kdmv h.capacity h.grain_size ≤ length s
  tables_room l =
      tables_inside (sizes s h a.published) (grain_map s h) s (earlier _ l)
      (laid_readable s h a.published (earlier 512 (omega arith)))

-- ---- the header
module _ {s : List ℕ} {h : Header} (p : Published s h) (d x : List ℕ) (r : ℕ)
    (e : x ≡ over d 0 (header_bytes Kdmv h.capacity h.grain_size 0)) (l : length d ≡ 512) (f : FirstOther s 0 x r) where
  start : AlikeTo 0 s h
  start = record { published = p; same = λ k b n. absurd (omega arith) }

  pub header_on : 512 ≤ r → AlikeTo 512 s h
  header_on b =
      alike_on start _ (form_header s h p) r (header_as s h p d x r e l f) 512
      (omega (arith, header_length Kdmv h.capacity h.grain_size 0)) b

  pub header_not : r < 512 → Err (NotNormal r) ≡ compared s h
  header_not b =
      alike_not start _ (form_header s h p) r (header_as s h p d x r e l f) 512
      (omega (arith, header_length Kdmv h.capacity h.grain_size 0)) b (image_long s h p)

-- ---- the directory
module _ {s : List ℕ} {h : Header} (n d first r : ℕ) (a : AlikeTo (512 + 4 * d) s h)
    (i : n ≡ table_count Kdmv h.capacity h.grain_size) (e : first ≡ tables_at Kdmv h.capacity h.grain_size)
    (l : d < n) (f : FirstOther s (512 + 4 * d) (le_bytes 4 (first + 4 * d)) r) where
  table_there : Stands (form_of s h) (512 + 4 * d) (le_bytes 4 (first + 4 * d))
  table_there = rw e (table_stands Kdmv (sizes s h a.published) (grain_map s h) d (omega arith))

  pub table_on : 512 + 4 * d + 4 ≤ r → AlikeTo (512 + 4 * (d + 1)) s h
  table_on b = alike_on a _ table_there r f _ (le_ends _ 4 (first + 4 * d) _ (omega arith)) (omega arith)

  pub table_not : r < 512 + 4 * d + 4 → Err (NotNormal r) ≡ compared s h
  table_not b =
      alike_not a _ table_there r f (512 + 4 * d + 4) (le_ends _ 4 (first + 4 * d) _ refl) b
      (omega (arith, directory_room a (omega arith)))

-- ---- zeros after its entries
module _ {s : List ℕ} {h : Header} (n first r : ℕ) (a : AlikeTo (512 + 4 * table_count Kdmv h.capacity h.grain_size) s h)
    (i : n ≡ table_count Kdmv h.capacity h.grain_size) (e : first ≡ tables_at Kdmv h.capacity h.grain_size)
  where
    pub unused_fits : (512 + 4 * n ≤ 512 * first) × (512 * first ≤ length s)
    unfolding tables_end
    unused_fits = (
      omega (arith, directory_fits Kdmv h.capacity h.grain_size),
      omega (arith, tables_room a (omega arith)),
    )

    module _ (f : FirstOther s (512 + 4 * n) (zeros (512 * first - (512 + 4 * n))) r) where
      unused_there : Stands (form_of s h) (512 + 4 * n) (zeros (512 * first - (512 + 4 * n)))
      unused_there = rw (i, e) (directory_unused (sizes s h a.published) (grain_map s h))

      abbrev upto : AlikeTo (512 + 4 * n) s h
      upto = alike_as a _ (sym (ap (λ (k : ℕ). 512 + 4 * k) i))

      pub unused_on : 512 * first ≤ r → AlikeTo (512 * tables_at Kdmv h.capacity h.grain_size) s h
      unused_on b =
          alike_as
          (alike_on upto _ unused_there r f (512 * first) (zeros_ends _ _ _ (omega (arith, unused_fits.0))) b) _
          (ap (λ (k : ℕ). 512 * k) e)

      pub unused_not : r < 512 * first → Err (NotNormal r) ≡ compared s h
      unused_not b =
          alike_not upto _ unused_there r f (512 * first) (zeros_ends _ _ _ (omega (arith, unused_fits.0))) b unused_fits.1
