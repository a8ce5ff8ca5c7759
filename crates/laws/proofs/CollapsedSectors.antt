-- A sector of a layer is that sector of its grain: what its source tells is what the grain map says.
use Prim.Native.Nat.{ℕ, ◌+◌, ◌*◌, ◌/◌, ◌%◌, ◌≤◌, ◌<◌}
use mathlib.Core.Path.{◌≡◌, refl, sym, ap, ◌∙◌}
use mathlib.Core.Bool.{false}
use mathlib.Core.List.{List}
use native.Mathlib.Omega.{arith}
use native.Mathlib.Nat.{mod-lt, div-add-mod'}
use lib.ListN.{length, drop, length-take, length-drop}
use lib.Seq.{get_or-take, get_or-drop, ext_get_or}
use Rattle.base.specs.Pick.{pick}
use Rattle.format.specs.Geometry.{file_sectors, bytes_at}
use Rattle.format.specs.Header.{header_of}
use Rattle.format.specs.Entries.{grain_sectors}
use Rattle.format.specs.Areas.{named, runs_past}
use Rattle.format.specs.Accepted.{Accepted}
use Rattle.format.specs.Accepted.Accepted.{kdmv}
use Rattle.format.specs.Source.{grain_source, entry_source, source_of, sector_lookup}
use Rattle.format.specs.Grains.{Grain, absent, zeroed, stored, upper_unless_absent, clip, grain_from}
use Rattle.format.specs.Collapse.{map_of}
use Rattle.format.specs.declared.Entry.{Entry}
use Rattle.format.specs.declared.Entry.TheVariants.{Absent as no_entry, Zero as zero_entry, Sector}
use Rattle.format.specs.declared.Source.{Source}
use Rattle.format.specs.declared.Source.TheVariants.{Absent, Zero, Stored}
use Rattle.format.proofs.BytesAt.{part_long}
use Rattle.format.proofs.Inside.{named_in}
use Rattle.laws.specs.Layers.{Layer}
use Rattle.laws.specs.Served.{SameSource, absent as same_absent, zero as same_zero, stored as same_stored}
use Rattle.laws.proofs.ServedLookup.{grain_in}
use Rattle.laws.proofs.ServedSectors.{either_good, served}
use Rattle.format.proofs.Grains.{clip_length, clip_below}
use Rattle.laws.proofs.CollapsedLayers.{layer_accepted, capacity_is, size_is, unpacked}
use Rattle.std.specs.Prelude.{Ok}

-- sector o of a grain
unfoldable pub sector_in : ℕ → Grain → Grain
sector_in o absent = absent
sector_in o zeroed = zeroed
sector_in o (stored b) = stored (bytes_at b (512 * o) 512)

pub sector_onto : (o : ℕ) (a b : Grain) → sector_in o (upper_unless_absent a b) ≡ upper_unless_absent (sector_in o a)
    (sector_in o b)
unfolding sector_in upper_unless_absent
sector_onto o a absent = refl
sector_onto o a zeroed = refl
sector_onto o a (stored b) = refl

-- ---- what a source in image s tells of a sector: absent, zero, or its 512 bytes
pub data Tells (s : List ℕ) : Source → Grain → Type 0 where
  tells_absent : Tells s Absent absent
  tells_zero : Tells s Zero zeroed
  tells_stored : {a : ℕ} {b : List ℕ} → bytes_at s (512 * a) 512 ≡ b → length b ≡ 512 → Tells s (Stored a) (stored b)

-- two that tell the same are the same
pub told_same : {s t : List ℕ} {a b : Source} {g : Grain} → Tells s a g → Tells t b g → SameSource s t a b
told_same tells_absent tells_absent = same_absent
told_same tells_zero tells_zero = same_zero
told_same (tells_stored e l) (tells_stored f k) = same_stored (e ∙ sym f) (ap length e ∙ l)

-- ---- sector o of the grain that stands at file sector e is file sector e + o
module _ (s : List ℕ) (c size g o : ℕ) (low : o < size) (below : g * size + o < c) where
  sector_bytes : (e : ℕ) → e + size ≤ file_sectors s
      → bytes_at s (512 * (e + o)) 512 ≡ bytes_at (clip c size g (drop (512 * e) s)) (512 * o) 512
  sector_bytes e h =
      ext_get_or 0 _ _ (simp (length-take, length-drop, clip_length) (omega arith))
      (λ i b.
      let r : i < 512 = omega (arith, simp length-take at b) in
      let q : 512 * (e + o) + i ≡ 512 * e + (512 * o + i) = omega arith in
      rw (
        get_or-take 512 (drop (512 * (e + o)) s) i 0 r,
        get_or-take 512 (drop (512 * o) (clip c size g (drop (512 * e) s))) i 0 r,
        get_or-drop (512 * (e + o)) s i 0,
        get_or-drop (512 * o) (clip c size g (drop (512 * e) s)) i 0,
        clip_below c size g (drop (512 * e) s) (512 * o + i) (omega arith) (omega arith),
        get_or-drop (512 * e) s (512 * o + i) 0,
        q,
      ))

  entry_tells : (d : Entry) → runs_past (file_sectors s) (named (grain_sectors s false size) d) ≡ false
      → Tells s (entry_source s false o d) (sector_in o (grain_from s c size g d))
  unfolding entry_source grain_source grain_from grain_sectors sector_in pick
  entry_tells no_entry p = tells_absent
  entry_tells zero_entry p = tells_zero
  entry_tells (Sector e) p =
      let h : e + size ≤ file_sectors s = named_in (file_sectors s) (grain_sectors s false size) e p in
      tells_stored (sector_bytes e h)
      (part_long (clip c size g (drop (512 * e) s)) (512 * o) 512 (rw clip_length (omega arith)))

-- ---- of an accepted, uncompressed image of either kind: its source tells what the map says
pub source_tells : (s : List ℕ) → Accepted s → (header_of s).packed ≡ false → (x : ℕ) → x < (header_of s).capacity
    → Tells s (source_of s (header_of s) x) (sector_in (x % (header_of s).grain_size) (map_of s (x / (header_of s).grain_size)))
source_tells s a plain x low =
    let good = either_good s a in
    let sound = good.0 in
    let h = header_of s in
    let inside = grain_in s h sound.sizes.low sound.some good.1 x low in
    rw plain
    (entry_tells s h.capacity h.grain_size (x / h.grain_size) (x % h.grain_size) (mod-lt x sound.sizes.low)
    (rw div-add-mod' low) _ (rw plain at inside))

pub layer_tells : {c size : ℕ} {s : List ℕ} → Layer c size s → (x : ℕ) → x < c
    → Tells s (source_of s (header_of s) x) (sector_in (x % size) (map_of s (x / size)))
layer_tells {s = s} p x low =
    let a = layer_accepted p in
    rw (← size_is p) (source_tells s (kdmv a.rules a.areas) (unpacked p) x (rw (capacity_is p) low))

-- ---- the lookup finds what the map says
pub record Looked (s : List ℕ) (x : ℕ) (g : Grain) : Type 0 where
  pub source : Source
  pub found : sector_lookup s x ≡ Ok source
  pub tells : Tells s source g

pub looked : {c size : ℕ} {s : List ℕ} → Layer c size s → (x : ℕ) → x < c
    → Looked s x (sector_in (x % size) (map_of s (x / size)))
looked {s = s} p x low = record {
  source = source_of s (header_of s) x;
  found = served s (layer_accepted p) x (rw (capacity_is p) low);
  tells = layer_tells p x low;
}
