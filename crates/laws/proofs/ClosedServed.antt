-- A closed image serves exactly the kept grains (request A12), each packed from where it stood; all else is absent.
use Prim.Native.Nat.{ℕ, ◌+◌, ◌*◌, ◌/◌, ◌%◌, ◌≤◌, ◌<◌}
use mathlib.Core.Path.{◌≡◌, ap, ◌∙◌}
use mathlib.Core.List.{List}
use mathlib.Core.Bool.{Bool, true}
use mathlib.Core.Logic.{⊎_elim}
use native.Mathlib.Omega.{arith}
use Rattle.base.specs.Pick.{pick}
use Rattle.base.proofs.SameBytes.{within}
use Rattle.format.specs.Geometry.{bytes_at}
use Rattle.format.specs.Header.{kdmv_header, header_of, start_of, grains_of}
use Rattle.format.specs.Entries.{marker_size, grain_sectors}
use Rattle.format.specs.Source.{grain_source, entry_source, source_of, sector_lookup, answer_bytes, read}
use Rattle.format.specs.Stream.{KeptGrain, kept_grains, kept_sectors}
use Rattle.format.specs.Close.{closed_image}
use Rattle.format.specs.declared.Entry.{Entry}
use Rattle.format.specs.declared.Entry.TheVariants.{Absent as no_entry, Sector}
use Rattle.format.specs.declared.Source.TheVariants.{Absent, Packed}
use Rattle.format.proofs.Geometry.{grain_of_lem}
use Rattle.format.proofs.BytesAt.{part_alike}
use Rattle.laws.specs.Closed.{Closable, Among, closed_header}
use Rattle.laws.proofs.ServedSectors.{served}
use Rattle.laws.proofs.ClosedStart.{Closing, closing, kept_here, kept_same}
use Rattle.laws.proofs.ClosedHeader.{header_closed, packed_closed, closed_length}
use Rattle.laws.proofs.ClosedGrains.{entry_cases, size_same, kept_lies, kept_entry_lem, other_entry_lem}
use Rattle.laws.proofs.ClosedAccepted.{image_accepted}
use Rattle.std.specs.Prelude.{Ok}

-- a source, by its entry
packed_source : (s : List ℕ) (packed : Bool) (o e : ℕ) (d : Entry) → packed ≡ true → d ≡ Sector e
    → entry_source s packed o d ≡ Packed e (marker_size s e) o
unfolding entry_source grain_source pick
packed_source s packed o e d t q = rw (t, q)

absent_source_lem : (s : List ℕ) (packed : Bool) (o : ℕ) (d : Entry) → d ≡ no_entry → entry_source s packed o d ≡ Absent
unfolding entry_source
absent_source_lem s packed o d q = rw q

module _ (s : List ℕ) (c : Closable s) (x : ℕ) (low : x < (start_of s).capacity) where
  z : Closing s
  z = closing s c

  below : x < (header_of (closed_image s)).capacity
  unfolding kdmv_header
  below = rw (header_closed s z) low

  found : sector_lookup (closed_image s) x ≡ Ok (source_of (closed_image s) (closed_header s) x)
  found = rw (header_closed s z) at (served (closed_image s) (image_accepted s z) x below)

  -- a sector of a kept grain: packed, from the marker where it stood, with the size that it told
  module _ {k : KeptGrain} (m : Among k (kept_grains s (start_of s))) (is : x / (start_of s).grain_size ≡ k.number) where
    here : k.sector < kept_sectors s (start_of s)
    here = let r = kept_lies s z m in omega (arith, r.to, r.whole.one)

    -- all its bytes lie in the kept part
    long : 512 * k.sector + 12 + marker_size s k.sector ≤ 512 * kept_sectors s (start_of s)
    unfolding grain_sectors pick
    long = let r = kept_lies s z m in omega (arith, r.to, r.whole.takes)

    source_is : source_of (closed_image s) (closed_header s) x
        ≡ Packed k.sector (marker_size s k.sector) (x % (start_of s).grain_size)
    unfolding kdmv_header
    source_is =
        packed_source (closed_image s) (closed_header s).packed _ k.sector _ (packed_closed s z) (rw is (kept_entry_lem s z m))
        ∙ ap (λ (n : ℕ). Packed k.sector n (x % (start_of s).grain_size)) (size_same s z k.sector here)

    pub closed_packed : sector_lookup (closed_image s) x
        ≡ Ok (Packed k.sector (marker_size s k.sector) (x % (start_of s).grain_size))
    closed_packed = found ∙ ap Ok source_is

    -- the reader gives the bytes that stood behind the marker in what was lent
    pub closed_bytes : read (closed_image s) x ≡ bytes_at s (512 * k.sector + 12) (marker_size s k.sector)
    unfolding answer_bytes
    closed_bytes =
        ap (answer_bytes (closed_image s)) closed_packed
        ∙ part_alike (closed_image s) s (512 * k.sector + 12) (marker_size s k.sector)
        (omega (arith, long, closed_length s z)) (omega (arith, long, kept_here s z))
        (within (closed_image s) s 0 _ (512 * k.sector + 12) _ (kept_same s z) (omega arith) (omega (arith, long)))

  -- a sector of any other grain
  pub closed_absent : ((k : KeptGrain) → Among k (kept_grains s (start_of s)) → k.number ≡ x / (start_of s).grain_size → ⊥)
      → sector_lookup (closed_image s) x ≡ Ok Absent
  unfolding kdmv_header
  closed_absent other =
      let g = x / (start_of s).grain_size in
      let used : g < grains_of (start_of s) =
      grain_of_lem (start_of s).capacity (start_of s).grain_size (omega (arith, z.sizes.low)) x low in
      found
      ∙ ap Ok
      (absent_source_lem (closed_image s) (closed_header s).packed _ _
      (⊎_elim (λ none. other_entry_lem s z g used none) (λ r. absurd (other r.0 r.1 r.2))
      (entry_cases (kept_grains s (start_of s)) g)))
