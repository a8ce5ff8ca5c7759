-- Two readings that agree in all that decides 9, 10 and 12: an image by a header, and another image by another one. Where the
-- one breaks none of the three, nor does the other.
use Prim.Native.Nat.{ℕ, ◌+◌, ◌≤◌, ◌<◌}
use mathlib.Core.Path.{◌≡◌, refl, sym, ap, ◌∙◌}
use mathlib.Core.List.{List, ◌++◌, append_assoc}
use mathlib.Core.Bool.{false}
use native.Mathlib.Omega.{arith}
use lib.ListN.{length}
use Rattle.base.proofs.Rows.{rows_same}
use Rattle.base.proofs.Steps.{and_both}
use Rattle.format.specs.Header.{grains_of}
use Rattle.format.specs.Entries.{grain_entry, grain_sectors, marker_size, marker_first, marker_broken}
use Rattle.format.specs.Areas.{Area, named, header_area, descriptor_area, directory_area, redundant_area, primary_tables}
use Rattle.format.specs.Areas.{redundant_tables, footer_area, last_area, grain_area, grain_areas, areas, holders, meet}
use Rattle.format.specs.Frame.{frame_areas}
use Rattle.format.specs.Check.{grain_past, marker_broken_at, bad_marker, lowest_past, lowest_bad_marker}
use Rattle.format.specs.declared.Header.{Header}
use Rattle.format.specs.declared.Entry.TheVariants.{Sector}
use Rattle.format.proofs.Areas.{holders_append, meet_apart, apart_meet}
use Rattle.format.proofs.Entries.{by_entry, sectors_same, some_sectors}
use Rattle.format.proofs.Held.{held_row, held_named}
use Rattle.format.proofs.LowestGrain.{none_lowest, lowest_none}
use Rattle.std.specs.Prelude.{None}

-- all areas are the frame's and the grains'
pub areas_frame : (s : List ℕ) (h : Header) → areas s h ≡ frame_areas s h ++ grain_areas s h
unfolding areas frame_areas
areas_frame s h = simp append_assoc

-- a sector lies in as many areas as those of the frame and of the grains that hold it
pub holders_areas : (s : List ℕ) (h : Header) (x : ℕ)
    → holders (areas s h) x ≡ holders (frame_areas s h) x + holders (grain_areas s h) x
holders_areas s h x = rw (areas_frame s h) (holders_append (frame_areas s h) (grain_areas s h) x)

-- the frame's by group
holders_eight : (a b c d e f g i : List Area) (x : ℕ) → holders (a ++ (b ++ (c ++ (d ++ (e ++ (f ++ (g ++ i))))))) x
    ≡ holders a x
    + (holders b x + (holders c x + (holders d x + (holders e x + (holders f x + (holders g x + holders i x))))))
holders_eight a b c d e f g i x = simp holders_append

pub holders_frame : (s : List ℕ) (h : Header) (x : ℕ) → holders (frame_areas s h) x
    ≡ holders (header_area h) x
    + (holders (descriptor_area h) x
    + (holders (directory_area h) x
    + (holders (redundant_area h) x
    + (holders (primary_tables s h) x
    + (holders (redundant_tables s h) x + (holders (footer_area s h) x + holders (last_area s h) x))))))
unfolding frame_areas
holders_frame s h x =
    holders_eight (header_area h) (descriptor_area h) (directory_area h) (redundant_area h) (primary_tables s h)
    (redundant_tables s h) (footer_area s h) (last_area s h) x

-- the same sizes and entries, frames that hold the same sectors, and outside the frame the same markers
pub record Alike (s : List ℕ) (g : Header) (m : List ℕ) (h : Header) : Type 0 where
  pub long : length s ≡ length m
  pub count : grains_of g ≡ grains_of h
  pub packed : g.packed ≡ h.packed
  pub size : g.grain_size ≡ h.grain_size
  pub some : 1 ≤ g.grain_size
  pub entries : (x : ℕ) → x < grains_of g → grain_entry s g x ≡ grain_entry m h x
  pub frames : (x : ℕ) → holders (frame_areas s g) x ≡ holders (frame_areas m h) x
  pub markers : (e : ℕ) → holders (frame_areas s g) e ≡ 0 → (marker_size s e ≡ marker_size m e)
      × (marker_first s e ≡ marker_first m e)

pub alike_back : {s m : List ℕ} {g h : Header} → Alike s g m h → Alike m h s g
alike_back {s} {m} {g} {h} a =
    record {
      long = sym a.long;
      count = sym a.count;
      packed = sym a.packed;
      size = sym a.size;
      some = rw (← a.size) a.some;
      entries = λ x l. sym (a.entries x (rw a.count l));
      frames = λ x. sym (a.frames x);
      markers = λ e n. let both = a.markers e (a.frames e ∙ n) in (sym both.0, sym both.1);
    }

-- 9, 10 and 12 are not given
pub record Unbroken (s : List ℕ) (g : Header) : Type 0 where
  pub grains : lowest_past s g ≡ None
  pub markers : lowest_bad_marker s g ≡ None
  pub apart : meet (areas s g) ≡ false

module _ (s : List ℕ) (g : Header) (m : List ℕ) (h : Header) (a : Alike s g m h) (r : Unbroken s g) where
  -- a grain's first sector lies in its own area, so in none of the frame's
  own_sector : (x e : ℕ) → x < grains_of g → grain_entry s g x ≡ Sector e → holders (frame_areas s g) e ≡ 0
  own_sector x e l q =
      let some = some_sectors s g.packed g.grain_size e a.some in
      let row = held_row (grain_area s g) e (grains_of g) x l in
      let sectors = grain_sectors s g.packed g.grain_size in
      let here = held_named sectors (grain_entry s g x) e e q (omega arith) (omega arith) in
      omega (arith, meet_apart (areas s g) r.apart e, holders_areas s g e)

  area_same : (x : ℕ) → x < grains_of g → grain_area s g x ≡ grain_area m h x
  unfolding named
  area_same x l =
      rw (← a.entries x l, ← a.packed, ← a.size)
      (by_entry (named (grain_sectors s g.packed g.grain_size)) (named (grain_sectors m g.packed g.grain_size))
      refl refl (grain_entry s g x)
      (λ e q.
      rw (sectors_same s m g.packed g.grain_size e (λ p. (a.markers e (own_sector x e l q)).0))))

  marker_same : (x : ℕ) → x < grains_of g → bad_marker s g x ≡ bad_marker m h x
  unfolding marker_broken_at marker_broken
  marker_same x l =
      rw (← a.entries x l, ← a.packed, ← a.size)
      (and_both g.packed _ _
      (λ p.
      by_entry (marker_broken_at s g.grain_size x) (marker_broken_at m g.grain_size x) refl refl (grain_entry s g x)
      (λ e q. let both = a.markers e (own_sector x e l q) in rw (both.0, both.1))))

  pub alike_unbroken : Unbroken m h
  alike_unbroken =
      record {
        grains = rw (← a.count)
            (lowest_none (grain_past m h) (grains_of g) (λ x l.
            rw (← area_same x l, ← a.long) (none_lowest (grain_past s g) (grains_of g) r.grains x l)));
        markers = rw (← a.count)
            (lowest_none (bad_marker m h) (grains_of g) (λ x l.
            sym (marker_same x l) ∙ none_lowest (bad_marker s g) (grains_of g) r.markers x l));
        apart = apart_meet (areas m h) (λ x.
            omega (
              arith,
              meet_apart (areas s g) r.apart x,
              holders_areas s g x,
              holders_areas m h x,
              a.frames x,
              grains_same x,
            ));
      }
    where
      grains_same : (x : ℕ) → holders (grain_areas s g) x ≡ holders (grain_areas m h) x
      grains_same x =
          rw (← a.count)
          (ap (λ (l : List Area). holders l x) (rows_same (grains_of g) (grain_area s g) (grain_area m h) area_same))
