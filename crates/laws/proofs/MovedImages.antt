-- Moves keep each sector's kind and bytes, meet every layout rule of their kind, and there and back give the normal form of
-- where one started. Request A9. All is over the layout rules and the entry table.
use Prim.Native.Nat.{ℕ, ◌/◌, ◌%◌, ◌≤◌, ◌<◌}
use mathlib.Core.Path.{◌≡◌, refl, sym, ap, ◌∙◌}
use mathlib.Core.List.{List}
use mathlib.Core.Bool.{Bool, true, false, not, true≢false}
use lib.Dec.{ltb}
use lib.ListN.{length}
use borrow.Author.Tests.{ltb-false}
use Rattle.base.proofs.Steps.{or_no}
use Rattle.base.specs.Numbers.{le_at}
use Rattle.format.specs.Geometry.{file_sectors, grains}
use Rattle.format.specs.Header.{kdmv_header, cowd_header, header_of}
use Rattle.format.specs.Entries.{grain_entry}
use Rattle.format.specs.Accepted.{Capacity, GrainSize, Accepted}
use Rattle.format.specs.Accepted.Accepted.{kdmv, cowd}
use Rattle.format.specs.Grains.{grain_from}
use Rattle.format.specs.Layout.{Fits, layout_as, length_as}
use Rattle.format.specs.Collapse.{map_of, normal_form}
use Rattle.format.specs.Moves.{form_as, is_kind, not_taken, says_zero, zero_grain, zero_lost}
use Rattle.format.specs.declared.Kind.{Kind}
use Rattle.format.specs.declared.Kind.TheVariants.{Kdmv, Cowd}
use Rattle.format.specs.declared.Header.{Header}
use Rattle.format.specs.declared.Entry.{Entry}
use Rattle.format.specs.declared.Entry.TheVariants.{Absent, Zero, Sector}
use Rattle.format.proofs.Geometry.{grain_of_lem}
use Rattle.format.proofs.Grains.{grain_whole}
use Rattle.format.proofs.Entries.{some_no, no_some}
use Rattle.format.proofs.HeaderJudged.{kdmv_is, cowd_is}
use Rattle.laws.specs.Layers.{SameGrains}
use Rattle.laws.proofs.EntryOne.{no_zero_grain}
use Rattle.laws.specs.MovedImages.{Held, opposite, Movable, SameSector}
use Rattle.laws.proofs.LayoutNumbers.{Sizes, some_size}
use Rattle.laws.proofs.LayoutParts.{layout_length_lem}
use Rattle.laws.proofs.LayoutHeader.{laid_header, header_laid, sectors_read}
use Rattle.laws.proofs.LayoutBack.{map_read}
use Rattle.laws.proofs.LayoutAccepted.{file_sectors_lem, layout_accepted}
use Rattle.laws.proofs.CollapsedMaps.{layout_same}
use Rattle.laws.proofs.CollapsedSectors.{sector_in, told_same, source_tells}

-- ---- zero grains
-- a grain is one that COWD has an entry for exactly where its entry does not say zero
entry_held : (s : List ℕ) (c size g : ℕ) (e : Entry) → says_zero e ≡ false → Held Cowd (grain_from s c size g e)
unfolding says_zero grain_from
entry_held s c size g Absent q = tt
entry_held s c size g Zero q = true≢false q
entry_held s c size g (Sector e) q = tt

held_entry : (s : List ℕ) (c size g : ℕ) (e : Entry) → Held Cowd (grain_from s c size g e) → says_zero e ≡ false
unfolding says_zero grain_from
held_entry s c size g Absent w = refl
held_entry s c size g Zero w = absurd w
held_entry s c size g (Sector e) w = refl

-- an entry that is not zero does not say so
not_zero : (e : Entry) → (e ≡ Zero → ⊥) → says_zero e ≡ false
unfolding says_zero
not_zero Absent n = refl
not_zero Zero n = absurd (n refl)
not_zero (Sector e) n = refl

-- ---- an image that has a layout of a kind: accepted, uncompressed, its sizes KDMV's, and each grain one that the kind has
record Formed (kind : Kind) (s : List ℕ) : Type 0 where
  accepted : Accepted s
  plain : (header_of s).packed ≡ false
  sizes : Sizes (header_of s).capacity (header_of s).grain_size
  held : (g : ℕ) → g < grains (header_of s).capacity (header_of s).grain_size → Held kind (map_of s g)

own_fits : (s : List ℕ) → Fits (header_of s).capacity (header_of s).grain_size (map_of s)
own_fits s g b = grain_whole (header_of s).capacity (header_of s).grain_size g s _

module _ (kind : Kind) {s : List ℕ} (p : Formed kind s) where
  abbrev t : List ℕ
  t = form_as kind s

  form_header : header_of t ≡ laid_header kind (header_of s).capacity (header_of s).grain_size
  form_header = header_laid kind p.sizes (map_of s)

  form_accepted : Accepted t
  form_accepted = layout_accepted kind p.sizes (map_of s) p.held (own_fits s)

  form_map : SameGrains (header_of s).capacity (header_of s).grain_size (map_of t) (map_of s)
  form_map g h = map_read kind p.sizes (map_of s) (own_fits s) g h (p.held g h)

  form_capacity : (header_of t).capacity ≡ (header_of s).capacity
  form_capacity = ap (λ (h : Header). h.capacity) form_header

  form_size : (header_of t).grain_size ≡ (header_of s).grain_size
  form_size = ap (λ (h : Header). h.grain_size) form_header

  form_sector : (x : ℕ) → x < (header_of s).capacity → SameSector s t x
  form_sector x low =
      let size = (header_of s).grain_size in
      let b = source_tells t form_accepted (rw form_header) x (rw form_capacity low) in
      let g : x / size < _ = grain_of_lem (header_of s).capacity size (some_size p.sizes) x low in
      let q : sector_in (x % (header_of t).grain_size) (map_of t (x / (header_of t).grain_size))
      ≡ sector_in (x % size) (map_of s (x / size)) =
      ap (λ (z : ℕ). sector_in (x % z) (map_of t (x / z))) form_size ∙ ap (sector_in (x % size)) (form_map (x / size) g) in
      told_same (source_tells s p.accepted p.plain x low) (rw q at b)

  form_is : (other : Kind) → form_as other t ≡ layout_as other (header_of s).capacity (header_of s).grain_size (map_of t)
  form_is other = rw (form_capacity, form_size)

  -- its layout of any kind is the image's own
  form_form : (other : Kind) → form_as other t ≡ form_as other s
  form_form other = form_is other ∙ layout_same other _ _ (map_of t) (map_of s) form_map

-- ---- what moves take has a layout of either kind
accepted_capacity : (s : List ℕ) → Accepted s → Capacity (header_of s).capacity
unfolding kdmv_header cowd_header
accepted_capacity s (kdmv r a) = rw (kdmv_is s r) r.capacity
accepted_capacity s (cowd r a) = rw (cowd_is s r) r.capacity

accepted_size : (s : List ℕ) → Accepted s → 8 ≤ (header_of s).grain_size → GrainSize 8 (header_of s).grain_size
unfolding kdmv_header cowd_header
accepted_size s (kdmv r a) l = rw (kdmv_is s r) r.grain_size
accepted_size s (cowd r a) l =
    let z = r.grain_size in
    rw (cowd_is s r) (record { low = rw (cowd_is s r) at l; high = z.high; power = z.power })

not_no : (b : Bool) → not b ≡ false → b ≡ true
not_no true q = refl
not_no false q = absurd (true≢false q)

cowd_one : (s : List ℕ) → Accepted s → (header_of s).cowd ≡ true → (header_of s).one_is_zero ≡ false
unfolding kdmv_header cowd_header
cowd_one s (kdmv r a) q = absurd (true≢false (sym q ∙ ap (λ (h : Header). h.cowd) (kdmv_is s r)))
cowd_one s (cowd r a) q = ap (λ (h : Header). h.one_is_zero) (cowd_is s r)

module _ (kind : Kind) {s : List ℕ} (p : Movable kind s) where
  kinds : (is_kind kind (header_of s) ≡ false) × ((header_of s).packed ≡ false)
  kinds = or_no (is_kind kind (header_of s)) (header_of s).packed p.taken

  fit : (ltb (header_of s).grain_size 8 ≡ false) × (zero_lost kind s (header_of s) ≡ false)
  fit = or_no (ltb (header_of s).grain_size 8) (zero_lost kind s (header_of s)) p.held

  own_sizes : Sizes (header_of s).capacity (header_of s).grain_size
  own_sizes = record {
    capacity = accepted_capacity s p.accepted;
    grain_size = accepted_size s p.accepted (ltb-false _ _ fit.0);
  }

-- no grain is zero: on the way to COWD 44 has seen to it, and COWD has none
says_none : (kind : Kind) {s : List ℕ} → Movable kind s → (g : ℕ)
    → g < grains (header_of s).capacity (header_of s).grain_size → zero_grain s (header_of s) g ≡ false
says_none Kdmv {s} p g h =
    not_zero _ (no_zero_grain s (header_of s) (cowd_one s p.accepted (not_no _ (kinds Kdmv p).0)) g)
says_none Cowd {s} p g h = some_no (zero_grain s (header_of s)) _ (fit Cowd p).1 g h

formed : (other kind : Kind) {s : List ℕ} → Movable kind s → Formed other s
formed other kind {s} p = record {
  accepted = p.accepted;
  plain = (kinds kind p).1;
  sizes = own_sizes kind p;
  held = held_of other;
}
  where
    held_of : (other : Kind) (g : ℕ) → g < grains (header_of s).capacity (header_of s).grain_size → Held other (map_of s g)
    held_of Kdmv g h = tt
    held_of Cowd g h = entry_held s _ _ g (grain_entry s (header_of s) g) (says_none kind p g h)

-- ---- what was moved can be moved back
own_kind : (kind : Kind) (c size : ℕ) → is_kind kind (laid_header kind c size) ≡ true
own_kind Kdmv c size = refl
own_kind Cowd c size = refl

other_kind : (kind : Kind) (c size : ℕ) → not_taken (opposite kind) (laid_header kind c size) ≡ false
other_kind Kdmv c size = refl
other_kind Cowd c size = refl

none_lost : (kind : Kind) {s : List ℕ} → Movable kind s
    → zero_lost (opposite kind) (form_as kind s) (header_of (form_as kind s)) ≡ false
none_lost Cowd p = refl
none_lost Kdmv {s} p =
    let f = formed Kdmv Kdmv p in
    let t = form_as Kdmv s in
    no_some (zero_grain t (header_of t)) _
    (λ g h.
    let low : g < grains (header_of s).capacity (header_of s).grain_size = rw (form_capacity Kdmv f, form_size Kdmv f) at h in
    let w : Held Cowd (map_of t g) = rw (form_map Kdmv f g low) ((formed Cowd Kdmv p).held g low) in
    held_entry t _ _ g (grain_entry t (header_of t) g) w)

movable_back : (kind : Kind) {s : List ℕ} → Movable kind s → Movable (opposite kind) (form_as kind s)
movable_back kind p =
    let f = formed kind kind p in
    let h = form_header kind f in
    record {
      accepted = form_accepted kind f;
      taken = rw h (other_kind kind _ _);
      clean = rw h;
      held = rw (none_lost kind p, form_size kind f, (fit kind p).0);
    }

-- ---- the promises
module _ (kind : Kind) {s : List ℕ} (p : Movable kind s) where
  -- the result meets every layout rule of its kind, and has the same capacity and grain size
  pub moved_accepted : (Accepted (form_as kind s)) × (is_kind kind (header_of (form_as kind s)) ≡ true)
      × ((header_of (form_as kind s)).capacity ≡ (header_of s).capacity)
      × ((header_of (form_as kind s)).grain_size ≡ (header_of s).grain_size)
  moved_accepted =
      let f = formed kind kind p in
      (form_accepted kind f, rw (form_header kind f) (own_kind kind _ _), form_capacity kind f, form_size kind f)

  pub moved_length : length (form_as kind s) ≡ length_as kind (header_of s).capacity (header_of s).grain_size (map_of s)
  moved_length = layout_length_lem kind (own_sizes kind p) (map_of s) (own_fits s)

  -- each sector keeps its kind and bytes
  pub moved_sector : (x : ℕ) → x < (header_of s).capacity → SameSector s (form_as kind s) x
  moved_sector = form_sector kind (formed kind kind p)

  -- it can be moved back, which gives the normal form of where one started
  pub moved_movable : Movable (opposite kind) (form_as kind s)
  moved_movable = movable_back kind p

  pub there_and_back : form_as (opposite kind) (form_as kind s) ≡ form_as (opposite kind) s
  there_and_back = form_form kind (formed kind kind p) (opposite kind)

  -- a normal form of either kind is its own
  pub form_own : (other : Kind) → form_as other (form_as other s) ≡ form_as other s
  form_own other = form_form other (formed other kind p) other

-- from COWD to KDMV and back it is the COWD normal form, from KDMV to COWD and back document 01's normal form
pub cowd_and_back : {s : List ℕ} → Movable Kdmv s → form_as Cowd (form_as Kdmv s) ≡ form_as Cowd s
cowd_and_back p = there_and_back Kdmv p

pub kdmv_and_back : {s : List ℕ} → Movable Cowd s → form_as Kdmv (form_as Cowd s) ≡ normal_form s
kdmv_and_back p = there_and_back Cowd p

-- at offset 28 of what a move to COWD writes stands the file's length in sectors
pub sectors_told : {s : List ℕ} → Movable Cowd s → le_at (form_as Cowd s) 28 4 ≡ file_sectors (form_as Cowd s)
sectors_told {s} p =
    let f = formed Cowd Cowd p in
    sectors_read f.sizes (map_of s) ∙ sym (file_sectors_lem Cowd f.sizes (map_of s) f.held (own_fits s))
