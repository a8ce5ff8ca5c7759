-- Two different virtual sectors never come from the same sector of the same layer, since no file sector lies in two areas. Two
-- packed grains never share a byte, for the same reason.
use Prim.Native.Nat.{ℕ, ◌+◌, ◌/◌, ◌%◌, ◌≤◌, ◌<◌}
use mathlib.Core.Path.{◌≡◌, sym, ◌∙◌}
use mathlib.Core.List.{List}
use mathlib.Core.Bool.{true}
use mathlib.Core.Logic.{⊎_elim}
use native.Mathlib.Omega.{arith}
use native.Mathlib.Nat.{div-add-mod', mod-lt}
use Rattle.base.specs.Pick.{pick}
use Rattle.base.proofs.Steps.{lt_or_ge}
use Rattle.format.specs.Header.{header_of, grains_of}
use Rattle.format.specs.Entries.{grain_sectors}
use Rattle.format.specs.Areas.{grain_area, areas, holders}
use Rattle.format.specs.Frame.{frame_areas}
use Rattle.format.specs.Check.{check}
use Rattle.format.specs.declared.Header.{Header}
use Rattle.format.specs.declared.Entry.TheVariants.{Sector}
use Rattle.format.proofs.Geometry.{grain_of_lem}
use Rattle.format.proofs.Held.{held_row, held_rows, held_named}
use Rattle.format.proofs.ReadAlike.{holders_areas}
use Rattle.laws.proofs.AcceptedImage.{accepted_sound}
use Rattle.laws.proofs.ServedSectors.{Good, accepted_good}
use Rattle.laws.specs.Coverage.{Uncompressed, own_entry, ComesFrom, PayloadByte}
use Rattle.format.specs.AnswerParts.{accepted_as}

-- ---- one accepted image
module _ (s : List ℕ) (c size : ℕ) (e : check s ≡ accepted_as c size) where
  abbrev h : Header
  h = header_of s

  good : Good s h
  good = accepted_good s (accepted_sound s c size e).0

  -- sector x lies in the area of grain g
  abbrev In : ℕ → ℕ → Type 0
  In g x = (g < grains_of h) × (first : ℕ) × (own_entry s g ≡ Sector first) × (first ≤ x)
      × (x < first + grain_sectors s h.packed h.grain_size first)

  in_held : (g x : ℕ) → In g x → holders (grain_area s h g) x ≡ 1
  in_held g x i =
      held_named (grain_sectors s h.packed h.grain_size) (own_entry s g) i.1 x i.2 i.3 i.4

  most : (x : ℕ) → holders (areas s h) x ≤ 1
  most = good.areas.apart

  -- no sector lies in two grains
  two_below : (g k x : ℕ) → g < k → In g x → In k x → ⊥
  two_below g k x l a b =
      omega (
        arith,
        most x,
        holders_areas s h x,
        held_rows (grain_area s h) x (grains_of h) g k l b.0,
        in_held g x a,
        in_held k x b,
      )

  pub grains_apart : (g k x : ℕ) → In g x → In k x → g ≡ k
  grains_apart g k x a b =
      ⊎_elim (λ l. absurd (two_below g k x l a b))
      (λ l. ⊎_elim (λ m. absurd (two_below k g x m b a)) (λ m. omega arith) (lt_or_ge k g)) (lt_or_ge g k)

  -- a sector of a grain lies in no area of the frame, and in one area in all
  pub grain_alone : (g x : ℕ) → In g x → (holders (areas s h) x ≡ 1) × (holders (frame_areas s h) x ≡ 0)
  grain_alone g x a = (
    omega (arith, most x, holders_areas s h x, held_row (grain_area s h) x (grains_of h) g a.0, in_held g x a),
    omega (arith, most x, holders_areas s h x, held_row (grain_area s h) x (grains_of h) g a.0, in_held g x a),
  )

-- ---- a stored sector of an uncompressed image
module _ (s : List ℕ) (c size : ℕ) (u : Uncompressed c size s) where
  pub size_is : (header_of s).grain_size ≡ size
  size_is = sym (accepted_sound s c size u.accepted).2

  pub capacity_is : (header_of s).capacity ≡ c
  capacity_is = sym (accepted_sound s c size u.accepted).1

  some : 1 ≤ size
  some = rw size_is at (good s c size u.accepted).sound.sizes.low

  -- virtual sector x, whose grain's entry is `first`
  sector_in_lem : (x first : ℕ) → x < c → own_entry s (x / size) ≡ Sector first
      → In s c size u.accepted (x / size) (first + x % size)
  unfolding grain_sectors pick
  sector_in_lem x first l is = (
    rw (capacity_is, size_is) (grain_of_lem c size some x l),
    first,
    is,
    omega arith,
    rw (u.unpacked, size_is) (omega (arith, mod-lt x some)),
  )

  pub sector_once : (x y a b : ℕ) → x < c → y < c → own_entry s (x / size) ≡ Sector a → own_entry s (y / size) ≡ Sector b
      → a + x % size ≡ b + y % size → x ≡ y
  sector_once x y a b l m is js same =
      let grain = grains_apart s c size u.accepted (x / size) (y / size) (a + x % size) (sector_in_lem x a l is)
      (rw same (sector_in_lem y b m js)) in
      let entry : Sector a ≡ Sector b = sym is ∙ rw grain js in
      let first : a ≡ b = cc in
      let rest : x % size ≡ y % size = omega arith in
      sym (div-add-mod' x size) ∙ rw (grain, rest) (div-add-mod' y size)

-- ---- a chain of layers
pub no_sector_twice : (n : ℕ) (layer : ℕ → List ℕ) (c size : ℕ) → ((k : ℕ) → k < n → Uncompressed c size (layer k))
    → (x y k e : ℕ) → x < c → y < c → (x ≡ y → ⊥) → ComesFrom n layer size x k e → ComesFrom n layer size y k e → ⊥
no_sector_twice n layer c size all x y k e l m differ a b =
    differ
    (sector_once (layer k) c size (all k a.inside) x y a.first b.first l m a.stored b.stored
    (sym a.is ∙ b.is))

-- the sector that is served lies in one area of its layer, and in none but the grain's
pub served_alone : (n : ℕ) (layer : ℕ → List ℕ) (c size : ℕ) → ((k : ℕ) → k < n → Uncompressed c size (layer k))
    → (x k e : ℕ) → x < c → ComesFrom n layer size x k e
    → (holders (areas (layer k) (header_of (layer k))) e ≡ 1) × (holders (frame_areas (layer k) (header_of (layer k))) e ≡ 0)
served_alone n layer c size all x k e l a =
    let u = all k a.inside in
    rw a.is
    (grain_alone (layer k) c size u.accepted (x / size) (a.first + x % size)
    (sector_in_lem (layer k) c size u x a.first l a.stored))

-- ---- packed grains
payload_in : (s : List ℕ) (c size : ℕ) (e : check s ≡ accepted_as c size) → (header_of s).packed ≡ true → (g i : ℕ)
    → g < grains_of (header_of s) → PayloadByte s g i → In s c size e g (i / 512)
unfolding grain_sectors pick
payload_in s c size e packed g i l p =
    (l, p.first, p.names, omega (arith, p.from), rw packed (omega (arith, p.to)))

pub no_payload_twice : (s : List ℕ) (c size : ℕ) → check s ≡ accepted_as c size → (header_of s).packed ≡ true → (g k i : ℕ)
    → g < grains_of (header_of s) → k < grains_of (header_of s) → (g ≡ k → ⊥) → PayloadByte s g i → PayloadByte s k i → ⊥
no_payload_twice s c size e packed g k i l m differ a b =
    differ (grains_apart s c size e g k (i / 512) (payload_in s c size e packed g i l a) (payload_in s c size e packed k i m b))
