-- What the chain lookup answers with a stored sector comes from there by the entry tables; so two of its answers never name one
-- layer and one file sector.
use Prim.Native.Nat.{ℕ, zero, suc, ◌+◌, ◌/◌, ◌%◌, ◌<◌}
use mathlib.Core.Path.{◌≡◌, refl, sym, ap, ◌∙◌}
use mathlib.Core.List.{List}
use mathlib.Core.Bool.{Bool, false}
use mathlib.Core.Logic.{⊎_elim}
use native.Mathlib.Omega.{arith}
use lib.Dec.{leb}
use lib.ListN.{length}
use borrow.Author.Tests.{leb-false}
use Rattle.base.specs.Pick.{pick}
use Rattle.base.proofs.Steps.{lt_or_ge}
use Rattle.format.specs.Header.{header_of, judge}
use Rattle.format.specs.Source.{grain_source, entry_source, source_of, sector_lookup}
use Rattle.format.specs.Chain.{layer_at, lengths_broken, if_known, headers_down, layers_differ, unless_absent, walk_down, walk}
use Rattle.format.specs.Chain.{chain_lookup}
use Rattle.format.specs.declared.Entry.{Entry}
use Rattle.format.specs.declared.Entry.TheVariants.{Absent as no_entry, Zero as zero_entry, Sector}
use Rattle.format.specs.declared.Source.{Source}
use Rattle.format.specs.declared.Source.TheVariants.{Absent, Zero, Stored, Packed}
use Rattle.format.specs.declared.Refusal.{Refusal}
use Rattle.format.specs.declared.LayerSource.{LayerSource}
use Rattle.format.proofs.Picked.{passed}
use Rattle.laws.specs.Coverage.{Uncompressed, own_entry, ComesFrom}
use Rattle.laws.proofs.AcceptedImage.{accepted_sound}
use Rattle.laws.proofs.ServedSectors.{served}
use Rattle.laws.proofs.CoverageSectors.{size_is, capacity_is, no_sector_twice}
use Rattle.std.specs.Prelude.{Result, Ok, Err}
use Rattle.format.specs.declared.Header.{Header}
use Rattle.format.specs.declared.LayerRefusal.{LayerRefusal}
use Rattle.format.specs.AnswerParts.{refused_at}

-- ---- an answer is no refusal
found_past : (b : Bool) (layer : ℕ) (r : Refusal) (y : Result LayerSource LayerRefusal) (a : LayerSource)
    → pick b (refused_at layer r) y ≡ Ok a
    → (b ≡ false) × (y ≡ Ok a)
found_past b layer r y a e =
    passed b (refused_at layer r) y (Ok a) (λ q. let z : ◌≡◌ {A = ℕ} 0 1 = cc in omega arith) e

known_past : (k : ℕ) (a : Result Header Refusal) (y : Result LayerSource LayerRefusal) (f : LayerSource) → if_known k a y
    ≡ Ok f → y ≡ Ok f
unfolding if_known
known_past k (Err r) y f e = let z : ◌≡◌ {A = ℕ} 0 1 = cc in absurd (omega arith)
known_past k (Ok h) y f e = e

headers_past : (s lengths : List ℕ) (k : ℕ) (y : Result LayerSource LayerRefusal) (f : LayerSource)
    → headers_down s lengths k y ≡ Ok f
    → y ≡ Ok f
unfolding headers_down
headers_past s lengths zero y f e = e
headers_past s lengths (suc k) y f e =
    headers_past s lengths k y f (known_past k (judge (layer_at s lengths k)) _ f e)

same_answer : {a b : LayerSource} → ◌≡◌ {A = Result LayerSource LayerRefusal} (Ok a) (Ok b) → a ≡ b
same_answer e = cc

source_of_lem : {a b : LayerSource} → ◌≡◌ {A = Result LayerSource LayerRefusal} (Ok a) (Ok b) → a.source ≡ b.source
source_of_lem e = ap (λ (v : LayerSource). v.source) (same_answer e)

-- ---- the walk: the layer that is named has the sector, and those above it nothing
module _ (s lengths : List ℕ) (x k sector : ℕ) where
  abbrev answer : Result LayerSource LayerRefusal
  answer = Ok (record { layer = k; source = Stored sector })

  record ToldBelow (n : ℕ) : Type 0 where
    pub inside : k < n
    pub above : (j : ℕ) → k < j → j < n → sector_lookup (layer_at s lengths j) x ≡ Ok Absent
    pub own : sector_lookup (layer_at s lengths k) x ≡ Ok (Stored sector)

  -- layer n told, or nothing there and told below
  step : (n : ℕ) (a : Result Source Refusal) (below : Result LayerSource LayerRefusal)
      → sector_lookup (layer_at s lengths n) x ≡ a
      → unless_absent n a below ≡ answer → (below ≡ answer → ToldBelow n) → ToldBelow (suc n)
  unfolding unless_absent
  step n (Err r) below is e down = let z : ◌≡◌ {A = ℕ} 0 1 = cc in absurd (omega arith)
  step n (Ok Absent) below is e down =
      let w = down e in
      record {
        inside = omega (arith, w.inside);
        above = λ j l b. ⊎_elim (λ c. w.above j l c) (λ c. let q : n ≡ j = omega arith in rw q at is) (lt_or_ge j n);
        own = w.own;
      }
  step n (Ok Zero) below is e down =
      let other = source_of_lem e in let z : ◌≡◌ {A = ℕ} 0 1 = cc in absurd (omega arith)
  step n (Ok (Stored t)) below is e down =
      let here : n ≡ k = ap (λ (v : LayerSource). v.layer) (same_answer e) in
      let other = source_of_lem e in
      let there : t ≡ sector = cc in
      record {
        inside = omega arith;
        above = λ j l b. absurd (omega arith);
        own = rw (here, there) at is;
      }
  step n (Ok (Packed marker size o)) below is e down =
      let other = source_of_lem e in let z : ◌≡◌ {A = ℕ} 0 1 = cc in absurd (omega arith)

  walked : (n : ℕ) → walk_down s lengths x n ≡ answer → ToldBelow n
  unfolding walk_down
  walked zero e = let other = source_of_lem e in let z : ◌≡◌ {A = ℕ} 0 1 = cc in absurd (omega arith)
  walked (suc n) e = step n (sector_lookup (layer_at s lengths n) x) (walk_down s lengths x n) refl e (walked n)

  -- it is what a chain lookup comes to
  chain_past : chain_lookup s lengths x ≡ answer
      → (x < (header_of (layer_at s lengths 0)).capacity) × (ToldBelow (length lengths))
  unfolding chain_lookup walk
  chain_past e =
      let a = found_past (lengths_broken 16 s lengths) _ _ _ _ e in
      let b = headers_past s lengths (length lengths) _ _ a.1 in
      let c = found_past (layers_differ s lengths) _ _ _ _ b in
      let d = found_past (leb (header_of (layer_at s lengths 0)).capacity x) _ _ _ _ c.1 in
      (leb-false _ _ d.0, walked (length lengths) d.1)

-- ---- by the entry table
no_source : (s : List ℕ) (o : ℕ) (a : Entry) → entry_source s false o a ≡ Absent → a ≡ no_entry
unfolding entry_source grain_source pick
no_source s o no_entry e = refl
no_source s o zero_entry e = let z : ◌≡◌ {A = ℕ} 0 1 = cc in absurd (omega arith)
no_source s o (Sector t) e = let z : ◌≡◌ {A = ℕ} 0 1 = cc in absurd (omega arith)

stored_source : (s : List ℕ) (o sector : ℕ) (a : Entry) → entry_source s false o a ≡ Stored sector
    → (first : ℕ) × (a ≡ Sector first) × (sector ≡ first + o)
unfolding entry_source grain_source pick
stored_source s o sector no_entry e = let z : ◌≡◌ {A = ℕ} 0 1 = cc in absurd (omega arith)
stored_source s o sector zero_entry e = let z : ◌≡◌ {A = ℕ} 0 1 = cc in absurd (omega arith)
stored_source s o sector (Sector t) e = (t, refl, cc)

-- the source of a sector of an uncompressed layer
source_is : (s : List ℕ) (c size : ℕ) → Uncompressed c size s → (x : ℕ) → x < c → (a : Source) → sector_lookup s x ≡ Ok a
    → entry_source s false (x % size) (own_entry s (x / size)) ≡ a
source_is s c size u x l a e =
    let low : x < (header_of s).capacity = rw (capacity_is s c size u) l in
    let same : Ok (source_of s (header_of s) x) ≡ Ok a =
    sym (served s (accepted_sound s c size u.accepted).0 x low) ∙ e in
    let source : source_of s (header_of s) x ≡ a = cc in
    rw (u.unpacked, size_is s c size u) at source

module _ (s lengths : List ℕ) (c size : ℕ)
    (all : (k : ℕ) → k < length lengths → Uncompressed c size (layer_at s lengths k)) where
  pub stored_comes_from : (x k sector : ℕ)
      → chain_lookup s lengths x ≡ Ok (record { layer = k; source = Stored sector })
      → (x < c) × (ComesFrom (length lengths) (layer_at s lengths) size x k sector)
  stored_comes_from x k sector e =
      let p = chain_past s lengths x k sector e in
      let w = p.1 in
      let low : x < c = rw (capacity_is (layer_at s lengths 0) c size (all 0 (omega (arith, w.inside)))) at p.0 in
      let own = stored_source (layer_at s lengths k) (x % size) sector (own_entry (layer_at s lengths k) (x / size))
      (source_is (layer_at s lengths k) c size (all k w.inside) x low _ w.own) in (
        low,
        record {
          inside = w.inside;
          above = λ j l b.
              no_source (layer_at s lengths j) (x % size) (own_entry (layer_at s lengths j) (x / size))
              (source_is (layer_at s lengths j) c size (all j b) x low _ (w.above j l b));
          first = own.0;
          stored = own.1;
          is = own.2;
        },
      )

  -- two answers of the chain lookup, both stored, never name one layer and one file sector
  pub chain_never_twice : (x y k sector : ℕ) → (x ≡ y → ⊥)
      → chain_lookup s lengths x ≡ Ok (record { layer = k; source = Stored sector })
      → chain_lookup s lengths y ≡ Ok (record { layer = k; source = Stored sector }) → ⊥
  chain_never_twice x y k sector differ a b =
      let f = stored_comes_from x k sector a in
      let g = stored_comes_from y k sector b in
      no_sector_twice (length lengths) (layer_at s lengths) c size all x y k sector f.0 g.0 differ f.1 g.1
