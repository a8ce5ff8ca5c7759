-- A header as read from the other side: the two directories change places, and nothing else.
use Prim.Native.Nat.{ℕ}
use mathlib.Core.Path.{◌≡◌, refl}
use mathlib.Core.List.{List, [], ◌∷◌}
use borrow.Author.Tests.{ne_eqb}
use Rattle.base.specs.Pick.{pick}
use Rattle.format.specs.Areas.{area, if_there, redundant_area}
use Rattle.format.specs.Mend.{from_good}
use Rattle.format.specs.Judged.{Sound, Placed}
use Rattle.format.specs.declared.Header.{Header}
use Rattle.format.specs.declared.Side.{Side}
use Rattle.format.specs.declared.Side.TheVariants.{Primary, Redundant}
use Rattle.format.proofs.Places.{Places, places_kept, kept_places, redundant_tables_lem}

-- twice is not at all
pub back : (side : Side) (h : Header) → h ≡ from_good side (from_good side h)
unfolding from_good
back Primary h = refl
back Redundant h = refl

pub redundant_area_lem : (h : Header) → (h.redundant ≡ 0 → ⊥) → redundant_area h
    ≡ area h.redundant h.directory_sectors ∷ []
unfolding if_there pick
redundant_area_lem h two = rw (ne_eqb h.redundant 0 two)

module _ (h : Header) where
  pub sound_from : (side : Side) → Sound h → Sound (from_good side h)
  unfolding from_good
  sound_from Primary z = z
  sound_from Redundant z =
      record {
        sizes = z.sizes;
        some = z.some;
        few = z.few;
        table = z.table;
        short = z.short;
        directory = z.directory;
      }

  module _ (s : List ℕ) (two : h.redundant ≡ 0 → ⊥) where
    turned : Places s h → Places s (from_good Redundant h)
    unfolding from_good
    turned p =
        let back : Header = from_good Redundant h in
        record {
          both = p.both;
          descriptor = p.descriptor;
          some = two;
          directory = rw (redundant_area_lem h two) at p.redundant;
          redundant = rw (redundant_area_lem back p.some) p.directory;
          tables = rw (redundant_tables_lem s h two) at p.copies;
          copies = rw (redundant_tables_lem s back p.some) p.tables;
        }

    pub places_from : (side : Side) → Places s h → Places s (from_good side h)
    unfolding from_good
    places_from Primary p = p
    places_from Redundant p = turned p

    pub placed_from : (side : Side) → Placed s h → Placed s (from_good side h)
    placed_from side p =
        record {
          sound = sound_from side p.sound;
          kept = kept_places s (from_good side h) (places_from side (places_kept s h p.kept));
        }

    -- both sides have a directory
    pub two_from : (side : Side) → Places s h → (from_good side h).redundant ≡ 0 → ⊥
    unfolding from_good
    two_from Primary p = two
    two_from Redundant p = p.some
