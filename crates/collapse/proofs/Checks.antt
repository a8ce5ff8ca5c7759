-- What the check of an image leaves known.
use Prim.Native.Nat.{ℕ, ◌+◌, ◌*◌, ◌≤◌, ◌<◌}
use mathlib.Core.Path.{◌≡◌, refl, sym, ◌∙◌}
use mathlib.Core.List.{List}
use mathlib.Core.Bool.{Bool, false, ◌||◌}
use native.Mathlib.Omega.{arith}
use lib.ListN.{length}
use Rattle.base.specs.Pick.{pick}
use Rattle.base.proofs.Steps.{or_no}
use Rattle.format.specs.Geometry.{file_sectors}
use Rattle.format.specs.Header.{grains_of}
use Rattle.format.specs.Entries.{grain_entry, grain_sectors}
use Rattle.format.specs.Check.{grain_past}
use Rattle.format.specs.Chain.{unlike}
use Rattle.format.specs.Collapse.{not_collapsible}
use Rattle.format.specs.declared.Header.{Header}
use Rattle.format.specs.declared.Entry.TheVariants.{Sector}
use Rattle.format.proofs.Inside.{named_in}
use Rattle.format.proofs.LowestGrain.{none_lowest}
use Rattle.format.proofs.LayersAt.{alike}
use Rattle.format.proofs.PlacesKept.{primary_room, table_room}
use Rattle.layers.specs.TwoLayers.{Readable, Layers}
use Rattle.accept.specs.AcceptedHeader.{Checked}

-- ---- where 23 is not given, the grains are not packed, and stand in the file
module _ (s : List ℕ) (h : Header) where
  whole : h.packed ≡ false → (e : ℕ) → grain_sectors s h.packed h.grain_size e ≡ h.grain_size
  unfolding grain_sectors pick
  whole plain e = rw plain

  pub readable : Checked s h → h.packed ≡ false → Readable s h
  readable c plain =
      let p = c.filed.placed in record {
        sound = p.sound;
        directory = primary_room s h p _ refl;
        table = table_room s h p _ refl;
        grain = in_file;
      }
    where
      in_file : (g e : ℕ) → g < grains_of h → grain_entry s h g ≡ Sector e → 512 * e + 512 * h.grain_size ≤ length s
      in_file g e l q =
          let r = none_lowest (grain_past s h) (grains_of h) c.filed.none g l in
          omega (arith, named_in (file_sectors s) (grain_sectors s h.packed h.grain_size) e (rw q at r), whole plain e)

pub layers_of_lem : {a b c : Bool} (lower : List ℕ) (h : Header) (upper : List ℕ) (k : Header) → Checked lower h
    → Checked upper k
    → a ≡ not_collapsible h → b ≡ not_collapsible k → (a || b) ≡ false → c ≡ unlike h k → c ≡ false → Layers lower h upper k
layers_of_lem {a} {b} lower h upper k p q e f n i j =
    let o = or_no a b n in
    let s = alike h k (sym i ∙ j) in
    record {
      below = readable lower h p (sym e ∙ o.0);
      above = readable upper k q (sym f ∙ o.1);
      capacity = sym s.0;
      size = sym s.1;
    }
