-- Collapse and normal form never use bytes from 512 x F on: images that agree below them have the same answers and outputs.
use Prim.Native.Nat.{ℕ, ◌+◌, ◌*◌, ◌≤◌, ◌<◌}
use mathlib.Core.Path.{◌≡◌, refl, sym, ap, ◌∙◌}
use mathlib.Core.List.{List}
use mathlib.Core.Bool.{false}
use native.Mathlib.Omega.{arith}
use lib.ListN.{length}
use lib.Seq.{get_or-drop}
use Rattle.base.specs.Pick.{pick}
use Rattle.format.specs.Geometry.{file_sectors}
use Rattle.format.specs.Header.{header_of, grains_of}
use Rattle.format.specs.Entries.{grain_entry, grain_sectors}
use Rattle.format.specs.Areas.{named, runs_past}
use Rattle.format.specs.Check.{grain_past, check_from}
use Rattle.format.specs.Grains.{stored, grain_from}
use Rattle.format.specs.Collapse.{map_of, collapsed, normal}
use Rattle.format.specs.Collapse.{collapse, output, normal_output, collapse_output}
use Rattle.format.specs.declared.Entry.{Entry}
use Rattle.format.specs.declared.Entry.TheVariants.{Absent, Zero, Sector}
use Rattle.format.proofs.Inside.{named_in}
use Rattle.format.proofs.Grains.{clip_same}
use Rattle.format.proofs.LowestGrain.{none_lowest}
use Rattle.format.proofs.Passed.{layout_passed}
use Rattle.format.specs.declared.Kind.TheVariants.{Kdmv}
use Rattle.laws.specs.Layers.{Layer, SameGrains}
use Rattle.laws.specs.NeverUsed.{SameSectors}
use Rattle.laws.proofs.ServedSectors.{accepted_good}
use Rattle.laws.proofs.CollapsedMaps.{layout_same}
use Rattle.laws.proofs.CollapsedLayers.{layer_accepted, capacity_is, size_is, unpacked}
use Rattle.laws.proofs.CollapsedImages.{collapsed_is}
use Rattle.laws.proofs.CollapsedAnswer.{collapse_layers}
use Rattle.laws.proofs.CollapsedSelf.{collapse_self_output}
use Rattle.laws.proofs.UsedCollapse.{entries_same, layer_header, used_collapse, used_normal}
use Rattle.laws.proofs.NeverUsed.{never_used, never_used_check}
use Rattle.std.specs.Prelude.{Result, Ok, Err}
use Rattle.format.specs.declared.Refusal.{Refusal}

-- ---- a layer's map
module _ (s t : List ℕ) (both : SameSectors s t) where
  -- a grain's bytes, where they lie in the file
  grain_same : (c size g : ℕ) (d : Entry) → runs_past (file_sectors s) (named (grain_sectors s false size) d) ≡ false
      → grain_from s c size g d ≡ grain_from t c size g d
  unfolding grain_from grain_sectors pick
  grain_same c size g Absent p = refl
  grain_same c size g Zero p = refl
  grain_same c size g (Sector e) p =
      let h : e + size ≤ file_sectors s = named_in (file_sectors s) (grain_sectors s false size) e p in
      ap stored (clip_same c size g _ _
      (λ i b. get_or-drop (512 * e) s i 0 ∙ both.same (512 * e + i) (omega arith) ∙ sym (get_or-drop (512 * e) t i 0)))

  module _ {c size : ℕ} (p : Layer c size s) where
    pub layer_same : Layer c size t
    layer_same = record {
      accepted = sym (never_used_check s t both) ∙ p.accepted;
      collapsible = rw (← layer_header s t (never_used s t both) p) p.collapsible;
      clean = rw (← layer_header s t (never_used s t both) p) p.clean;
    }

    pub map_same : SameGrains c size (map_of s) (map_of t)
    unfolding check_from
    map_same g l =
        let h = header_of s in
        let good = accepted_good s (layer_accepted p) in
        let found = layout_passed s h c size (rw good.known at p.accepted) in
        let used : g < grains_of h = rw (capacity_is p, size_is p) l in
        let inside = none_lowest (grain_past s h) (grains_of h) found.grains g used in
        rw (← layer_header s t (never_used s t both) p, ← entries_same s t (never_used s t both) p g l)
        (grain_same h.capacity h.grain_size g (grain_entry s h g) (rw (unpacked p) at inside))

-- ---- what an answer leaves open
output_same : (a : Result ℕ Refusal) (image other out : List ℕ) → ((long : ℕ) → a ≡ Ok long → image ≡ other)
    → output a image out ≡ output a other out
unfolding output
output_same (Ok long) image other out f = rw (f long refl)
output_same (Err r) image other out f = refl

-- ---- collapse: s and t are the lower images, u and v the upper ones
module _ (s t u v : List ℕ) (low : SameSectors s t) (up : SameSectors u v) where
  collapsed_same : {c size : ℕ} → Layer c size s → Layer c size u → collapsed s u ≡ collapsed t v
  collapsed_same {c} {size} p q =
      collapsed_is p q
      ∙ layout_same Kdmv c size _ _ (λ g h. rw (map_same s t low p g h, map_same u v up q g h))
      ∙ sym (collapsed_is (layer_same s t low p) (layer_same u v up q))

  pub never_used_collapse : (room : ℕ) → collapse s u room ≡ collapse t v room
  never_used_collapse = used_collapse s t u v (never_used s t low) (never_used u v up)

  pub never_used_collapse_output : (out : List ℕ) → collapse_output s u out ≡ collapse_output t v out
  never_used_collapse_output out =
      rw (← never_used_collapse (length out))
      (output_same (collapse s u (length out)) _ _ out
      (λ long w. let both = collapse_layers s u (length out) long w in collapsed_same both.0 both.1))

-- ---- normal form
module _ (s t : List ℕ) (both : SameSectors s t) where
  pub never_used_normal : (room : ℕ) → normal s room ≡ normal t room
  never_used_normal = used_normal s t (never_used s t both)

  pub never_used_normal_output : (out : List ℕ) → normal_output s out ≡ normal_output t out
  never_used_normal_output out =
      sym (collapse_self_output s out) ∙ never_used_collapse_output s t s t both both out ∙ collapse_self_output t out
