-- What is known at each stage of the comparison.
use Prim.Native.Nat.{ℕ, ◌+◌, ◌*◌, ◌%◌, ◌≤◌, ◌<◌}
use mathlib.Core.Path.{◌≡◌, sym, ap, subst, ◌∙◌}
use mathlib.Core.List.{List}
use native.Mathlib.Omega.{arith}
use lib.ListN.{length}
use Rattle.base.specs.Rounding.{ceil}
use Rattle.base.specs.Bytes.{SameBytes, over}
use Rattle.base.proofs.Stands.{Stands}
use Rattle.base.proofs.Over.{over_whole}
use Rattle.format.specs.Geometry.{grains}
use Rattle.format.specs.Entries.{grain_entry}
use Rattle.format.specs.Grains.{grain_map, grain_from}
use Rattle.format.specs.Layout.{Fits, table_count, sectors_laid, header_bytes}
use Rattle.format.specs.declared.Kind.TheVariants.{Kdmv}
use Rattle.format.specs.declared.Header.{Header}
use Rattle.format.proofs.Grains.{grain_whole}
use Rattle.format.proofs.Lengths.{header_length}
use Rattle.layers.specs.TwoLayers.{Readable}
use Rattle.collapse.proofs.Checks.{readable}
use Rattle.laws.specs.Layers.{Layer}
use Rattle.laws.proofs.CollapsedLayers.{layer_accepted, layer_sizes}
use Rattle.laws.proofs.LayoutNumbers.{Sizes}
use Rattle.laws.proofs.LayoutParts.{header_stands, layout_length_lem}
use Rattle.laws.proofs.LayoutHeader.{laid_header}
use Rattle.alike.specs.FirstOther.{FirstOther}
use Rattle.profile.specs.FormCompared.{form_of, Published}
use Rattle.profile.proofs.LaidFront.{header_told}
use Rattle.format.specs.AnswerParts.{accepted_as}

-- ---- an accepted image
module _ (s : List ℕ) (h : Header) (p : Published s h) where
  layer : Layer h.capacity h.grain_size s
  layer =
      let is = p.taken.checked.is in
      record { accepted = p.taken.accepted; collapsible = rw is at p.collapsible; clean = rw is at p.clean }

  pub sizes : Sizes h.capacity h.grain_size
  sizes = layer_sizes layer

  pub image_long : 512 ≤ length s
  image_long = (layer_accepted layer).rules.long

  pub fits : Fits h.capacity h.grain_size (grain_map s h)
  fits g b = grain_whole h.capacity h.grain_size g s _

  pub form_long : length (form_of s h) ≡ 512 * sectors_laid Kdmv h.capacity h.grain_size (grain_map s h)
  form_long = layout_length_lem Kdmv sizes (grain_map s h) fits

  -- the header, as the code writes it
  pub form_header : Stands (form_of s h) 0 (header_bytes Kdmv h.capacity h.grain_size 0)
  unfolding header_bytes
  form_header = header_stands Kdmv sizes (grain_map s h)

  pub header_as : (d x : List ℕ) (r : ℕ) → x ≡ over d 0 (header_bytes Kdmv h.capacity h.grain_size 0) → length d ≡ 512
      → FirstOther s 0 x r → FirstOther s 0 (header_bytes Kdmv h.capacity h.grain_size 0) r
  header_as d x r e l f =
      rw (e ∙ over_whole d (header_bytes Kdmv h.capacity h.grain_size 0)
      (header_length Kdmv h.capacity h.grain_size 0 ∙ sym l)) at f

  -- grains lie below capacity
  pub full : (g : ℕ) → g < grains h.capacity h.grain_size → g * h.grain_size + h.grain_size ≤ h.capacity
  unfolding grains
  full g l = whole_grain h.capacity h.grain_size p.size p.whole g l
    where
      whole_grain : (c z : ℕ) → z ≡ 128 → c % 128 ≡ 0 → (g : ℕ) → g < ceil c z → g * z + z ≤ c
      whole_grain c z e w g l = let b : g < ceil c 128 = rw e at l in rw e (omega arith)

  -- ---- the header is the form's
  module _ (same : SameBytes s (form_of s h) 0 512) where
    laid_header_lem : h ≡ laid_header Kdmv h.capacity h.grain_size
    laid_header_lem = p.taken.checked.is ∙ header_told sizes (grain_map s h) s same image_long

    pub laid_readable : Readable s (laid_header Kdmv h.capacity h.grain_size)
    laid_readable =
        subst (λ (k : Header). Readable s k) laid_header_lem
        (readable s h p.taken.checked p.collapsible)

    pub own : (g : ℕ) → grain_map s h g
        ≡ grain_from s h.capacity h.grain_size g
        (grain_entry s (laid_header Kdmv h.capacity h.grain_size) g)
    own g =
        ap (λ (k : Header). grain_from s h.capacity h.grain_size g (grain_entry s k g)) laid_header_lem

    pub directory_inside : 512 + 4 * table_count Kdmv h.capacity h.grain_size ≤ length s
    unfolding table_count
    directory_inside = laid_readable.directory
