-- Normal form and collapse give profile images: of one image with the two sizes, and of two profile images of one capacity.
use Prim.Native.Nat.{ℕ, ◌%◌, ◌≤◌}
use mathlib.Core.Path.{◌≡◌, sym, ◌∙◌}
use mathlib.Core.List.{List}
use lib.ListN.{length, take}
use borrow.Author.Tests.{le-ltb}
use Rattle.format.specs.Header.{header_of}
use Rattle.format.specs.Collapse.{normal_form, collapsed, written_if_room, collapse, collapse_output}
use Rattle.format.proofs.Picked.{pick_else}
use Rattle.laws.specs.Layers.{Layer}
use Rattle.laws.specs.ProfileImages.{Meets}
use Rattle.laws.proofs.CollapsedImages.{normal_accepted, normal_normal, collapsed_accepted, collapsed_normal}
use Rattle.laws.proofs.CollapsedAnswer.{layers_collapse, collapse_output_lem}
use Rattle.laws.proofs.ProfileMet.{layer_meets, meets_layer}
use Rattle.std.specs.Prelude.{Ok}

-- the normal form of an accepted, uncompressed, clean KDMV image of the two sizes
pub normal_meets : {c : ℕ} {s : List ℕ} → Layer c 128 s → c % 128 ≡ 0 → Meets (normal_form s)
normal_meets p m = layer_meets (normal_accepted p) m (sym (normal_normal p))

-- ---- two profile images of one capacity
module _ {lower upper : List ℕ} (p : Meets lower) (q : Meets upper)
    (same : (header_of lower).capacity ≡ (header_of upper).capacity)
  where
    upper_layer : Layer (header_of lower).capacity 128 upper
    upper_layer = rw same (meets_layer q)

    -- the collapsed image meets the profile
    pub collapsed_meets : Meets (collapsed lower upper)
    collapsed_meets =
        layer_meets (collapsed_accepted (meets_layer p) upper_layer) p.capacity
        (sym (collapsed_normal (meets_layer p) upper_layer))

    -- where there is room for it the call writes
    pub profiles_collapse : (room : ℕ) → length (collapsed lower upper) ≤ room
        → collapse lower upper room ≡ Ok (length (collapsed lower upper))
    unfolding written_if_room
    profiles_collapse room h =
        layers_collapse (meets_layer p) upper_layer room
        ∙ pick_else _ _ _ (le-ltb room (length (collapsed lower upper)) h)

    -- and what it wrote meets the profile, whatever output was lent
    pub written_meets : (out : List ℕ) (long : ℕ) → collapse lower upper (length out) ≡ Ok long
        → Meets (take long (collapse_output lower upper out))
    written_meets out long e = rw (collapse_output_lem lower upper out long e) collapsed_meets
