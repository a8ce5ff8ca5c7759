-- What a layer has: it keeps every layout rule, and its sizes are those that a layout can have.
use Prim.Native.Nat.{ℕ}
use mathlib.Core.Path.{◌≡◌, sym}
use mathlib.Core.Bool.{false}
use mathlib.Core.List.{List}
use Rattle.format.specs.Header.{kdmv_header, header_of}
use Rattle.format.specs.Accepted.{AcceptedKdmv}
use Rattle.format.specs.Layout.{Fits}
use Rattle.format.specs.Collapse.{map_of}
use Rattle.format.proofs.Grains.{grain_whole}
use Rattle.format.proofs.HeaderJudged.{kdmv_is}
use Rattle.laws.specs.Layers.{Layer}
use Rattle.laws.proofs.AcceptedImage.{accepted_sound}
use Rattle.laws.proofs.LayoutNumbers.{Sizes}

module _ {c size : ℕ} {s : List ℕ} (p : Layer c size s) where
  pub layer_accepted : AcceptedKdmv s
  layer_accepted = (accepted_sound s c size p.accepted).0

  pub capacity_is : (header_of s).capacity ≡ c
  capacity_is = sym (accepted_sound s c size p.accepted).1

  pub size_is : (header_of s).grain_size ≡ size
  size_is = sym (accepted_sound s c size p.accepted).2

  pub unpacked : (header_of s).packed ≡ false
  unpacked = p.collapsible

  own_sizes : Sizes (header_of s).capacity (header_of s).grain_size
  unfolding kdmv_header
  own_sizes =
      let r = layer_accepted.rules in rw (kdmv_is s r) (record { capacity = r.capacity; grain_size = r.grain_size })

  pub layer_sizes : Sizes c size
  layer_sizes = rw (capacity_is, size_is) at own_sizes

  -- its map is one that has a layout
  pub map_fits : Fits c size (map_of s)
  map_fits g b = rw (capacity_is, size_is) (grain_whole c size g s _)
