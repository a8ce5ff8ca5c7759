-- Collapse and normal form write exactly where the images are layers of one capacity and grain size and there is room, and
-- what they write is the image of which the promises speak.
use Prim.Native.Nat.{ℕ, ◌≤◌}
use mathlib.Core.Path.{◌≡◌, refl, sym, ap, ◌∙◌}
use mathlib.Core.Bool.{Bool, false, ◌||◌}
use mathlib.Core.List.{List}
use native.Mathlib.Omega.{arith}
use lib.Dec.{ltb}
use lib.ListN.{length, take}
use lib.Seq.{take-append_seam}
use borrow.Author.Tests.{ltb-false}
use Rattle.base.specs.Pick.{pick}
use Rattle.base.specs.Bytes.{over}
use Rattle.base.proofs.Steps.{or_no}
use Rattle.format.specs.Header.{header_of}
use Rattle.format.specs.Check.{check}
use Rattle.format.specs.Chain.{unlike}
use Rattle.format.specs.Grains.{Map, merge}
use Rattle.format.specs.Layout.{layout_length}
use Rattle.format.specs.Collapse.{map_of, laid_length, normal_form, collapsed, if_accepted, not_collapsible, still_open}
use Rattle.format.specs.Collapse.{written_if_room, normal_from, normal, collapse_from, collapse, output, normal_output}
use Rattle.format.specs.Collapse.{collapse_output}
use Rattle.format.specs.declared.Refusal.{Refusal}
use Rattle.format.proofs.Picked.{pick_else, passed}
use Rattle.format.proofs.LayersAt.{like, alike}
use Rattle.laws.specs.Layers.{Layer}
use Rattle.laws.proofs.AcceptedImage.{accepted_sound}
use Rattle.laws.proofs.CollapsedLayers.{capacity_is, size_is}
use Rattle.laws.proofs.CollapsedImages.{normal_length, collapsed_length}
use Rattle.std.specs.Prelude.{Result, Ok, Err}
use Rattle.format.specs.declared.Shape.{Shape}
use Rattle.format.specs.AnswerParts.{accepted_as}

-- ---- where it was written, nothing was refused
pub was_accepted : (a : Result Shape Refusal) (b : Result ℕ Refusal) (long : ℕ) → if_accepted a b ≡ Ok long
    → (c : ℕ) × (size : ℕ) × (a ≡ accepted_as c size) × (b ≡ Ok long)
unfolding if_accepted
was_accepted (Err r) b long e = let z : ◌≡◌ {A = ℕ} 0 1 = cc in absurd (omega arith)
was_accepted (Ok sizes) b long e = (sizes.capacity, sizes.grain_size, refl, e)

pub written_past : (b : Bool) (r : Refusal) (y : Result ℕ Refusal) (long : ℕ) → pick b (Err r) y ≡ Ok long
    → (b ≡ false) × (y ≡ Ok long)
written_past b r y long e = passed b (Err r) y (Ok long) (λ q. let z : ◌≡◌ {A = ℕ} 0 1 = cc in omega arith) e

pub written_long : (room n long : ℕ) → written_if_room room n ≡ Ok long → (long ≡ n) × (long ≤ room)
unfolding written_if_room
written_long room n long e =
    let r = written_past (ltb room n) _ _ long e in
    let q : long ≡ n = cc in
    (q, rw q (ltb-false _ _ r.0))

pub own_layer : (s : List ℕ) (c size : ℕ) → check s ≡ accepted_as c size → not_collapsible (header_of s) ≡ false
    → still_open (header_of s) ≡ false → Layer (header_of s).capacity (header_of s).grain_size s
own_layer s c size e n o =
    let r = accepted_sound s c size e in record { accepted = rw (r.1, r.2) at e; collapsible = n; clean = o }

-- the length of a layout of a layer's sizes
laid_length_lem : {c size : ℕ} {s : List ℕ} → Layer c size s → (m : Map) → laid_length (header_of s) m ≡ layout_length c size m
laid_length_lem p m = rw (capacity_is p, size_is p)

-- ---- collapse
-- two layers are refused 21 or nothing
pub layers_collapse : {c size : ℕ} {lower upper : List ℕ} → Layer c size lower → Layer c size upper → (room : ℕ)
    → collapse lower upper room ≡ written_if_room room (length (collapsed lower upper))
unfolding if_accepted collapse_from
layers_collapse {lower = lower} {upper = upper} p q room =
    rw (p.accepted, q.accepted)
    (pick_else _ _ _ (rw (p.collapsible, q.collapsible))
    ∙ pick_else _ _ _ (like _ _ (capacity_is p ∙ sym (capacity_is q)) (size_is p ∙ sym (size_is q)))
    ∙ pick_else _ _ _ (rw (p.clean, q.clean))
    ∙ ap (written_if_room room) (laid_length_lem p (merge (map_of lower) (map_of upper)) ∙ sym (collapsed_length p q)))

module _ (lower upper : List ℕ) (room long : ℕ) (e : collapse lower upper room ≡ Ok long) where
  -- what was written came of two layers, and fits
  pub collapse_layers : (Layer (header_of lower).capacity (header_of lower).grain_size lower)
      × (Layer (header_of lower).capacity (header_of lower).grain_size upper)
      × (long ≡ length (collapsed lower upper))
      × (long ≤ room)
  unfolding collapse_from
  collapse_layers =
      let a = was_accepted (check lower) _ long e in
      let b = was_accepted (check upper) _ long a.3 in
      let n = written_past (not_collapsible (header_of lower) || not_collapsible (header_of upper)) _ _ long b.3 in
      let both = or_no (not_collapsible (header_of lower)) (not_collapsible (header_of upper)) n.0 in
      let u = written_past (unlike (header_of lower) (header_of upper)) _ _ long n.1 in
      let same = alike (header_of lower) (header_of upper) u.0 in
      let o = written_past (still_open (header_of lower) || still_open (header_of upper)) _ _ long u.1 in
      let shut = or_no (still_open (header_of lower)) (still_open (header_of upper)) o.0 in
      let p = own_layer lower a.0 a.1 a.2 both.0 shut.0 in
      let q = rw (← same.0, ← same.1) at (own_layer upper b.0 b.1 b.2 both.1 shut.1) in
      let f = written_long room _ long (sym (layers_collapse p q room) ∙ e) in
      (p, q, f.0, f.1)

-- the output begins with the collapsed image
pub collapse_output_lem : (lower upper out : List ℕ) (long : ℕ) → collapse lower upper (length out) ≡ Ok long
    → take long (collapse_output lower upper out) ≡ collapsed lower upper
unfolding output over
collapse_output_lem lower upper out long e =
    rw (e, (collapse_layers lower upper (length out) long e).2) (take-append_seam (collapsed lower upper) _)

-- ---- normal form
pub layer_normal : {c size : ℕ} {s : List ℕ} → Layer c size s → (room : ℕ) → normal s room
    ≡ written_if_room room (length (normal_form s))
unfolding if_accepted normal_from
layer_normal {s = s} p room =
    rw p.accepted (pick_else _ _ _ p.collapsible ∙ pick_else _ _ _ p.clean
    ∙ ap (written_if_room room) (laid_length_lem p (map_of s) ∙ sym (normal_length p)))

module _ (s : List ℕ) (room long : ℕ) (e : normal s room ≡ Ok long) where
  pub normal_layer : (Layer (header_of s).capacity (header_of s).grain_size s)
      × (long ≡ length (normal_form s))
      × (long ≤ room)
  unfolding normal_from
  normal_layer =
      let a = was_accepted (check s) _ long e in
      let n = written_past (not_collapsible (header_of s)) _ _ long a.3 in
      let o = written_past (still_open (header_of s)) _ _ long n.1 in
      let p = own_layer s a.0 a.1 a.2 n.0 o.0 in
      let f = written_long room _ long (sym (layer_normal p room) ∙ e) in
      (p, f.0, f.1)

pub normal_output_lem : (s out : List ℕ) (long : ℕ) → normal s (length out) ≡ Ok long
    → take long (normal_output s out) ≡ normal_form s
unfolding output over
normal_output_lem s out long e = rw (e, (normal_layer s (length out) long e).1) (take-append_seam (normal_form s) _)
