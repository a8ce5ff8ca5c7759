-- Runs of collapse: any two over the same layers leave the same bytes, there is one for each pairing with enough room at each
-- step, and what it leaves is accepted and serves every sector as the chain of the layers does. Demand 3.
use Prim.Native.Nat.{ℕ, ◌≤◌, ◌<◌}
use mathlib.Core.Path.{◌≡◌, refl, sym, ap, ◌∙◌}
use mathlib.Core.List.{List, [], ◌∷◌, ◌++◌}
use native.Mathlib.Omega.{arith}
use lib.ListN.{length, get_or, length-append}
use borrow.Author.Tests.{le-ltb}
use Rattle.format.specs.Geometry.{grains}
use Rattle.format.specs.Layout.{sectors_laid, layout_length}
use Rattle.format.specs.Source.{sector_lookup}
use Rattle.format.specs.Chain.{chain_lookup}
use Rattle.format.specs.Collapse.{written_if_room}
use Rattle.format.specs.declared.Refusal.TheVariants.{SectorPast}
use Rattle.format.proofs.Grains.{stored_same}
use Rattle.format.proofs.Picked.{pick_else}
use Rattle.laws.specs.Layers.{Layer, Every, none as no_more, more, end_to_end, lengths_of, map_of_layers, Pairing, layer}
use Rattle.laws.specs.Layers.{pair, layers_of, paired_image}
use Rattle.laws.specs.Served.{ServedAs}
use Rattle.laws.specs.Runs.{Outputs, none, lent, Run, given, collapsing, LongEnough}
use Rattle.laws.proofs.CollapsedImages.{collapsed_accepted, collapsed_map, collapsed_length}
use Rattle.laws.proofs.CollapsedPairings.{front, back, some_layer, pairing_accepted, pairing_map, pairings_alike}
use Rattle.laws.proofs.CollapsedServed.{pairing_serves, pairing_past}
use Rattle.laws.proofs.CollapsedAnswer.{layers_collapse, collapse_layers, collapse_output_lem}
use Rattle.std.specs.Prelude.{Err}
use Rattle.format.specs.AnswerParts.{refused_at}
use Rattle.format.proofs.SameParts.{same_sizes}

-- the image of a run is the one that its pairing has
pub run_is : {t : Pairing} {o : Outputs t} {image : List ℕ} → Run t o image → image ≡ paired_image t
unfolding paired_image
run_is given = refl
run_is (collapsing {lower = lower} {upper = upper} r k out long w) =
    collapse_output_lem lower upper out long w ∙ rw (run_is r, run_is k)

-- ---- the layers of a run: collapse refuses all others
sizes_same : {c size d other : ℕ} {s : List ℕ} → Layer c size s → Layer d other s → (c ≡ d) × (size ≡ other)
sizes_same {c} {size} {d} {other} p q = same_sizes c size d other (sym p.accepted ∙ q.accepted)

together : {P : List ℕ → Type 0} (l k : List (List ℕ)) → Every P l → Every P k → Every P (l ++ k)
together [] k no_more f = f
together (s ∷ l) k (more p e) f = more p (together l k e f)

module _ {c size : ℕ} where
  from_image : {t : Pairing} {o : Outputs t} {image : List ℕ} → Run t o image → Layer c size image
      → Every (Layer c size) (layers_of t)
  unfolding layers_of
  from_image given p = more p no_more
  from_image (collapsing {below = below} {lower = lower} {upper = upper} r k out long w) p =
      let both = collapse_layers lower upper (length out) long w in
      let same = sizes_same (collapsed_accepted both.0 both.1) (rw (collapse_output_lem lower upper out long w) at p) in
      let l = from_image r (rw (same.0, same.1) at both.0) in
      let u = from_image k (rw (same.0, same.1) at both.1) in
      together (layers_of below) _ l u

-- so where two layers or more were run, all were of one capacity and grain size, accepted, KDMV, uncompressed and clean
pub run_layers : {below above : Pairing} {o : Outputs (pair below above)} {image : List ℕ} → Run (pair below above) o image
    → (c : ℕ) × (size : ℕ) × Every (Layer c size) (layers_of (pair below above))
unfolding layers_of
run_layers (collapsing {below = below} {lower = lower} {upper = upper} r k out long w) =
    let both = collapse_layers lower upper (length out) long w in
    (_, _, together (layers_of below) _ (from_image r both.0) (from_image k both.1))

-- ---- however neighbours are paired off, and whatever outputs are lent, the same bytes are left
pub runs_alike : {t u : Pairing} {o : Outputs t} {p : Outputs u} {a b : List ℕ} → Run t o a → Run u p b → layers_of t
    ≡ layers_of u → a ≡ b
unfolding layers_of
runs_alike given given e = ap (λ (l : List (List ℕ)). get_or l 0 []) e
runs_alike given (collapsing {below = below} {above = above} r k out long w) e =
    absurd (omega (arith, rw length-append at (ap length e), some_layer below, some_layer above))
runs_alike {t = t} {u = u} (collapsing r k out long w) n e =
    let z = collapsing r k out long w in run_is z ∙ pairings_alike t u (run_layers z).2 e ∙ sym (run_is n)

-- ---- enough room at each step is what a run needs
module _ {c size : ℕ} where
  -- what comes of a pair is as long as the layout of its layers
  pub pairing_length : (a b : Pairing) → Every (Layer c size) (layers_of (pair a b))
      → length (paired_image (pair a b)) ≡ layout_length c size (map_of_layers (layers_of (pair a b)))
  unfolding layers_of paired_image sectors_laid
  pairing_length a b e =
      let p = pairing_accepted a (front (layers_of a) _ e) in
      let q = pairing_accepted b (back (layers_of a) _ e) in
      collapsed_length p q
      ∙ rw (stored_same _ _ (grains c size) (λ g h. sym (collapsed_map p q g h) ∙ pairing_map (pair a b) e g h))

  -- a pairing with outputs that are long enough has a run
  pub run_exists : (t : Pairing) (o : Outputs t) → Every (Layer c size) (layers_of t) → LongEnough c size o
      → Run t o (paired_image t)
  unfolding layers_of paired_image written_if_room
  run_exists (layer s) none e room = given
  run_exists (pair below above) (lent p q out) e room =
      let f = front (layers_of below) _ e in
      let b = back (layers_of below) _ e in
      let fits = le-ltb _ _ (rw (← pairing_length below above e) at room.2) in
      let both = layers_collapse (pairing_accepted below f) (pairing_accepted above b) (length out) in
      let w = both ∙ pick_else _ _ _ fits in
      let r = run_exists below p f room.0 in
      let k = run_exists above q b room.1 in
      rw (collapse_output_lem _ _ out _ w) at (collapsing r k out _ w)

  -- and no other has one
  pub run_room : {t : Pairing} {o : Outputs t} {image : List ℕ} → Run t o image → Every (Layer c size) (layers_of t)
      → LongEnough c size o
  unfolding layers_of paired_image
  run_room given e = tt
  run_room (collapsing {below = below} {above = above} {lower = lower} {upper = upper} r k out long w) e =
      let both = collapse_layers lower upper (length out) long w in
      let l = run_room r (front (layers_of below) _ e) in
      let u = run_room k (back (layers_of below) _ e) in
      (l, u, rw (← pairing_length below above e, ← run_is r, ← run_is k, ← both.2) both.3)

-- ---- what a run leaves
module _ {c size : ℕ} {t : Pairing} {o : Outputs t} {image : List ℕ} (r : Run t o image)
    (e : Every (Layer c size) (layers_of t)) where
  -- it may be collapsed on; so may each image on the way, since a run left it
  pub run_accepted : Layer c size image
  run_accepted = rw (run_is r) (pairing_accepted t e)

  -- it serves each sector as the chain of the layers does, and at or past the end both are refused 20
  module _ (few : length (layers_of t) ≤ 16) (x : ℕ) where
    pub run_serves : x < c → ServedAs image (end_to_end (layers_of t)) (lengths_of (layers_of t)) x
    run_serves low = rw (run_is r) (pairing_serves t e few x low)

    pub run_past : c ≤ x → (sector_lookup image x ≡ Err SectorPast)
        × (chain_lookup (end_to_end (layers_of t)) (lengths_of (layers_of t)) x ≡ refused_at 0 SectorPast)
    run_past past = rw (run_is r) (pairing_past t e few x past)
