-- What each part answers and leaves in the output, each premise as the code gives it.
use Prim.Native.Nat.{ℕ, ◌*◌, ◌≤◌, ◌<◌}
use mathlib.Core.Path.{◌≡◌, refl, sym, ap, ◌∙◌}
use mathlib.Core.List.{List}
use mathlib.Core.Bool.{Bool, true, false, ◌||◌}
use native.Mathlib.Omega.{arith}
use lib.Dec.{ltb}
use Rattle.base.specs.Pick.{pick}
use Rattle.base.specs.Bytes.{over}
use Rattle.base.proofs.Steps.{stop, skip, stop_lt, skip_lt}
use Rattle.format.specs.Header.{header_of}
use Rattle.format.specs.Check.{check_of}
use Rattle.format.specs.Chain.{unlike}
use Rattle.format.specs.Grains.{Map, merge, grain_map}
use Rattle.format.specs.Collapse.{map_of, laid_length, normal_form, collapsed, if_accepted, not_collapsible, still_open}
use Rattle.format.specs.Collapse.{written_if_room, normal_from, collapse_from, output}
use Rattle.format.specs.declared.Kind.TheVariants.{Kdmv}
use Rattle.format.specs.declared.Taken.{Taken}
use Rattle.format.specs.declared.Header.{Header}
use Rattle.format.specs.declared.Refusal.{Refusal}
use Rattle.format.specs.declared.Refusal.TheVariants.{TooLittleRoom, LayersDiffer, NotCollapsible, StillOpen}
use Rattle.format.proofs.Grains.{onto_self}
use Rattle.format.proofs.LayersAt.{like}
use Rattle.layers.specs.TwoLayers.{layered, image_of}
use Rattle.accept.specs.AcceptedHeader.{accepted_header, Checked}
use Rattle.collapse.specs.Answered.{collapse_accepted, Answered}
use Rattle.std.specs.Prelude.{Result, Ok, Err}
use Rattle.format.specs.declared.Shape.{Shape}

-- a refusal leaves the output as it was
pub refused : (a : Result ℕ Refusal) (image d : List ℕ) (r : Refusal) → Err r ≡ a → Answered a image d (Err r) d
unfolding output
refused a image d r e = record { told = e; left = rw (← e) }

-- the same answer under another name
pub as_well : {a b r : Result ℕ Refusal} {i d x : List ℕ} → b ≡ a → Answered a i d r x → Answered b i d r x
as_well e p = rw e p

-- ---- one refusal in an order
module _ {a b : Bool} (r : Refusal) (x : Result ℕ Refusal) (image d : List ℕ) (e : a ≡ b) where
  pub refused_here : a ≡ true → Answered (pick b (Err r) x) image d (Err r) d
  refused_here t = refused _ image d r (stop _ _ _ e t refl)

  pub not_here : a ≡ false → {z : Result ℕ Refusal} {y : List ℕ} → Answered x image d z y
      → Answered (pick b (Err r) x) image d z y
  not_here n p = as_well (sym (skip _ _ _ e n refl)) p

-- ---- 21
module _ (sectors room : ℕ) (all : ℕ) (e : sectors ≡ all) (image d : List ℕ) where
  pub too_short : room < 512 * sectors → Answered (written_if_room room (512 * all)) image d (Err TooLittleRoom) d
  unfolding written_if_room
  too_short h = let l : room < 512 * all = omega arith in refused _ image d TooLittleRoom (stop_lt _ _ _ _ _ l refl)

  pub written : 512 * sectors ≤ room → (x : List ℕ) → x ≡ over d 0 image
      → Answered (written_if_room room (512 * all)) image d (Ok (512 * sectors)) x
  unfolding written_if_room output
  written h x p =
      let l : 512 * all ≤ room = omega arith in
      let t : Ok (512 * sectors) ≡ pick (ltb room (512 * all)) (Err TooLittleRoom) (Ok (512 * all)) =
      skip_lt _ _ _ _ _ l (ap (λ (n : ℕ). Ok (512 * n)) e) in
      record { told = t; left = rw (← t) p }

-- ---- 27
module _ {a b lower upper : Bool} (x : Result ℕ Refusal) (image d : List ℕ) (e : a ≡ lower) (f : b ≡ upper) where
  either : (a || b) ≡ (lower || upper)
  either = rw (e, f)

  pub not_clean : (a || b) ≡ true → Answered (pick (lower || upper) (Err StillOpen) x) image d (Err StillOpen) d
  not_clean t = refused_here StillOpen x image d either t

  pub then_clean : (a || b) ≡ false → {r : Result ℕ Refusal} {y : List ℕ} → Answered x image d r y
      → Answered (pick (lower || upper) (Err StillOpen) x) image d r y
  then_clean n p = not_here StillOpen x image d either n p

-- ---- 23, 22, and what comes after them
module _ {a b : Bool} (h k : Header) (m : Map) (room : ℕ) (image d : List ℕ) (e : a ≡ not_collapsible h)
    (f : b ≡ not_collapsible k) where
  both : (a || b) ≡ (not_collapsible h || not_collapsible k)
  both = rw (e, f)

  pub not_taken : (a || b) ≡ true → Answered (collapse_from h k m room) image d (Err NotCollapsible) d
  unfolding collapse_from
  not_taken t = refused _ image d NotCollapsible (stop _ _ _ both t refl)

  module _ {c : Bool} (n : (a || b) ≡ false) (i : c ≡ unlike h k) where
    pub not_alike : c ≡ true → Answered (collapse_from h k m room) image d (Err LayersDiffer) d
    unfolding collapse_from
    not_alike t = refused _ image d LayersDiffer (skip _ _ _ both n (stop _ _ _ i t refl))

    pub then_alike : c ≡ false → {r : Result ℕ Refusal} {x : List ℕ}
        → Answered (pick (still_open h || still_open k) (Err StillOpen) (written_if_room room (laid_length h m))) image
        d r x
        → Answered (collapse_from h k m room) image d r x
    unfolding collapse_from
    then_alike j p = as_well (sym (skip _ _ _ both n (skip _ _ _ i j refl))) p

-- ---- the checks
module _ (taken : Taken) (s : List ℕ) (a : Result Header Refusal) (e : a ≡ accepted_header (check_of taken s) (header_of s))
    (x : Result ℕ Refusal) (image d : List ℕ) where
  refused_by : (b : Result Shape Refusal) (r : Refusal) → accepted_header b (header_of s) ≡ Err r → Err r ≡ if_accepted b x
  unfolding accepted_header if_accepted
  refused_by (Err q) r p = cc
  refused_by (Ok sizes) r p = let n : ◌≡◌ {A = ℕ} 0 1 = cc in absurd (omega arith)

  known_by : (b : Result Shape Refusal) (h : Header) → accepted_header b (header_of s) ≡ Ok h → if_accepted b x ≡ x
  unfolding accepted_header if_accepted
  known_by (Err q) h p = let n : ◌≡◌ {A = ℕ} 0 1 = cc in absurd (omega arith)
  known_by (Ok sizes) h p = refl

  pub unknown_refused : (r : Refusal) → a ≡ Err r → Answered (if_accepted (check_of taken s) x) image d (Err r) d
  unknown_refused r q = refused _ image d r (refused_by (check_of taken s) r (sym e ∙ q))

  pub known_on : (h : Header) → a ≡ Ok h → {r : Result ℕ Refusal} {y : List ℕ} → Answered x image d r y
      → Answered (if_accepted (check_of taken s) x) image d r y
  known_on h q p = as_well (known_by (check_of taken s) h (sym e ∙ q)) p

-- the layers' headers are those that their bytes tell
pub layers_as : (lower upper : List ℕ) (h k : Header) → Checked lower h → Checked upper k
    → (room : ℕ) {d : List ℕ} {r : Result ℕ Refusal} {y : List ℕ}
    → Answered (collapse_from h k (layered lower h upper k) room) (image_of Kdmv lower h upper k) d r y
    → Answered (collapse_accepted lower upper room) (collapsed lower upper) d r y
layers_as lower upper h k c g room p = rw (c.is, g.is) at p

-- ---- one image onto itself
or_same : (b : Bool) → (b || b) ≡ b
or_same true = refl
or_same false = refl

pub merge_same : (m : Map) → merge m m ≡ m
merge_same m = λ i g. onto_self (m g) i

itself : (h : Header) (m : Map) (room : ℕ) → collapse_from h h (merge m m) room ≡ normal_from h m room
unfolding collapse_from normal_from pick
itself h m room = rw (or_same (not_collapsible h), like h h refl refl, or_same (still_open h), merge_same m)

pub normal_as : (s : List ℕ) (h : Header) → Checked s h → (room : ℕ) {d : List ℕ} {r : Result ℕ Refusal} {y : List ℕ}
    → Answered (collapse_from h h (layered s h s h) room) (image_of Kdmv s h s h) d r y
    → Answered (normal_from (header_of s) (map_of s) room) (normal_form s) d r y
normal_as s h c room p = rw c.is at (rw (itself h (grain_map s h) room, merge_same (grain_map s h)) at p)

-- ---- the public calls
pub told_left : {a r : Result ℕ Refusal} {image d y : List ℕ} → Answered a image d r y → (r ≡ a) × (y ≡ output a image d)
told_left p = (p.told, p.left)
