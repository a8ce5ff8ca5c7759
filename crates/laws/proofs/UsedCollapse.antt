-- Collapse and normal form of images that agree in all that decides: the same answers, so the same length. What is stored in
-- grains is not compared.
use Prim.Native.Nat.{ℕ, zero, suc, ◌<◌}
use mathlib.Core.Path.{◌≡◌, refl, sym, ap, ◌∙◌}
use mathlib.Core.List.{List}
use native.Mathlib.Omega.{arith}
use Rattle.base.proofs.Steps.{or_no, pick_both}
use Rattle.format.specs.Geometry.{grains}
use Rattle.format.specs.Header.{header_of}
use Rattle.format.specs.Entries.{grain_entry}
use Rattle.format.specs.Check.{check}
use Rattle.format.specs.Grains.{Map, merge, grain_from, upper_unless_absent, one_if_stored, stored_below}
use Rattle.format.specs.Layout.{sectors_laid, layout_length}
use Rattle.format.specs.Collapse.{map_of, if_accepted, not_collapsible, still_open, written_if_room, normal, collapse_from}
use Rattle.format.specs.Collapse.{collapse}
use Rattle.format.specs.declared.Entry.{Entry}
use Rattle.format.specs.declared.Entry.TheVariants.{Absent, Zero, Sector}
use Rattle.format.proofs.LayersAt.{alike}
use Rattle.laws.specs.Layers.{Layer}
use Rattle.laws.specs.Unused.{SameUsed}
use Rattle.laws.proofs.UsedAnswers.{used_check, header_accepted, accepted_entries}
use Rattle.laws.proofs.CollapsedLayers.{capacity_is, size_is}
use Rattle.laws.proofs.CollapsedAnswer.{own_layer}
use Rattle.laws.proofs.CollapsedSelf.{collapse_self}
use Rattle.std.specs.Prelude.{Result, Ok, Err}
use Rattle.format.specs.declared.Shape.{Shape}
use Rattle.format.specs.declared.Refusal.{Refusal}
use Rattle.format.specs.AnswerParts.{accepted_as}

-- ---- a layer's entries
module _ (s t : List ℕ) (both : SameUsed s t) {c size : ℕ} (p : Layer c size s) where
  pub entries_same : (g : ℕ) → g < grains c size → grain_entry s (header_of s) g ≡ grain_entry t (header_of s) g
  entries_same g l = accepted_entries s t both c size p.accepted g (rw (capacity_is p, size_is p) l)

  pub layer_header : header_of s ≡ header_of t
  layer_header = header_accepted s t both c size p.accepted

-- ---- whether a grain is stored goes by the entries
one_same : (s t u v : List ℕ) (c size d other g : ℕ) (a b : Entry)
    → one_if_stored (upper_unless_absent (grain_from s c size g a) (grain_from u d other g b))
    ≡ one_if_stored (upper_unless_absent (grain_from t c size g a) (grain_from v d other g b))
unfolding one_if_stored upper_unless_absent grain_from
one_same s t u v c size d other g Absent Absent = refl
one_same s t u v c size d other g Zero Absent = refl
one_same s t u v c size d other g (Sector e) Absent = refl
one_same s t u v c size d other g a Zero = refl
one_same s t u v c size d other g a (Sector e) = refl

pub below_same : (m k : Map) (n : ℕ) → ((g : ℕ) → g < n → one_if_stored (m g) ≡ one_if_stored (k g))
    → stored_below m n ≡ stored_below k n
unfolding stored_below
below_same m k zero e = refl
below_same m k (suc n) e = rw (below_same m k n (λ g b. e g (omega arith)), e n (omega arith))

-- ---- what an answer leaves open
pub if_same : (a : Result Shape Refusal) (x y : Result ℕ Refusal) → ((c size : ℕ) → a ≡ accepted_as c size → x ≡ y)
    → if_accepted a x ≡ if_accepted a y
unfolding if_accepted
if_same (Err r) x y f = refl
if_same (Ok sizes) x y f = f sizes.capacity sizes.grain_size refl

-- ---- collapse: s and t are the lower images, u and v the upper ones
module _ (s t u v : List ℕ) (low : SameUsed s t) (up : SameUsed u v) where
  length_same : {c size : ℕ} → Layer c size s → Layer c size u
      → layout_length c size (merge (map_of s) (map_of u)) ≡ layout_length c size (merge (map_of t) (map_of v))
  unfolding sectors_laid
  length_same {c} {size} p q =
      rw (below_same (merge (map_of s) (map_of u)) (merge (map_of t) (map_of v)) (grains c size)
      (λ g l.
      rw (← layer_header s t low p, ← layer_header u v up q, ← entries_same s t low p g l, ← entries_same u v up q g l)
      (one_same s t u v _ _ _ _ g (grain_entry s (header_of s) g) (grain_entry u (header_of u) g))))

  pub used_collapse : (room : ℕ) → collapse s u room ≡ collapse t v room
  unfolding collapse_from
  used_collapse room =
      rw (← used_check s t low, ← used_check u v up)
      (if_same (check s) _ _
      (λ c size e.
      if_same (check u) _ _
      (λ d other f.
      rw (← header_accepted s t low c size e, ← header_accepted u v up d other f)
      (pick_both ◌≡◌ _ _ _ _ _ (λ q. refl)
      (λ n.
      pick_both ◌≡◌ _ _ _ _ _ (λ q. refl)
      (λ m.
      pick_both ◌≡◌ _ _ _ _ _ (λ q. refl)
      (λ o.
      let both = or_no (not_collapsible (header_of s)) (not_collapsible (header_of u)) n in
      let shut = or_no (still_open (header_of s)) (still_open (header_of u)) o in
      let sizes = alike (header_of s) (header_of u) m in
      let p = own_layer s c size e both.0 shut.0 in
      let q = rw (← sizes.0, ← sizes.1) at (own_layer u d other f both.1 shut.1) in
      ap (written_if_room room)
      (rw (← header_accepted s t low c size e, ← header_accepted u v up d other f) at (length_same p q)))))))))

pub used_normal : (s t : List ℕ) → SameUsed s t → (room : ℕ) → normal s room ≡ normal t room
used_normal s t both room = sym (collapse_self s room) ∙ used_collapse s t s t both both room ∙ collapse_self t room
