-- The kept grains that closing tells are as many as the closed image has packed grains (request A12): it has no others.
use Prim.Native.Nat.{ℕ, zero, suc, ◌+◌, ◌≤◌, ◌<◌}
use mathlib.Core.Path.{◌≡◌, refl, sym, ◌∙◌}
use mathlib.Core.List.{List, [], ◌∷◌}
use mathlib.Core.Bool.{Bool, true}
use mathlib.Core.Logic.{⊎_elim}
use native.Mathlib.Omega.{arith}
use lib.ListN.{length}
use borrow.Author.Tests.{eq-eqb, ne_eqb}
use Rattle.base.specs.Pick.{pick}
use Rattle.base.proofs.Steps.{lt_or_ge}
use Rattle.format.specs.Header.{kdmv_header, start_of, grains_of}
use Rattle.format.specs.Entries.{meaning}
use Rattle.format.specs.Survey.{entry_kind, grain_kind, count_of, grains_of_kind, row_from, row_of}
use Rattle.format.specs.Stream.{KeptGrain, kept_grains}
use Rattle.format.specs.Tail.{kept_entry}
use Rattle.format.specs.Close.{closed_image}
use Rattle.format.specs.declared.Header.{Header}
use Rattle.format.specs.declared.Entry.{Entry}
use Rattle.format.proofs.StreamKept.{Ascends}
use Rattle.format.proofs.StreamKept.Ascends.{none, some}
use Rattle.format.proofs.StreamEntries.{entry_first, entry_other, entry_none}
use Rattle.laws.specs.Closed.{Closable, closed_header}
use Rattle.laws.proofs.Counts.{count_same}
use Rattle.laws.proofs.LayoutBack.{sector_told}
use Rattle.laws.proofs.ClosedStart.{Closing, closing, kept_ascends}
use Rattle.laws.proofs.ClosedHeader.{header_closed, packed_closed}
use Rattle.laws.proofs.ClosedEntries.{none_told, closed_entry}
use Rattle.laws.proofs.ClosedAccepted.{closed_accepted}

-- ---- counting: none, and one more
module _ (v : ℕ) where
  count_none : (f : ℕ → ℕ) → ((x : ℕ) → f x ≡ v → ⊥) → (n : ℕ) → count_of f v n ≡ 0
  unfolding count_of pick
  count_none f e zero = refl
  count_none f e (suc n) = rw (count_none f e n, ne_eqb (f n) v (e n))

  -- two that differ at a alone, where only the first has v
  count_more : (f g : ℕ → ℕ) (a : ℕ) → f a ≡ v → (g a ≡ v → ⊥) → ((x : ℕ) → (x ≡ a → ⊥) → f x ≡ g x) → (n : ℕ) → a < n
      → count_of f v n ≡ count_of g v n + 1
  unfolding count_of pick
  count_more f g a one other same zero low = absurd (omega arith)
  count_more f g a one other same (suc n) low =
      ⊎_elim
      (λ (b : a < n).
      rw (same n (omega arith)) (omega (arith, count_more f g a one other same n b)))
      (λ (b : n ≤ a).
      let q : a ≡ n = omega arith in
      let before = count_same f g v n (λ x l. same x (omega arith)) in
      rw (eq-eqb (f n) v (rw q at one), ne_eqb (g n) v (rw q at other)) (omega arith))
      (lt_or_ge a n)

-- ---- the kinds of grains by their entries
module _ (s : List ℕ) (h : Header) (b : Bool) where
  abbrev kind : List KeptGrain → ℕ → ℕ
  kind l g = entry_kind true (meaning b (kept_entry l g))

  none_kind : (l : List KeptGrain) (g : ℕ) → kept_entry l g ≡ 0 → kind l g ≡ 3 → ⊥
  unfolding entry_kind
  none_kind l g e q = omega (arith, rw (e, none_told b) at q)

  packed_kind : (l : List KeptGrain) (g e : ℕ) → 2 ≤ e → kept_entry l g ≡ e → kind l g ≡ 3
  unfolding entry_kind pick
  packed_kind l g e late q = rw (q, sector_told b e late)

  count_kept : {p next : ℕ} {l : List KeptGrain} → Ascends s h p next l → 2 ≤ p → count_of (kind l) 3 (grains_of h) ≡ length l
  unfolding kept_entry
  count_kept none late = count_none 3 _ (λ g. none_kind [] g refl) (grains_of h)
  count_kept (some {p = p} {k = k} {l = l} e n w a) late =
      count_more 3 (kind (k ∷ l)) (kind l) k.number
      (packed_kind (k ∷ l) k.number k.sector (omega arith) (entry_first k l))
      (none_kind l k.number (entry_none s h a k.number (omega arith)))
      (λ g o. rw (entry_other k l g (λ q. o (sym q))))
      (grains_of h) w.used
      ∙ omega (arith, count_kept a (omega (arith, w.one)))

same_kind : (packed : Bool) (d e : Entry) → packed ≡ true → d ≡ e → entry_kind packed d ≡ entry_kind true e
same_kind packed d e t q = rw (t, q)

-- ---- of a closed image
module _ (s : List ℕ) (c : Closable s) where
  z : Closing s
  z = closing s c

  packed_count : grains_of_kind (closed_image s) (closed_header s) 3 ≡ length (kept_grains s (start_of s))
  unfolding kdmv_header
  packed_count =
      let b = (closed_header s).one_is_zero in
      count_same (grain_kind (closed_image s) (closed_header s)) (kind s (start_of s) b (kept_grains s (start_of s))) 3
      (grains_of (start_of s))
      (λ g low. same_kind (closed_header s).packed _ _ (packed_closed s z) (closed_entry s z g low))
      ∙ count_kept s (start_of s) b (kept_ascends s z) z.late

  -- the survey counts them
  pub closed_count : (row_of (closed_image s)).packed ≡ length (kept_grains s (start_of s))
  unfolding row_from
  closed_count = rw (closed_accepted s c, header_closed s z) packed_count
