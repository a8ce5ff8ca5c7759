-- A rule asked of each number below n, from 0 up, by `any` over a range: what it answers is `any_below`.
use Prim.Native.Nat.{ℕ, zero, suc, ◌+◌}
use mathlib.Core.Path.{◌≡◌, refl, sym, ap, ◌∙◌}
use mathlib.Core.Bool.{Bool, false, true, ◌||◌, or-false, or_assoc}
use mathlib.Core.List.{List}
use native.Mathlib.Omega.{arith}
use native.Mathlib.Nat.{add-zero, zero-add}
use denote.Param.Members.{Mut}
use Rattle.std.specs.Option.{MatchOption}
use Rattle.std.specs.Fn.{Called}
use Rattle.std.specs.Iterator.{YieldsThen}
use Rattle.std.specs.List.{list_any, range_with_len, FoldsTo}
use Rattle.std.specs.declared.ops.Range.{Range}
use Rattle.std.specs.declared.option.Option.{Option}
use Rattle.std.proofs.iter.Yields.{nat_range_steps}
use Rattle.std.proofs.lemmas.Iterator.{YieldsList-from_range}
use Rattle.std.proofs.lemmas.Iterator.Search.{any_from_yields_List}
use Rattle.format.specs.Entries.{any_below}

module _ (p : ℕ → Bool) where
  -- the first of a run and the rest
  front : (a n : ℕ) → (p a || any_below (λ j. p (a + 1 + j)) n) ≡ any_below (λ j. p (a + j)) (suc n)
  unfolding any_below
  front a zero = or-false (p a) ∙ rw add-zero
  front a (suc n) =
      let q : a + 1 + n ≡ a + suc n = omega arith in
      rw (q, ← front a n) (sym (or_assoc (p a) (any_below (λ j. p (a + 1 + j)) n) (p (a + suc n))))

  listed : (a n : ℕ) → list_any p (range_with_len a n) ≡ any_below (λ j. p (a + j)) n
  unfolding any_below
  listed a zero = refl
  listed a (suc n) = ap (λ b. p a || b) (listed (a + 1) n) ∙ front a n

  pub any_counted : {F : Type 0} {g : Mut F (ℕ × Unit {0}) Bool} {s u : Range ℕ} {f : F} {r : Bool} (n : ℕ)
      → (xs : List ℕ) × (o : Option ℕ) × (j : F) × YieldsThen nat_range_steps s xs o u
      × FoldsTo (λ p x q. Called g p (x, tt) false q) f xs j
      × MatchOption o (r ≡ false) (λ x. (r ≡ true) × ((h : F) × Called g j (x, tt) true h))
      → s ≡ record { start = 0; end = n }
      → ((x : ℕ) (b : Bool) (q : F) → Called g f (x, tt) b q → (q ≡ f) × (b ≡ p x)) → r ≡ any_below p n
  any_counted n ran e calls =
      any_from_yields_List p _ _ _ ran (YieldsList-from_range 0 n n e (omega arith)) calls ∙ listed 0 n ∙ simp zero-add
