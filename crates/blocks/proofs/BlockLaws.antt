-- Entries judged some at a time: what a run tells of all up to it, and what two entries as one number tell of each.
use Prim.Native.Nat.{ℕ, zero, suc, ◌+◌, ◌-◌, ◌*◌, ◌/◌, ◌≤◌, ◌<◌}
use mathlib.Core.Path.{◌≡◌, refl, sym, ◌∙◌}
use mathlib.Core.List.{List}
use mathlib.Core.Bool.{Bool, true, false, not, ◌||◌, or-false, or-true, or_assoc}
use mathlib.Core.Logic.{⊎_elim}
use native.Mathlib.Omega.{arith}
use native.Mathlib.Nat.{add-zero, add-suc, add_assoc}
use lib.Dec.{eqb, lit<}
use borrow.Author.Tests.{eqb-true, eqb-false, eq-eqb, ne_eqb}
use Rattle.base.proofs.Steps.{not_no, true_or_false, lt_or_ge}
use Rattle.format.specs.Entries.{entry_at, any_below}
use Rattle.format.proofs.Entries.{some_no}
use Rattle.blocks.specs.Blocks.{any_from, differs_at, named_at, PastBlocks, Passed}

-- ---- a rule over runs of numbers
module _ (p : ℕ → Bool) where
  -- what is broken below k + m is broken below k, or by one of the m from k on
  pub any_split : (k m : ℕ) → any_below p (k + m) ≡ (any_below p k || any_from p k m)
  unfolding any_below any_from
  any_split k zero = rw add-zero (sym (or-false (any_below p k)))
  any_split k (suc m) = rw (add-suc, any_split k m) (or_assoc (any_below p k) (any_from p k m) (p (k + m)))

  -- two runs, the one after the other
  run_split : (k m n : ℕ) → any_from p k (m + n) ≡ (any_from p k m || any_from p (k + m) n)
  unfolding any_below any_from
  run_split k m zero = rw add-zero (sym (or-false (any_from p k m)))
  run_split k m (suc n) =
      rw (add-suc, run_split k m n, ← add_assoc) (or_assoc (any_from p k m) (any_from p (k + m) n) (p (k + m + n)))

  run_join : {a b : Bool} (k m n : ℕ) → a ≡ any_from p k m → b ≡ any_from p (k + m) n → (a || b) ≡ any_from p k (m + n)
  run_join k m n e q = rw (e, q) (sym (run_split k m n))

  -- pairs one after the other: none yet, one more, and eight, which are sixteen
  pub no_pair : (k : ℕ) → false ≡ any_from p k (2 * 0)
  unfolding any_from any_below
  no_pair k = refl

  pub one_pair : {a b : Bool} (k i : ℕ) → a ≡ any_from p k (2 * i) → b ≡ any_from p (k + 2 * i) 2
      → (a || b) ≡ any_from p k (2 * (i + 1))
  one_pair k i e q = let m : 2 * (i + 1) ≡ 2 * i + 2 = omega arith in rw m (run_join k (2 * i) 2 e q)

  pub eight_pairs : {a : Bool} (k i : ℕ) → i ≡ 8 → a ≡ any_from p k (2 * i) → a ≡ any_from p k 16
  eight_pairs k i e q = rw e at q

  pub pairs_run : (k m : ℕ) → any_below (λ i. any_from p (k + 2 * i) 2) m ≡ any_from p k (2 * m)
  unfolding any_below
  pairs_run k zero = no_pair k
  pairs_run k (suc m) =
      let q : 2 * suc m ≡ 2 * (m + 1) = omega arith in rw q (one_pair k m (pairs_run k m) refl)

  -- eight runs of two are one of sixteen
  pub run_eight : {a b c d e f g h : Bool} (k : ℕ) → a ≡ any_from p k 2 → b ≡ any_from p (k + 2) 2 → c ≡ any_from p (k + 4) 2
      → d ≡ any_from p (k + 6) 2 → e ≡ any_from p (k + 8) 2 → f ≡ any_from p (k + 10) 2 → g ≡ any_from p (k + 12) 2
      → h ≡ any_from p (k + 14) 2 → (a || b || c || d || e || f || g || h) ≡ any_from p k 16
  run_eight k qa qb qc qd qe qf qg qh =
      let four = run_join k 4 2 (run_join k 2 2 qa qb) qc in
      let six = run_join k 8 2 (run_join k 6 2 four qd) qe in
      run_join k 14 2 (run_join k 12 2 (run_join k 10 2 six qf) qg) qh

  -- a run of two
  pub any_two : (k : ℕ) → any_from p k 2 ≡ (p k || p (k + 1))
  unfolding any_from any_below
  any_two k = rw add-zero

-- ---- two entries as one number
module _ (a b c d : ℕ) (fa : a < 0x100000000) (fb : b < 0x100000000) (fc : c < 0x100000000) (fd : d < 0x100000000) where
  -- it is the same exactly where both entries are
  pub pair_differs : not (eqb (a + 0x100000000 * b) (c + 0x100000000 * d)) ≡ (not (eqb a c) || not (eqb b d))
  pair_differs = ⊎_elim (λ e. ⊎_elim (same e) (second e) (true_or_false (eqb b d))) first (true_or_false (eqb a c))
    where
      same : eqb a c ≡ true → eqb b d ≡ true → not (eqb (a + 0x100000000 * b) (c + 0x100000000 * d))
          ≡ (not (eqb a c) || not (eqb b d))
      same e f =
          rw (e, f, eq-eqb (a + 0x100000000 * b) (c + 0x100000000 * d) (omega (arith, eqb-true a c e, eqb-true b d f)))

      second : eqb a c ≡ true → eqb b d ≡ false → not (eqb (a + 0x100000000 * b) (c + 0x100000000 * d))
          ≡ (not (eqb a c) || not (eqb b d))
      second e f =
          rw (e, f, ne_eqb (a + 0x100000000 * b) (c + 0x100000000 * d) (λ q. eqb-false b d f (omega (arith, eqb-true a c e))))

      first : eqb a c ≡ false → not (eqb (a + 0x100000000 * b) (c + 0x100000000 * d)) ≡ (not (eqb a c) || not (eqb b d))
      first e = rw (e, ne_eqb (a + 0x100000000 * b) (c + 0x100000000 * d) (λ q. eqb-false a c e (omega arith)))

-- as the code reads them: of two tables, and of one against 0
module _ (s : List ℕ) (t k x : ℕ) (ex : x ≡ entry_at s t k + 0x100000000 * entry_at s t (k + 1))
    (low : entry_at s t k < 0x100000000) (high : entry_at s t (k + 1) < 0x100000000) where
  pub pair_compared : (u y : ℕ) → y ≡ entry_at s u k + 0x100000000 * entry_at s u (k + 1) → entry_at s u k < 0x100000000
      → entry_at s u (k + 1) < 0x100000000 → not (eqb x y) ≡ any_from (differs_at s t u) k 2
  pair_compared u y ey low_u high_u =
      rw (ex, ey) (pair_differs _ _ _ _ low high low_u high_u ∙ sym (any_two (differs_at s t u) k))

  pub pair_of_zeros : not (eqb x 0) ≡ any_from (named_at s t) k 2
  pair_of_zeros =
      let z : x ≡ entry_at s t k + 0x100000000 * entry_at s t (k + 1) = ex in
      rw z (pair_differs _ _ 0 0 low high (lit< tt) (lit< tt) ∙ sym (any_two (named_at s t) k))

-- ---- loops that go on by m
module _ (p : ℕ → Bool) {r : Bool} (k m : ℕ) (e : r ≡ any_from p k m) where
  pub run_here : (n : ℕ) → k ≤ n → m ≤ n - k → r ≡ true → true ≡ any_below p n
  run_here n l h t =
      let q : n ≡ k + m + (n - (k + m)) = omega arith in
      rw (q, any_split p (k + m) (n - (k + m)), any_split p k m, ← e, t, or-true (any_below p k))

  pub run_next : any_below p k ≡ false → r ≡ false → any_below p (k + m) ≡ false
  run_next b f = rw (any_split p k m, b, ← e) f

-- ---- blocks passed over, in which none breaks a rule
module _ (p : ℕ → Bool) (from b : ℕ) where
  module _ {r : Bool} (none : (j : ℕ) → from ≤ j → j < from + 16 * b → p j ≡ false)
      (e : r ≡ any_from p (from + 16 * b) 16) where
    pub block_none : r ≡ false → (j : ℕ) → from ≤ j → j < from + 16 * (b + 1) → p j ≡ false
    unfolding any_from
    block_none f j low high =
        ⊎_elim (λ l. none j low l)
        (λ g. let q : j ≡ from + 16 * b + (j - (from + 16 * b)) = omega arith in
        let l : j - (from + 16 * b) < 16 = omega arith in
        rw q (some_no (λ i. p (from + 16 * b + i)) 16 (sym e ∙ f) (j - (from + 16 * b)) l)) (lt_or_ge j (from + 16 * b))

    pub block_held : (n : ℕ) → from + 16 * b ≤ n → r ≡ true → PastBlocks p from n (from + 16 * b)
    block_held n h t = record { low = omega arith; high = h; none = none; stopped = λ m. sym e ∙ t }

  pub block_last : (n blocks : ℕ) → from ≤ n → blocks ≡ (n - from) / 16 → b ≡ blocks
      → ((j : ℕ) → from ≤ j → j < from + 16 * b → p j ≡ false) → PastBlocks p from n (from + 16 * blocks)
  block_last n blocks h e q none =
      record {
        low = omega arith;
        high = omega arith;
        none = λ j low high. none j low (omega arith);
        stopped = λ m. absurd (omega arith);
      }

-- ---- zeros passed over
pub zeros_passed : (s : List ℕ) (t k n r : ℕ) → PastBlocks (named_at s t) k n r → Passed s t k n r
zeros_passed s t k n r p =
    record {
      low = p.low;
      high = p.high;
      zeros = λ j a b. eqb-true (entry_at s t j) 0 (not_no _ (p.none j a b));
    }

-- a block of zeros more
module _ {r : Bool} (s : List ℕ) (t k : ℕ) (e : r ≡ any_from (named_at s t) k 16) (f : r ≡ false) where
  block_zero : (i : ℕ) → i < 16 → entry_at s t (k + i) ≡ 0
  unfolding any_from
  block_zero i l = eqb-true (entry_at s t (k + i)) 0 (not_no _ (some_no (λ j. named_at s t (k + j)) 16 (sym e ∙ f) i l))

  pub passed_more : (from n : ℕ) → Passed s t from n k → 16 ≤ n - k → Passed s t from n (k + 16)
  passed_more from n p h =
      record {
        low = omega (arith, p.low);
        high = omega (arith, p.high);
        zeros = λ j a b. ⊎_elim (λ l. p.zeros j a l)
            (λ g. let q : j ≡ k + (j - k) = omega arith in let l : j - k < 16 = omega arith in rw q (block_zero (j - k) l))
            (lt_or_ge j k);
      }
