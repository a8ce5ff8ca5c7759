-- The check's steps, each premise as the code gives it.
use Prim.Native.Nat.{ℕ}
use mathlib.Core.Path.{◌≡◌, sym, ◌∙◌}
use mathlib.Core.List.{List}
use mathlib.Core.Bool.{Bool, false}
use Rattle.format.specs.Header.{judge_of}
use Rattle.format.specs.Check.{misplaced, lowest_past, unless_grain, check_from}
use Rattle.format.specs.Judged.{Sound, Placed, Filed, Unmarked}
use Rattle.format.specs.declared.Taken.{Taken}
use Rattle.format.specs.declared.Header.{Header}
use Rattle.format.specs.declared.Refusal.{Refusal}
use Rattle.format.proofs.Filed.{all_in_file}
use Rattle.format.proofs.HeaderSound.{taken_sound}
use Rattle.overlap.specs.InFile.{InFile}
use Rattle.std.specs.Prelude.{Result, Ok, Option, None}

-- ---- what is known on the way
module _ (s : List ℕ) (h : Header) where
  pub placed_of : {r : Bool} → Sound h → r ≡ misplaced s h → r ≡ false → Placed s h
  placed_of e q f = record { sound = e; kept = sym q ∙ f }

  pub filed_of : (l : Option ℕ) → Placed s h → l ≡ lowest_past s h → l ≡ None → Filed s h
  filed_of l p q n = record { placed = p; none = sym q ∙ n }

  pub in_file : (taken : Taken) → Unmarked taken s h → InFile s h
  in_file taken u =
      let p = u.filed.placed in
      record { sound = p.sound; inside = all_in_file s h taken u.judged p.kept u.filed.none }

pub judged_sound : (taken : Taken) (s : List ℕ) (a : Result Header Refusal) (h : Header) → a ≡ judge_of taken s → a ≡ Ok h
    → Sound h
judged_sound taken s a h e q = taken_sound s taken h (sym e ∙ q)
