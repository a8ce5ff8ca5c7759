-- The dirty number decides no check, lookup, chain lookup, frame or row: what request A5 promises beside 27.
use Prim.Native.Nat.{ℕ, ◌<◌}
use mathlib.Core.Path.{◌≡◌, refl}
use mathlib.Core.List.{List}
use mathlib.Core.Logic.{◌⊎◌, ⊎_elim}
use native.Mathlib.Omega.{arith}
use lib.ListN.{length}
use Rattle.format.specs.Header.{judge}
use Rattle.format.specs.Check.{check}
use Rattle.format.specs.Source.{sector_lookup}
use Rattle.format.specs.Chain.{layer_at, if_known, chain_lookup}
use Rattle.format.specs.Frame.{frame, frame_list}
use Rattle.format.specs.Survey.{row_of}
use Rattle.base.specs.Bytes.{SameBytes}
use Rattle.laws.specs.StillOpen.{OtherNumber}
use Rattle.laws.specs.StillOpen.OtherNumber.{kdmv, footer}
use Rattle.format.proofs.SameHeader.{front_sizes}
use Rattle.laws.proofs.UsedChain.{SameLayer, layers_chain}
use Rattle.laws.proofs.StillOpenUsed.{answer_with, SameElse, else_check, else_lookup, else_frame, else_list, else_row}
use Rattle.laws.proofs.StillOpenFront.{else_kdmv}
use Rattle.laws.proofs.StillOpenAccepted.{else_footer}
use Rattle.std.specs.Prelude.{Result, Ok, Err}
use Rattle.format.specs.declared.Header.{Header}
use Rattle.format.specs.declared.LayerSource.{LayerSource}
use Rattle.format.specs.declared.LayerRefusal.{LayerRefusal}
use Rattle.format.specs.declared.Refusal.{Refusal}

else_of : (s t : List ℕ) → OtherNumber s t → SameElse s t
else_of s t (kdmv both magic none) = else_kdmv s t both magic none
else_of s t (footer both magic end a) = else_footer s t both magic end a.0 a.1 a.2

-- the bytes before the number
front_of : (s t : List ℕ) → OtherNumber s t → SameBytes s t 0 28
front_of s t (kdmv both magic none) i l b = both.before i (omega arith)
front_of s t (footer both magic end a) i l b = both.same i (λ z. omega arith) (λ z. omega arith)

-- ---- one image
module _ (s t : List ℕ) (other : OtherNumber s t) where
  pub open_check : check s ≡ check t
  open_check = else_check s t (else_of s t other)

  pub open_lookup : (x : ℕ) → sector_lookup s x ≡ sector_lookup t x
  open_lookup = else_lookup s t (else_of s t other)

  pub open_frame : (list : List ℕ) → (frame s (length list) ≡ frame t (length list)) × (frame_list s list ≡ frame_list t list)
  open_frame list = let e = else_of s t other in (else_frame s t e (length list), else_list s t e list)

  pub open_row : row_of s ≡ row_of t
  open_row = else_row s t (else_of s t other)

  known_too : (n k : ℕ) (a : Result LayerSource LayerRefusal) (h : Result Header Refusal) → if_known k h a
      ≡ if_known k (answer_with n h) a
  unfolding if_known answer_with
  known_too n k a (Err r) = refl
  known_too n k a (Ok h) = refl

  open_layer : SameLayer s t
  open_layer =
      let e = else_of s t other in
      let sizes = front_sizes s t (front_of s t other) in
      record {
        judged = λ k a. rw e.judged (known_too e.number k a (judge s));
        capacity = sizes.0;
        grain_size = sizes.1;
        looked = open_lookup;
      }

-- ---- a chain: each layer is the same, or the same but for its number
same_layer : (s t : List ℕ) → s ≡ t → SameLayer s t
same_layer s t e = record { judged = λ k a. rw e; capacity = rw e; grain_size = rw e; looked = λ x. rw e }

pub open_chain : (s t lengths : List ℕ) → length s ≡ length t
    → ((k : ℕ) → k < length lengths → (layer_at s lengths k ≡ layer_at t lengths k)
    ⊎ (OtherNumber (layer_at s lengths k) (layer_at t lengths k)))
    → (x : ℕ) → chain_lookup s lengths x ≡ chain_lookup t lengths x
open_chain s t lengths long each =
    layers_chain s t lengths long (λ k l. ⊎_elim (same_layer _ _) (open_layer _ _) (each k l))
