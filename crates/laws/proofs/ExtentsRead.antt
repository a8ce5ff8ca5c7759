-- What is known after some lines lays its extents end to end; and so does a text that is accepted.
use Prim.Native.Nat.{ℕ, zero, suc, ◌+◌, ◌≤◌, ◌<◌}
use mathlib.Core.Path.{◌≡◌, refl, sym, ap, subst, ◌∙◌}
use mathlib.Core.List.{List, [], ◌∷◌, ◌++◌}
use mathlib.Core.Bool.{Bool, true, false}
use native.Mathlib.Omega.{arith}
use native.Mathlib.Nat.{not-suc-le-zero, le_of_suc-le-suc}
use native.Mathlib.Numerals.{add-one}
use lib.Dec.{ltb, eqb}
use lib.ListN.{length, take, set, length-set, length-replicate}
use borrow.Author.Tests.{eqb-false, ltb-false}
use Rattle.base.specs.Pick.{pick}
use Rattle.base.proofs.Steps.{or_no, cond_all}
use Rattle.descriptor.specs.declared.Extent.{Extent}
use Rattle.std.specs.Prelude.{Option, None, Some, Result, Ok, Err, IfOk}
use Rattle.descriptor.specs.declared.KeyValue.{KeyValue}
use Rattle.descriptor.specs.declared.KeyValue.TheVariants.{Version, Cid, ParentCid, CreateType}
use Rattle.descriptor.specs.declared.Line.TheVariants.{Skip, Holds, Key}
use Rattle.descriptor.specs.declared.State.{State}
use Rattle.descriptor.specs.declared.Quoted.{Quoted}
use Rattle.descriptor.specs.declared.Parsed.{Parsed}
use Rattle.descriptor.specs.declared.TextRefusal.{TextRefusal}
use Rattle.descriptor.specs.Said.{Said}
use Rattle.descriptor.specs.Text.{Span, lines, text_of, end_of, bytes_of}
use Rattle.descriptor.specs.Words.{trim}
use Rattle.descriptor.specs.Line.{line}
use Rattle.descriptor.specs.Descriptor.{no_extent, start, skipped, opened, added, noted, once, taken, judged_line, step}
use Rattle.descriptor.specs.Descriptor.{extents_bad, judged_end, accepted, needed, ended, unless_refused, judged}
use Rattle.descriptor.specs.Descriptor.{judged_text, read_text}
use Rattle.laws.proofs.ExtentsLaid.{Laid, laid_more}
use Rattle.laws.proofs.ExtentsLines.{Starts, extent_at, line_starts}

-- ---- after some lines
-- there are 32 records, and as long as the extents are no more, theirs lie end to end from sector 0 up to the sum
pub record Known (st : State) : Type 0 where
  pub slots : length st.records ≡ 32
  pub laid : st.extents ≤ 32 → Laid 0 (take st.extents st.records) st.sum

take_set : (rs : List Extent) (n : ℕ) (e : Extent) → n < length rs → take (suc n) (set rs n e) ≡ take n rs ++ e ∷ []
take_set [] n e h = absurd (not-suc-le-zero h)
take_set (r ∷ rs) zero e h = refl
take_set (r ∷ rs) (suc n) e h = ap (λ (l : List Extent). r ∷ l) (take_set rs n e (le_of_suc-le-suc h))

start_known : Known start
start_known = record { slots = length-replicate 32 no_extent; laid = λ h. refl }

-- P of what comes, unless there is a refusal
either : {A : Type 0} (P : A → Type 0) (b : Bool) (x y : Result A TextRefusal)
    → (b ≡ true → IfOk x P) → (b ≡ false → IfOk y P) → IfOk (pick b x y) P
either P b x y f g = cond_all (λ r. IfOk r P) b x y f g

module _ (st : State) (k : Known st) where
  skipped_known : Known (skipped st)
  unfolding skipped
  skipped_known = record { slots = k.slots; laid = k.laid }

  opened_known : Known (opened st)
  unfolding opened
  opened_known = record { slots = k.slots; laid = k.laid }

  abbrev before : List Extent
  before = take st.extents st.records

  -- the records with one more
  more : (e : Extent) → st.extents + 1 ≤ 32 → take (st.extents + 1) (set st.records st.extents e) ≡ before ++ e ∷ []
  more e l =
      ap (λ (n : ℕ). take n (set st.records st.extents e)) (add-one st.extents)
      ∙ take_set st.records st.extents e (omega (arith, k.slots))

  added_known : (e : Extent) → e.first ≡ st.sum → 0 < e.sectors → Known (added e st)
  unfolding added
  added_known e q h =
      record {
        slots = length-set st.records st.extents e ∙ k.slots;
        laid = λ l.
            subst (λ (es : List Extent). Laid 0 es (st.sum + e.sectors)) (sym (more e l))
            (laid_more 0 st.sum before e (k.laid (omega arith)) q h);
      }

  noted_known : (key : KeyValue) → Known (noted key st)
  unfolding noted
  noted_known (Version n) = record { slots = k.slots; laid = k.laid }
  noted_known (Cid n) = record { slots = k.slots; laid = k.laid }
  noted_known (ParentCid n) = record { slots = k.slots; laid = k.laid }
  noted_known (CreateType part) = record { slots = k.slots; laid = k.laid }

  once_known : (key : KeyValue) → IfOk (once key st) Known
  unfolding once
  once_known key = either Known _ _ _ (λ e. noted_known key) (λ e. tt)

  taken_known : (l : Said) → Starts st.sum l → IfOk (taken st l) Known
  taken_known (Ok Skip) s = skipped_known
  taken_known (Ok (Holds e)) (extent_at q h) = added_known e q h
  taken_known (Ok (Key value)) s = once_known value
  taken_known (Err fault) s = tt

  line_known : (end : ℕ) (w : List ℕ) → IfOk (judged_line st end w) Known
  unfolding judged_line
  line_known end w =
      either Known _ _ _ (λ e. taken_known (line st.sum end w) (line_starts st.sum end w))
      (λ e. either Known _ _ _ (λ e. skipped_known) (λ e. either Known _ _ _ (λ e. opened_known) (λ e. tt)))

  step_known : (text : List ℕ) (l : Span) → IfOk (step text st l) Known
  unfolding step
  step_known text l = line_known (end_of text l) (trim (bytes_of text l))

-- ---- what the bounds say
module _ (st : State) (good : extents_bad st ≡ false) where
  pub some_extent : 0 < st.extents
  some_extent = let n = eqb-false st.extents 0 (or_no (eqb st.extents 0) _ good).0 in omega (arith, n)

  within : (ltb 32 st.extents ≡ false) × (ltb 0x80000000 st.sum ≡ false)
  within = or_no (ltb 32 st.extents) _ (or_no (eqb st.extents 0) _ good).1

  pub few_extents : st.extents ≤ 32
  few_extents = ltb-false _ _ within.0

  pub small_sum : st.sum ≤ 0x80000000
  small_sum = ltb-false _ _ within.1

-- ---- at the end
-- what comes of a text: its extents lie end to end from sector 0 up to their sum, and their number and sum are within bounds
pub record Read (p : Parsed) : Type 0 where
  pub sum : ℕ
  pub slots : length p.records ≡ 32
  pub laid : Laid 0 (take p.count p.records) sum
  pub some : 0 < p.count
  pub few : p.count ≤ 32
  pub small : sum ≤ 0x80000000
  pub none : p.answer.number ≡ 0
  pub told : p.answer.extents ≡ p.count

module _ (st : State) (k : Known st) where
  accepted_read : (version cid parent_cid : ℕ) (create_type : Quoted) → extents_bad st ≡ false
      → Read (accepted st version cid parent_cid create_type)
  accepted_read version cid parent_cid create_type good =
      record {
        sum = st.sum;
        slots = k.slots;
        laid = k.laid (few_extents st good);
        some = some_extent st good;
        few = few_extents st good;
        small = small_sum st good;
        none = refl;
        told = refl;
      }

  there : {A : Type 0} (o : Option A) (f : A → Result Parsed TextRefusal) → ((x : A) → IfOk (f x) Read)
      → IfOk (needed o f) Read
  there None f g = tt
  there (Some x) f g = g x

  ended_read : IfOk (ended st) Read
  unfolding ended judged_end
  ended_read =
      either Read _ _ _
      (λ e. there st.version _ (λ version. there st.cid _ (λ cid. there st.parent_cid _ (λ parent_cid.
      there st.create_type _ (λ create_type.
      either Read (extents_bad st) _ _ (λ e. tt) (λ e. accepted_read version cid parent_cid create_type e))))))
      (λ e. tt)

carried : (r : Result State TextRefusal) (f : State → Result Parsed TextRefusal) → IfOk r Known
    → ((s : State) → Known s → IfOk (f s) Read)
    → IfOk (unless_refused r f) Read
carried (Ok s) f k g = g s k
carried (Err e) f k g = tt

judged_read : (text : List ℕ) (st : State) (ls : List Span) → Known st → IfOk (judged text st ls) Read
unfolding judged
judged_read text st [] k = ended_read st k
judged_read text st (l ∷ ls) k =
    carried (step text st l) (λ s. judged text s ls) (step_known st k text l) (λ s m. judged_read text s ls m)

all_read : (s : List ℕ) → IfOk (read_text s) Read
unfolding read_text
all_read s =
    either Read _ _ _ (λ e. tt)
    (λ e. either Read _ _ _ (λ e. judged_read (text_of s) start (lines (text_of s)) start_known) (λ e. tt))

pub text_read : (s : List ℕ) (p : Parsed) → read_text s ≡ Ok p → Read p
text_read s p e = subst (λ (r : Result Parsed TextRefusal). IfOk r Read) e (all_read s)
