-- An image that is not refused 1 to 9: all its areas lie in the file.
use Prim.Native.Nat.{ℕ, ◌≤◌}
use mathlib.Core.Path.{◌≡◌}
use mathlib.Core.List.{List, []}
use mathlib.Core.Bool.{true, false, false≢true}
use mathlib.Core.Logic.{⊎_elim}
use native.Mathlib.Omega.{arith}
use borrow.Author.Tests.{eqb-true}
use Rattle.format.specs.Geometry.{file_sectors}
use Rattle.format.specs.Kdmv.{kdmv_fields}
use Rattle.format.specs.Cowd.{cowd_fields}
use Rattle.format.specs.Header.{kdmv_header, cowd_header, kdmv_header_of, cowd_header_of, grains_of, judge_of}
use Rattle.format.specs.Areas.{grain_area, areas, runs_past}
use Rattle.format.specs.Check.{misplaced, grain_past, lowest_past}
use Rattle.format.specs.Accepted.{KdmvRules, CowdRules}
use Rattle.format.specs.declared.Taken.{Taken}
use Rattle.format.specs.declared.Header.{Header}
use Rattle.format.proofs.HeaderJudged.{taken_rules}
use Rattle.format.proofs.Inside.{in_one, none_in, in_rows, in_there, Inside, in_groups}
use Rattle.format.proofs.LowestGrain.{none_lowest}
use Rattle.format.proofs.Places.{places_kept}
use Rattle.std.specs.Prelude.{Ok, None}

-- header, footer and last sector lie in the file
pub record Fronted (s : List ℕ) (h : Header) : Type 0 where
  pub front : h.header_sectors ≤ file_sectors s
  pub back : h.footer ≡ true → 2 ≤ file_sectors s

module _ (s : List ℕ) where
  kdmv_fronted : KdmvRules s (kdmv_fields s) → Fronted s (kdmv_header_of s)
  unfolding kdmv_header
  kdmv_fronted r = record {
    front = omega (arith, r.long);
    back = λ t. let e = r.at_end (eqb-true _ _ t) in omega (arith, e.1.long);
  }

  cowd_fronted : CowdRules s (cowd_fields s) → Fronted s (cowd_header_of s)
  unfolding cowd_header
  cowd_fronted r = record { front = omega (arith, r.long); back = λ t. absurd (false≢true t) }

  module _ (h : Header) where
    -- so it is where 1 to 7 are not given
    pub taken_front : (taken : Taken) → judge_of taken s ≡ Ok h → Fronted s h
    taken_front taken e =
        ⊎_elim (λ r. rw r.1 (kdmv_fronted r.0)) (λ r. rw r.2 (cowd_fronted r.1)) (taken_rules s taken h e)

    -- and with 8 and 9 all areas do
    pub inside_all : Fronted s h → misplaced s h ≡ false → lowest_past s h ≡ None → Inside s h
    inside_all b e n =
        let f = file_sectors s in
        let q = places_kept s h e in
        record {
          header = in_one f _ [] (omega (arith, b.front)) (none_in f);
          descriptor = q.descriptor;
          directory = q.directory;
          redundant = q.redundant;
          tables = q.tables;
          copies = q.copies;
          footer = in_there f h.footer _ (λ t. omega (arith, b.back t));
          last = in_there f h.footer _ (λ t. omega (arith, b.back t));
          grains = in_rows f (grains_of h) (grain_area s h) (none_lowest (grain_past s h) (grains_of h) n);
        }

    pub all_in_file : (taken : Taken) → judge_of taken s ≡ Ok h → misplaced s h ≡ false → lowest_past s h ≡ None
        → runs_past (file_sectors s) (areas s h) ≡ false
    all_in_file taken e m n = in_groups s h (inside_all (taken_front taken e) m n)
