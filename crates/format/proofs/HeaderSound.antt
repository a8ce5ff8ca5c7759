-- A header that is not refused has small sizes, and its directory and tables have room for the entries in use.
use Prim.Native.Nat.{ℕ}
use mathlib.Core.Path.{◌≡◌}
use mathlib.Core.List.{List}
use mathlib.Core.Logic.{⊎_elim}
use native.Mathlib.Omega.{arith}
use lib.Dec.{lit≤}
use Rattle.format.specs.Kdmv.{kdmv_fields}
use Rattle.format.specs.Cowd.{cowd_fields}
use Rattle.format.specs.Header.{kdmv_header, cowd_header, kdmv_header_of, cowd_header_of, judge_of, judge}
use Rattle.format.specs.Accepted.{KdmvRules, CowdRules}
use Rattle.format.specs.Judged.{Sound}
use Rattle.format.specs.declared.Taken.{Taken}
use Rattle.format.specs.declared.Taken.TheVariants.{KdmvAlone}
use Rattle.format.specs.declared.Header.{Header}
use Rattle.format.proofs.Geometry.{directory_room}
use Rattle.format.proofs.HeaderJudged.{taken_rules}
use Rattle.std.specs.Prelude.{Ok}

module _ (s : List ℕ) where
  kdmv_sound : KdmvRules s (kdmv_fields s) → Sound (kdmv_header_of s)
  unfolding kdmv_header
  kdmv_sound r = record {
    sizes = record { low = omega (arith, r.grain_size.low); high = r.grain_size.high; small = r.capacity.high };
    some = lit≤ tt;
    few = lit≤ tt;
    table = lit≤ tt;
    short = lit≤ tt;
    directory = directory_room _;
  }

  cowd_sound : CowdRules s (cowd_fields s) → Sound (cowd_header_of s)
  unfolding cowd_header
  cowd_sound r = record {
    sizes = record { low = r.grain_size.low; high = r.grain_size.high; small = r.capacity.high };
    some = lit≤ tt;
    few = lit≤ tt;
    table = lit≤ tt;
    short = lit≤ tt;
    directory = omega (arith, r.stored_count, directory_room (cowd_fields s).directory_entries);
  }

  pub taken_sound : (taken : Taken) (h : Header) → judge_of taken s ≡ Ok h → Sound h
  taken_sound taken h e =
      ⊎_elim (λ r. rw r.1 (kdmv_sound r.0)) (λ r. rw r.2 (cowd_sound r.1)) (taken_rules s taken h e)

  pub sound_of : (h : Header) → judge s ≡ Ok h → Sound h
  sound_of h e = taken_sound KdmvAlone h e
