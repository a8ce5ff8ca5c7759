-- The COWD header: no fault is found exactly where its declared rules hold.
use Prim.Native.Nat.{ℕ, ◌≤◌}
use mathlib.Core.Path.{◌≡◌, ◌∙◌}
use mathlib.Core.List.{List}
use mathlib.Core.Bool.{true, false}
use native.Mathlib.Omega.{arith}
use lib.ListN.{length}
use borrow.Author.Tests.{ltb-false, le-ltb, eqb-true, eq-eqb, not-false}
use Rattle.base.specs.Strings.{same_at}
use Rattle.base.proofs.Steps.{or_no}
use Rattle.base.proofs.Strings.{same_bytes, bytes_same}
use Rattle.format.specs.Kdmv.{capacity_broken, grain_size_broken}
use Rattle.format.specs.Cowd.{cowd_magic, cowd_version_broken, cowd_sizes_broken, count_broken, cowd_fault}
use Rattle.format.specs.Accepted.{CowdRules}
use Rattle.format.specs.declared.CowdFields.{CowdFields}
use Rattle.format.specs.declared.Refusal.TheVariants.{Version, Sizes}
use Rattle.format.proofs.Picked.{pick_else, none_found}
use Rattle.format.proofs.HeaderSizes.{capacity_kept, kept_capacity, grain_size_kept, kept_grain_size}
use Rattle.std.specs.Prelude.{Ok, Err}

module _ (s : List ℕ) (k : CowdFields) where
  pub cowd_kept : 2048 ≤ length s → same_at s 0 cowd_magic ≡ true → cowd_fault k ≡ (Ok tt) → CowdRules s k
  unfolding cowd_fault
  cowd_kept long magic e =
      let a = none_found (cowd_version_broken k) _ _ e in
      let b = none_found (cowd_sizes_broken k) _ _ a.1 in
      let d = none_found (count_broken k) _ _ b.1 in
      let z = or_no (capacity_broken k.capacity) (grain_size_broken 1 k.grain_size) b.0 in
      record {
        long = long;
        magic = same_bytes s 0 cowd_magic (omega arith) magic;
        version = eqb-true _ _ (not-false _ a.0);
        capacity = capacity_kept k.capacity z.0;
        grain_size = grain_size_kept 1 k.grain_size z.1;
        stored_count = ltb-false _ _ d.0;
      }

  module _ (r : CowdRules s k) where
    cowd_sizes : cowd_sizes_broken k ≡ false
    cowd_sizes = rw (kept_capacity k.capacity r.capacity, kept_grain_size 1 k.grain_size r.grain_size)

    pub kept_cowd : cowd_fault k ≡ (Ok tt)
    unfolding cowd_fault
    kept_cowd =
        pick_else _ (Err Version) _ (rw (eq-eqb k.version 1 r.version))
        ∙ pick_else _ (Err Sizes) _ cowd_sizes
        ∙ pick_else _ (Err Sizes) _ (le-ltb _ _ r.stored_count)

    pub cowd_magic_lem : same_at s 0 cowd_magic ≡ true
    cowd_magic_lem = bytes_same s 0 cowd_magic r.magic
