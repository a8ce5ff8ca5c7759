-- The KDMV header: no fault is found exactly where its declared rules hold.
use Prim.Native.Nat.{ℕ, ◌/◌, ◌%◌, ◌≤◌}
use mathlib.Core.Path.{◌≡◌, sym, ◌∙◌}
use mathlib.Core.List.{List}
use mathlib.Core.Bool.{Bool, true, false, not, ◌&&◌, ◌||◌, and-false}
use mathlib.Core.Logic.{⊎_elim}
use native.Mathlib.Omega.{arith}
use lib.Dec.{ltb, eqb}
use lib.ListN.{length}
use borrow.Author.Tests.{ltb-false, le-ltb, eqb-true, eqb-false, eq-eqb, ne_eqb, not-false}
use Rattle.base.specs.Strings.{same_at}
use Rattle.base.proofs.Steps.{or_no, true_or_false}
use Rattle.base.proofs.Strings.{same_bytes, bytes_same}
use Rattle.format.specs.Kdmv.{kdmv_magic, newline_bytes, version_broken, flag_set, newline_broken, at_end, other_flags}
use Rattle.format.specs.Kdmv.{flags_broken, capacity_broken, grain_size_broken, kdmv_sizes_broken, kdmv_fault, footer_broken}
use Rattle.format.specs.Header.{kdmv_one_is_zero}
use Rattle.format.specs.Accepted.{KdmvRules}
use Rattle.format.specs.declared.KdmvFields.{KdmvFields}
use Rattle.format.specs.declared.Refusal.TheVariants.{Version, Newline, Flags, Sizes}
use Rattle.format.proofs.Picked.{pick_else, none_found, and_no, no_and}
use Rattle.format.proofs.HeaderSizes.{capacity_kept, kept_capacity, grain_size_kept, kept_grain_size}
use Rattle.format.proofs.HeaderFooter.{footer_kept, kept_footer}
use Rattle.std.specs.Prelude.{Ok, Err}

pub no_or : (a b : Bool) → a ≡ false → b ≡ false → (a || b) ≡ false
no_or a b e f = rw (e, f)

-- ---- the parts of 5, each true where it is broken
module _ (k : KdmvFields) where
  record FlagRules : Type 0 where
    others : other_flags k.flags ≡ false
    compression : not (eqb k.compression (k.flags / 0x10000 % 2)) ≡ false
    markers : (flag_set k.flags 0x20000 && not (flag_set k.flags 0x10000)) ≡ false
    redundant : (flag_set k.flags 0x2 && eqb k.redundant 0) ≡ false
    zeroed : (flag_set k.flags 0x4 && eqb k.version 1) ≡ false
    end : (at_end k && not (flag_set k.flags 0x20000)) ≡ false

  flag_rules : flags_broken k ≡ false → FlagRules
  flag_rules e =
      let a = or_no (other_flags k.flags) _ e in
      let b = or_no (not (eqb k.compression (k.flags / 0x10000 % 2))) _ a.1 in
      let d = or_no (flag_set k.flags 0x20000 && not (flag_set k.flags 0x10000)) _ b.1 in
      let g = or_no (flag_set k.flags 0x2 && eqb k.redundant 0) _ d.1 in
      let z = or_no (flag_set k.flags 0x4 && eqb k.version 1) _ g.1 in
      record { others = a.0; compression = b.0; markers = d.0; redundant = g.0; zeroed = z.0; end = z.1 }

  rules_flag : FlagRules → flags_broken k ≡ false
  rules_flag r =
      no_or _ _ r.others
      (no_or _ _ r.compression (no_or _ _ r.markers (no_or _ _ r.redundant (no_or _ _ r.zeroed r.end))))

-- ---- all of them, where the newline field tells of the image
module _ (s : List ℕ) (k : KdmvFields) (newline : k.newline ≡ same_at s 73 newline_bytes) where
  pub kdmv_kept : 512 ≤ length s → same_at s 0 kdmv_magic ≡ true → kdmv_fault k ≡ (Ok tt)
      → (at_end k ≡ true → footer_broken s ≡ false) → KdmvRules s k
  unfolding kdmv_fault
  kdmv_kept long magic e footer =
      let a = none_found (version_broken k) _ _ e in
      let b = none_found (newline_broken k) _ _ a.1 in
      let d = none_found (flags_broken k) _ _ b.1 in
      let g = none_found (kdmv_sizes_broken k) _ _ d.1 in
      let v = or_no (eqb k.version 0) (ltb 3 k.version) a.0 in
      let f = flag_rules k d.0 in
      let c = or_no (capacity_broken k.capacity) _ g.0 in
      let z = or_no (grain_size_broken 8 k.grain_size) (not (eqb k.entries_per_table 512)) c.1 in
      record {
        long = long;
        magic = same_bytes s 0 kdmv_magic (omega arith) magic;
        version = (omega (arith, eqb-false k.version 0 v.0), ltb-false 3 k.version v.1);
        newline = λ t. same_bytes s 73 newline_bytes (omega arith) (sym newline ∙ not-false _ (and_no _ _ b.0 t));
        flags = eqb-true _ _ (not-false _ f.others);
        compression = eqb-true _ _ (not-false _ f.compression);
        markers = λ t. not-false _ (and_no _ _ f.markers t);
        use_redundant = λ t. eqb-false _ _ (and_no _ _ f.redundant t);
        zeroed_entries = λ t. eqb-false _ _ (and_no _ _ f.zeroed t);
        capacity = capacity_kept k.capacity c.0;
        grain_size = grain_size_kept 8 k.grain_size z.0;
        entries = eqb-true _ _ (not-false _ z.1);
        at_end = λ q.
            let t : at_end k ≡ true = eq-eqb _ _ q in
            (not-false _ (and_no _ _ f.end t), footer_kept s (footer t));
      }

  module _ (r : KdmvRules s k) where
    kept_version : version_broken k ≡ false
    kept_version = no_or _ _ (ne_eqb k.version 0 (omega (arith, r.version.0))) (le-ltb 3 k.version r.version.1)

    kept_newline : newline_broken k ≡ false
    kept_newline = no_and _ _ (λ t. rw (newline, bytes_same s 73 newline_bytes (r.newline t)))

    kept_flags : flags_broken k ≡ false
    kept_flags =
        rules_flag k (record {
          others = rw (eq-eqb k.flags _ r.flags);
          compression = rw (eq-eqb k.compression _ r.compression);
          markers = no_and _ _ (λ t. rw (r.markers t));
          redundant = no_and _ _ (λ t. ne_eqb k.redundant 0 (r.use_redundant t));
          zeroed = no_and _ _ (λ t. ne_eqb k.version 1 (r.zeroed_entries t));
          end = no_and _ _ (λ t. rw (r.at_end (eqb-true _ _ t)).0);
        })

    kept_sizes : kdmv_sizes_broken k ≡ false
    kept_sizes =
        no_or _ _ (kept_capacity k.capacity r.capacity)
        (no_or _ _ (kept_grain_size 8 k.grain_size r.grain_size) (rw (eq-eqb k.entries_per_table 512 r.entries)))

    pub kept_kdmv : kdmv_fault k ≡ (Ok tt)
    unfolding kdmv_fault
    kept_kdmv =
        pick_else _ (Err Version) _ kept_version
        ∙ pick_else _ (Err Newline) _ kept_newline
        ∙ pick_else _ (Err Flags) _ kept_flags
        ∙ pick_else _ (Err Sizes) _ kept_sizes

    pub kept_magic : same_at s 0 kdmv_magic ≡ true
    kept_magic = bytes_same s 0 kdmv_magic r.magic

    pub kept_end : at_end k ≡ true → footer_broken s ≡ false
    kept_end t = kept_footer s (r.at_end (eqb-true _ _ t)).1

-- where the rules hold flag 0x4 alone decides whether entry 1 means zeros: version 1 has none
module _ (s : List ℕ) (k : KdmvFields) (r : KdmvRules s k) where
  two_or_three : flag_set k.flags 0x4 ≡ true → (eqb k.version 2 || eqb k.version 3) ≡ true
  two_or_three t =
      ⊎_elim (λ two. rw two)
      (λ f. rw f (eq-eqb k.version 3 (third t (eqb-false k.version 2 f))))
      (true_or_false (eqb k.version 2))
    where
      third : flag_set k.flags 0x4 ≡ true → (k.version ≡ 2 → ⊥) → k.version ≡ 3
      third t other = omega (arith, r.version.0, r.version.1, r.zeroed_entries t, other)

  pub flag_decides : kdmv_one_is_zero k ≡ flag_set k.flags 0x4
  flag_decides =
      ⊎_elim (λ t. rw (t, two_or_three t)) (λ n. rw n (and-false (eqb k.version 2 || eqb k.version 3)))
      (true_or_false (flag_set k.flags 0x4))
