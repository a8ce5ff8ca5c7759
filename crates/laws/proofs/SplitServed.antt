-- A disk of several files: each sector below the sum has exactly one extent, the answer is that extent's, and only its own file
-- counts. What request A4 promises.
use Prim.Native.Nat.{ℕ, ◌+◌, ◌-◌, ◌≤◌, ◌<◌}
use mathlib.Core.Path.{◌≡◌, refl, sym, ap, subst, ◌∙◌}
use mathlib.Core.List.{List, [], append-nil}
use mathlib.Core.Bool.{true, false, ◌||◌}
use mathlib.Core.Logic.{⊎_elim}
use native.Mathlib.Omega.{arith}
use native.Mathlib.Nat.{zero-add}
use lib.Dec.{eqb}
use lib.ListN.{length, get_or, take}
use borrow.Author.Tests.{eq-eqb, ne_eqb, eqb-true, eqb-false, le-ltb, ltb-false}
use Rattle.base.specs.Pick.{pick}
use Rattle.base.specs.Strings.{same_at}
use Rattle.base.proofs.Steps.{true_or_false}
use Rattle.descriptor.specs.Extents.{NOACCESS, FLAT, VMFS, SPARSE, VMFSSPARSE, ZERO}
use Rattle.descriptor.specs.Descriptor.{no_extent, read_text}
use Rattle.descriptor.specs.Records.{found_at, not_found, find_answer}
use Rattle.descriptor.specs.declared.Extent.{Extent}
use Rattle.std.specs.Prelude.{Ok}
use Rattle.descriptor.specs.declared.Parsed.{Parsed}
use Rattle.descriptor.specs.declared.State.{State}
use Rattle.format.specs.Geometry.{file_sectors, bytes_at}
use Rattle.format.specs.Kdmv.{kdmv_magic}
use Rattle.format.specs.Cowd.{cowd_magic}
use Rattle.format.specs.Header.{header_of}
use Rattle.format.specs.Check.{check}
use Rattle.format.specs.Source.{source_of, sector_lookup}
use Rattle.format.specs.Chain.{layer_at}
use Rattle.format.specs.declared.Refusal.TheVariants.{KindGone}
use Rattle.format.specs.declared.Source.TheVariants.{Zero, Stored}
use Rattle.format.specs.declared.LayerSource.{LayerSource}
use Rattle.format.proofs.Picked.{pick_then, pick_else, passed}
use Rattle.disk.specs.Split.{source_in, in_zero, in_plain, looked_up, in_accepted, in_image, by_type, in_extent}
use Rattle.disk.specs.Split.{split_lengths_broken, extents_of, at_extent, split_from, split}
use Rattle.laws.proofs.ExtentsLaid.{sectors_of, Holder, Laid, laid_sum, none_past, Met, meets}
use Rattle.laws.proofs.ExtentsRead.{Read, text_read}
use Rattle.laws.proofs.AcceptedImage.{accepted_sound}
use Rattle.laws.proofs.ServedSectors.{served}
use Rattle.std.specs.Prelude.{Result, Ok, Err}
use Rattle.format.specs.declared.Shape.{Shape}
use Rattle.format.specs.declared.Source.{Source}
use Rattle.format.specs.declared.Refusal.{Refusal}
use Rattle.format.specs.AnswerParts.{accepted_as}
use Rattle.disk.specs.declared.SplitRefusal.TheVariants.{SectorPast, OtherFile, Image}

-- ---- the extents of a text that is not refused
module _ (text : List ℕ) (p : Parsed) (ok : read_text text ≡ Ok p) where
  abbrev extents : List Extent
  extents = extents_of p

  read : Read p
  read = text_read text p ok

  sum_is : sectors_of extents ≡ read.sum
  sum_is = sym (zero-add _) ∙ laid_sum 0 read.sum extents read.laid

  module _ (x : ℕ) where
    met : x < sectors_of extents → Met extents x
    met h = meets 0 read.sum extents x read.laid (omega arith) (subst (λ (n : ℕ). x < n) sum_is h)

    -- each sector below the sum has exactly one extent
    pub one_extent : x < sectors_of extents → Holder extents x
    one_extent h = (met h).holder

    found_one : (h : x < sectors_of extents) → find_answer extents x ≡ found_at (one_extent h).number
    unfolding one_extent
    found_one h =
        ap (λ (es : List Extent). find_answer es x) (sym (append-nil extents)) ∙ (met h).found [] 0 ∙ ap found_at (zero-add _)

    -- ---- where 24 is not given
    module _ (files lengths : List ℕ) (whole : split_lengths_broken p.count files lengths ≡ false) where
      -- the answer is that of its own extent
      pub split_answer : (h : x < sectors_of extents) → split text files lengths x
          ≡ in_extent (layer_at files lengths (one_extent h).number) (get_or extents (one_extent h).number no_extent)
          (one_extent h).number (x - (get_or extents (one_extent h).number no_extent).first)
      unfolding split_from at_extent pick
      split_answer h = rw (ok, whole, found_one h)

      -- a sector past the last extent is refused 20
      pub split_past : sectors_of extents ≤ x → split text files lengths x ≡ Err SectorPast
      unfolding split_from at_extent pick
      split_past h =
          let none : find_answer extents x ≡ not_found =
          none_past 0 read.sum extents x 0 read.laid (subst (λ (n : ℕ). n ≤ x) sum_is h) in
          rw (ok, whole, none)

-- ---- nothing but the sector's own file is judged
pub own_file_alone : (text : List ℕ) (p : Parsed) (ok : read_text text ≡ Ok p) (x : ℕ)
    (h : x < sectors_of (extents_of p)) (files lengths others theirs : List ℕ)
    → split_lengths_broken p.count files lengths ≡ false
    → split_lengths_broken p.count others theirs ≡ false
    → layer_at files lengths (one_extent text p ok x h).number ≡ layer_at others theirs (one_extent text p ok x h).number
    → split text files lengths x ≡ split text others theirs x
own_file_alone text p ok x h files lengths others theirs a b same =
    rw (split_answer text p ok x files lengths a h, split_answer text p ok x others theirs b h, same)

-- ---- the source of each type, sector o of extent i in the file s
module _ (s : List ℕ) (e : Extent) (i o : ℕ) (allowed : e.access ≡ NOACCESS → ⊥) where
  by_type_lem : in_extent s e i o ≡ by_type s e i o
  unfolding in_extent pick
  by_type_lem = rw (ne_eqb e.access NOACCESS allowed)

  -- what a test of the type says, where the type is known
  is : {kind : ℕ} → e.kind ≡ kind → (other : ℕ) → eqb e.kind other ≡ eqb kind other
  is k other = ap (λ n. eqb n other) k

  plain_is : {kind : ℕ} → e.kind ≡ kind → (eqb e.kind FLAT || eqb e.kind VMFS) ≡ (eqb kind FLAT || eqb kind VMFS)
  plain_is k = ap (λ n. eqb n FLAT || eqb n VMFS) k

  pub zero_served : e.kind ≡ ZERO → length s ≡ 0 → in_extent s e i o ≡ source_in i Zero
  unfolding by_type in_zero pick
  zero_served k n = by_type_lem ∙ rw (k, n)

  module _ (inside : e.offset + e.sectors ≤ file_sectors s) where
    pub flat_served : e.kind ≡ FLAT → in_extent s e i o ≡ source_in i (Stored (e.offset + o))
    unfolding by_type in_plain pick
    flat_served k = by_type_lem ∙ rw (k, le-ltb (file_sectors s) (e.offset + e.sectors) inside)

    pub vmfs_served : e.kind ≡ VMFS → in_extent s e i o ≡ source_in i (Stored (e.offset + o))
    unfolding by_type in_plain pick
    vmfs_served k = by_type_lem ∙ rw (k, le-ltb (file_sectors s) (e.offset + e.sectors) inside)

  -- an image: accepted, of its own kind, with the line's capacity. Then it is the lookup's answer on the file alone
  module _ (size : ℕ) (passed : check s ≡ accepted_as e.sectors size) (low : o < e.sectors) where
    sound : sector_lookup s o ≡ Ok (source_of s (header_of s) o)
    sound =
        let a = accepted_sound s e.sectors size passed in
        served s a.0 o (subst (λ (n : ℕ). o < n) a.1 low)

    pub image_answer : in_accepted s e i o (check s) ≡ source_in i (source_of s (header_of s) o)
    unfolding in_accepted looked_up pick
    image_answer = rw (passed, eq-eqb e.sectors e.sectors refl, sound)

    pub sparse_served : e.kind ≡ SPARSE → same_at s 0 cowd_magic ≡ false
        → (in_extent s e i o ≡ source_in i (source_of s (header_of s) o))
        × (sector_lookup s o ≡ Ok (source_of s (header_of s) o))
    unfolding by_type in_image
    sparse_served k m = (
      by_type_lem ∙ pick_else _ _ _ (is k ZERO) ∙ pick_else _ _ _ (plain_is k) ∙ pick_then _ _ _ (is k SPARSE)
          ∙ pick_else _ _ _ m ∙ image_answer,
      sound,
    )

  -- COWD's magic under SPARSE is 45, before the image's own numbers
  pub sparse_other : e.kind ≡ SPARSE → same_at s 0 cowd_magic ≡ true → in_extent s e i o ≡ Err (OtherFile i)
  unfolding by_type in_image
  sparse_other k m =
      by_type_lem ∙ pick_else _ _ _ (is k ZERO) ∙ pick_else _ _ _ (plain_is k) ∙ pick_then _ _ _ (is k SPARSE)
      ∙ pick_then _ _ _ m

  -- VMFSSPARSE is 43 by the line alone, whatever its file holds
  pub vmfssparse_gone : e.kind ≡ VMFSSPARSE → in_extent s e i o ≡ Err (Image i KindGone)
  unfolding by_type
  vmfssparse_gone k =
      by_type_lem ∙ pick_else _ _ _ (is k ZERO) ∙ pick_else _ _ _ (plain_is k) ∙ pick_else _ _ _ (is k SPARSE)

-- ---- and back: what was found tells of the file
module _ (s : List ℕ) (e : Extent) (i o : ℕ) (a : LayerSource) (found : in_extent s e i o ≡ Ok a) where
  pub to_type : (eqb e.access NOACCESS ≡ false) × (by_type s e i o ≡ Ok a)
  unfolding in_extent
  to_type = passed _ _ _ (Ok a) (λ q. let z : ◌≡◌ {A = ℕ} 0 1 = cc in omega arith) found

  -- it is not NOACCESS
  pub found_allowed : e.access ≡ NOACCESS → ⊥
  found_allowed = eqb-false _ _ to_type.0

  -- all of a plain line's sectors lie in the file
  to_plain : (eqb e.kind ZERO ≡ false) → (eqb e.kind FLAT || eqb e.kind VMFS) ≡ true
      → e.offset + e.sectors ≤ file_sectors s
  unfolding by_type in_plain
  to_plain z p =
      let q = sym (pick_else _ _ _ z ∙ pick_then _ _ _ p) ∙ to_type.1 in
      ltb-false _ _ (passed _ _ _ (Ok a) (λ q. let z : ◌≡◌ {A = ℕ} 0 1 = cc in omega arith) q).0

  pub found_flat : e.kind ≡ FLAT → e.offset + e.sectors ≤ file_sectors s
  found_flat k = to_plain (ap (λ n. eqb n ZERO) k) (ap (λ n. eqb n FLAT || eqb n VMFS) k)

  pub found_vmfs : e.kind ≡ VMFS → e.offset + e.sectors ≤ file_sectors s
  found_vmfs k = to_plain (ap (λ n. eqb n ZERO) k) (ap (λ n. eqb n FLAT || eqb n VMFS) k)

-- an image that serves a sector is accepted, has the line's capacity, and the source is its own lookup's
looked_back : (i : ℕ) (looked : Result Source Refusal) (a : LayerSource) → looked_up i looked ≡ Ok a → looked ≡ Ok a.source
unfolding looked_up
looked_back i (Ok source) a q = let z : a ≡ record { layer = i; source = source } = cc in rw z
looked_back i (Err r) a q = let z : ◌≡◌ {A = ℕ} 0 1 = cc in absurd (omega arith)

pub record Serves (s : List ℕ) (e : Extent) (o : ℕ) (a : LayerSource) : Type 0 where
  pub size : ℕ
  pub accepted : check s ≡ accepted_as e.sectors size
  pub looked : sector_lookup s o ≡ Ok a.source

accepted_back : (s : List ℕ) (e : Extent) (i o : ℕ) (j : Result Shape Refusal) (a : LayerSource) → check s ≡ j
    → in_accepted s e i o j ≡ Ok a → Serves s e o a
unfolding in_accepted
accepted_back s e i o (Err r) a k q = let z : ◌≡◌ {A = ℕ} 0 1 = cc in absurd (omega arith)
accepted_back s e i o (Ok sizes) a k q =
    ⊎_elim
    (λ t. record {
      size = sizes.grain_size;
      accepted = k ∙ ap (λ n. accepted_as n sizes.grain_size) (eqb-true sizes.capacity e.sectors t);
      looked = looked_back i (sector_lookup s o) a (sym (pick_then _ _ _ t) ∙ q);
    })
    (λ f. let y = sym (pick_else _ _ _ f) ∙ q in let z : ◌≡◌ {A = ℕ} 0 1 = cc in absurd (omega arith))
    (true_or_false (eqb sizes.capacity e.sectors))

-- and it is a KDMV image
module _ (s : List ℕ) (e : Extent) (i o : ℕ) (a : LayerSource) (found : in_extent s e i o ≡ Ok a) where
  pub image_back : in_image s e i o ≡ Ok a → (same_at s 0 cowd_magic ≡ false) × (Serves s e o a)
  unfolding in_image
  image_back q =
      let p = passed _ _ _ (Ok a) (λ q. let z : ◌≡◌ {A = ℕ} 0 1 = cc in omega arith) q in
      (p.0, accepted_back s e i o (check s) a refl p.1)

  pub found_sparse : e.kind ≡ SPARSE → (bytes_at s 0 4 ≡ kdmv_magic) × (Serves s e o a)
  unfolding by_type
  found_sparse k =
      let p =
      image_back
      (sym (pick_else _ _ _ (ap (λ n. eqb n ZERO) k) ∙ pick_else _ _ _ (ap (λ n. eqb n FLAT || eqb n VMFS) k)
      ∙ pick_then _ _ _ (ap (λ n. eqb n SPARSE) k)) ∙ (to_type s e i o a found).1) in
      ((accepted_sound s e.sectors p.1.size p.1.accepted).0.rules.magic, p.1)

  -- of VMFSSPARSE nothing is served
  pub none_vmfssparse : e.kind ≡ VMFSSPARSE → ⊥
  none_vmfssparse k =
      let q = sym (vmfssparse_gone s e i o (found_allowed s e i o a found) k) ∙ found in
      let z : ◌≡◌ {A = ℕ} 0 1 = cc in
      omega arith
