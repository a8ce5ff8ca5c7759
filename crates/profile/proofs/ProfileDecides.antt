-- Frame and gap decide the profile: two images of one length that agree in the sectors of the frame of the one and in the gap
-- of its normal form have the same answer, 42's place with it. Bytes of grains decide nothing: where all before them is the
-- form's, so are they.
use Prim.Native.Nat.{ℕ, ◌+◌, ◌*◌, ◌/◌, ◌-◌, ◌≤◌, ◌<◌}
use mathlib.Core.Path.{◌≡◌, refl, sym, ap, subst, ◌∙◌}
use mathlib.Core.Logic.{⊎_elim}
use mathlib.Core.List.{List}
use mathlib.Core.Bool.{true, false, true≢false}
use native.Mathlib.Omega.{arith}
use lib.ListN.{length, get_or}
use Rattle.base.specs.Pick.{pick}
use Rattle.base.specs.Bytes.{SameBytes}
use Rattle.base.proofs.Steps.{true_or_false, lt_or_ge, pick_both}
use Rattle.base.proofs.SameBytes.{within}
use Rattle.format.specs.Header.{header_of, grains_of}
use Rattle.format.specs.Entries.{grain_entry, meaning_at}
use Rattle.format.specs.Areas.{named, directory_area, primary_tables}
use Rattle.format.specs.Check.{check}
use Rattle.format.specs.Grains.{grain_map, one_if_stored, entry_for}
use Rattle.format.specs.Layout.{table_count, tables_at, tables_end, sector_v, sectors_laid}
use Rattle.format.specs.Collapse.{not_collapsible, still_open}
use Rattle.format.specs.Profile.{same_file, first_difference, profile_sizes_broken, profile_form, profile_from, profile}
use Rattle.format.specs.declared.Header.{Header}
use Rattle.format.specs.declared.Kind.TheVariants.{Kdmv}
use Rattle.format.specs.declared.Entry.TheVariants.{Sector}
use Rattle.format.specs.declared.Refusal.TheVariants.{NotNormal}
use Rattle.accept.specs.AcceptedHeader.{accepted_header}
use Rattle.laws.specs.SameFrame.{SameAreas, SameFrame}
use Rattle.laws.specs.ProfileImages.{DifferAt, byte, first_ends, second_ends, FirstAt}
use Rattle.laws.proofs.LayoutNumbers.{some_size, tables_late}
use Rattle.laws.proofs.LayoutHeader.{laid_header}
use Rattle.laws.proofs.LayoutBack.{sector_told}
use Rattle.laws.proofs.SameAreas.{areas_row, area_named}
use Rattle.laws.proofs.UsedAnswers.{header_accepted, accepted_entries}
use Rattle.laws.proofs.HandedOn.{profile_handed}
use Rattle.laws.proofs.FrameDecides.{parts, same_head, decides, frame_decides_check}
use Rattle.laws.proofs.ProfilePlace.{same_file_lem as file_is, file_same, other_file, place_first, place_only, differ_low}
use Rattle.laws.proofs.ProfilePlace.{first_differs}
use Rattle.laws.proofs.ProfileMet.{accepted_profile}
use Rattle.layout.proofs.PartSizes.{directory_fits, entries_before}
use Rattle.profile.specs.FormCompared.{form_of, compared, Published}
use Rattle.profile.specs.SameGap.{SameGap}
use Rattle.profile.proofs.FirstDifference.{longer, same_file_lem}
use Rattle.profile.proofs.LaidFront.{header_told, named as table_named}
use Rattle.profile.proofs.LaidGrains.{grains_alike}
use Rattle.profile.proofs.FormFront.{stored_told, entry_told_lem, laid_same, fronts_alike}
use Rattle.profile.proofs.Stages.{sizes, image_long, fits, form_long, full, laid_readable, own}
use Rattle.profile.proofs.Taking.{published_of, taken_of}
use Rattle.std.specs.Prelude.{Result, Ok, Err}
use Rattle.format.specs.declared.Shape.{Shape}
use Rattle.format.specs.declared.Refusal.{Refusal}
use Rattle.format.specs.AnswerParts.{accepted_as}

-- ---- where a file first differs from its form, so does another, if both files and both forms are alike up to there
module _ {s t u v : List ℕ} {n : ℕ} (long : length s ≡ length t) (other : length u ≡ length v)
    (first : SameBytes s t 0 (n + 1)) (second : SameBytes u v 0 (n + 1)) where
  differ_too : DifferAt s u n → DifferAt t v n
  differ_too (byte l h q) =
      byte (omega arith) (omega arith)
      (λ e. q (first n (omega arith) (omega arith) ∙ e ∙ sym (second n (omega arith) (omega arith))))
  differ_too (first_ends e l) = first_ends (omega arith) (omega arith)
  differ_too (second_ends e l) = second_ends (omega arith) (omega arith)

  first_too : FirstAt s u n → FirstAt t v n
  first_too f = record {
    alike = λ i y l. sym (first i y (omega arith)) ∙ f.alike i y l ∙ second i y (omega arith);
    differ = differ_too f.differ;
  }

first_answer : (h : Header) (a b : List ℕ) (n : ℕ) → FirstAt a b n → profile_form h a b ≡ Err (NotNormal n)
unfolding profile_form pick
first_answer h a b n f =
    let no = first_differs f in rw (other_file a b no, place_only (place_first a b no) f)

joined : (s t : List ℕ) (n m : ℕ) → SameBytes s t 0 n → ((i : ℕ) → n ≤ i → i < m → get_or s i 0 ≡ get_or t i 0)
    → SameBytes s t 0 m
joined s t n m low high i y l = ⊎_elim (λ b. low i y (omega arith)) (λ b. high i b (omega arith)) (lt_or_ge i n)

-- ---- an image whose bytes before the grains are its form's: it starts with the form
module _ (s : List ℕ) (h : Header) (p : Published s h)
    (same : SameBytes s (form_of s h) 0 (512 * sector_v Kdmv h.capacity h.grain_size))
    (inside : 512 * sector_v Kdmv h.capacity h.grain_size ≤ length s) where
  abbrev form_length : ℕ
  form_length = 512 * sectors_laid Kdmv h.capacity h.grain_size (grain_map s h)

  starts : (SameBytes s (form_of s h) 0 form_length) × (form_length ≤ length s)
  starts =
      let z = sizes s h p in
      let header =
      within s (form_of s h) 0 _ 0 512 same (omega arith)
      (omega (arith, tables_late Kdmv z, entries_before Kdmv h.capacity h.grain_size (some_size z))) in
      grains_alike z (grain_map s h) s (fits s h p) (own s h p header) (laid_readable s h p header) (full s h p) same inside

  -- it is the form, or longer
  start_answer : form_length < length s → compared s h ≡ Err (NotNormal form_length)
  start_answer l = sym (longer h s (form_of s h) form_length (sym (form_long s h p)) starts.0 l)

  form_answer : length s ≤ form_length → compared s h ≡ accepted_as h.capacity h.grain_size
  form_answer l =
      let long : length s ≡ form_length = omega (arith, starts.1) in
      sym (same_file_lem h s (form_of s h) (long ∙ sym (form_long s h p)) (rw (← long) at starts.0))

-- ---- two images, of which the second has the header and the entries of the first
module _ (s t : List ℕ) (h : Header) (p : Published s h) (q : Published t h) (both : SameFrame s t)
    (gap : SameGap s t h) (entries : (g : ℕ) → g < grains_of h → grain_entry s h g ≡ grain_entry t h g) where
  abbrev first : ℕ
  first = tables_at Kdmv h.capacity h.grain_size

  abbrev last : ℕ
  last = tables_end Kdmv h.capacity h.grain_size

  abbrev grains_from : ℕ
  grains_from = sector_v Kdmv h.capacity h.grain_size

  -- ---- the forms: alike before the grains, and as long
  one : (g : ℕ) → g < grains_of h → one_if_stored (grain_map s h g) ≡ one_if_stored (grain_map t h g)
  one g l = rw (entries g l) (stored_told s t _ _ g (grain_entry t h g))

  told : (g : ℕ) → g < grains_of h → (v : ℕ) → entry_for (grain_map s h g) v ≡ entry_for (grain_map t h g) v
  told g l v = rw (entries g l) (entry_told_lem s t _ _ g v (grain_entry t h g))

  forms_alike : SameBytes (form_of s h) (form_of t h) 0 (512 * grains_from)
  forms_alike = fronts_alike (sizes s h p) (grain_map s h) (grain_map t h) one told

  sectors_same : sectors_laid Kdmv h.capacity h.grain_size (grain_map s h)
      ≡ sectors_laid Kdmv h.capacity h.grain_size (grain_map t h)
  sectors_same = laid_same (sizes s h p) (grain_map s h) (grain_map t h) one told

  forms_long : length (form_of s h) ≡ length (form_of t h)
  forms_long = form_long s h p ∙ ap (λ (n : ℕ). 512 * n) sectors_same ∙ sym (form_long t h q)

  -- ---- where the image is its form so far, the next part stands in the frame
  header_same : SameBytes s t 0 512
  header_same = (same_head s t both).fields.head

  is_laid : SameBytes s (form_of s h) 0 512 → header_of s ≡ laid_header Kdmv h.capacity h.grain_size
  is_laid same = header_told (sizes s h p) (grain_map s h) s same (image_long s h p)

  directory_same : SameBytes s (form_of s h) 0 512 → SameBytes s t 0 (512 * first)
  unfolding tables_at
  directory_same same =
      let there = (subst (λ (k : Header). SameAreas s t (directory_area k)) (is_laid same) (parts s t both).directory).0 in
      joined s t 512 (512 * first) header_same (λ i l b. there i (omega arith) (omega arith))

  module _ (same : SameBytes s (form_of s h) 0 (512 * first)) where
    header_first : SameBytes s (form_of s h) 0 512
    header_first = within s (form_of s h) 0 _ 0 512 same (omega arith) (omega (arith, tables_late Kdmv (sizes s h p)))

    table_at : (d : ℕ) → d < table_count Kdmv h.capacity h.grain_size → meaning_at s true 1 d ≡ Sector (first + 4 * d)
    table_at d l =
        let z = sizes s h p in
        let entries-first =
        within s (form_of s h) 0 _ 0 (512 + 4 * table_count Kdmv h.capacity h.grain_size) same (omega arith)
        (omega (arith, directory_fits Kdmv h.capacity h.grain_size)) in
        rw (table_named z (grain_map s h) s entries-first d l) (sector_told true _ (omega (arith, tables_late Kdmv z)))

    table_same : (d : ℕ) → d < table_count Kdmv h.capacity h.grain_size → SameBytes s t (512 * (first + 4 * d)) 2048
    unfolding table_count
    table_same d l =
        let all =
        subst (λ (k : Header). SameAreas s t (primary_tables s k)) (is_laid header_first) (parts s t both).tables in
        let row = areas_row s t _ (λ j. named (λ x. 4) (meaning_at s true 1 j)) all d l in
        area_named s t (λ x. 4) (first + 4 * d) (rw (table_at d l) at row)

    tables_same : SameBytes s t 0 (512 * last)
    unfolding tables_end
    tables_same =
        joined s t (512 * first) (512 * last) (directory_same header_first)
        (λ i l b. table_same ((i - 512 * first) / 2048) (omega arith) i (omega arith) (omega arith))

  front_same : SameBytes s (form_of s h) 0 (512 * first) → SameBytes s t 0 (512 * grains_from)
  front_same same = joined s t (512 * last) (512 * grains_from) (tables_same same) (λ i l b. gap i l (omega arith))

  -- so a first difference before the grains stands where both images have the same byte
  up_to : (n : ℕ) → n < 512 * grains_from → SameBytes s (form_of s h) 0 n → SameBytes s t 0 (n + 1)
  up_to n l same =
      ⊎_elim (λ b. within s t 0 512 0 (n + 1) header_same (omega arith) (omega arith))
      (λ b.
      ⊎_elim (λ k. within s t 0 (512 * first) 0 (n + 1) (directory_same (so_far 512 b)) (omega arith) (omega arith))
      (λ k. within s t 0 (512 * grains_from) 0 (n + 1) (front_same (so_far (512 * first) k)) (omega arith) (omega arith))
      (lt_or_ge n (512 * first)))
      (lt_or_ge n 512)
    where
      so_far : (k : ℕ) → k ≤ n → SameBytes s (form_of s h) 0 k
      so_far k b = within s (form_of s h) 0 n 0 k same (omega arith) (omega arith)

  -- ---- both answers
  early : (n : ℕ) → n < 512 * grains_from → FirstAt s (form_of s h) n → compared s h ≡ compared t h
  early n l f =
      first_answer h s (form_of s h) n f
      ∙ sym (first_answer h t (form_of t h) n
      (first_too both.long forms_long (up_to n l f.alike)
      (within (form_of s h) (form_of t h) 0 _ 0 _ forms_alike (omega arith) (omega arith)) f))

  -- no difference before the grains
  late : SameBytes s (form_of s h) 0 (512 * grains_from) → 512 * grains_from ≤ length s → compared s h ≡ compared t h
  late same inside =
      let z = sizes s h p in
      let before = entries_before Kdmv h.capacity h.grain_size (some_size z) in
      let mine = front_same (within s (form_of s h) 0 _ 0 _ same (omega arith) (omega arith)) in
      let other : SameBytes t (form_of t h) 0 (512 * grains_from) =
      λ i y l. sym (mine i y l) ∙ same i y l ∙ forms_alike i y l in
      let room : 512 * grains_from ≤ length t = rw (← both.long) inside in
      ⊎_elim
      (λ l.
      start_answer s h p same inside l
      ∙ ap (λ (n : ℕ). Err (NotNormal (512 * n))) sectors_same
      ∙ sym (start_answer t h q other room (rw (← both.long, ← sectors_same) l)))
      (λ l.
      form_answer s h p same inside l ∙ sym (form_answer t h q other room (rw (← both.long, ← sectors_same) l)))
      (lt_or_ge (512 * sectors_laid Kdmv h.capacity h.grain_size (grain_map s h)) (length s))

  grains_inside : 512 * grains_from ≤ length (form_of s h)
  unfolding sectors_laid
  grains_inside = omega (arith, form_long s h p)

  forms_compared : compared s h ≡ compared t h
  forms_compared =
      ⊎_elim
      (λ e.
      let is = file_is s (form_of s h) e in
      late (λ i y l. ap (λ (w : List ℕ). get_or w i 0) is) (omega (arith, grains_inside, ap length is)))
      (λ e.
      let f = place_first s (form_of s h) (λ is. true≢false (sym (file_same s (form_of s h) is) ∙ e)) in
      ⊎_elim (λ l. early _ l f)
      (λ l.
      late (within s (form_of s h) 0 _ 0 _ f.alike (omega arith) (omega arith)) (omega (arith, (differ_low f.differ).0)))
      (lt_or_ge (first_difference s (form_of s h)) (512 * grains_from)))
      (true_or_false (same_file s (form_of s h)))

-- ---- an accepted image that no rule before the form refuses
known_as : (a : Result Shape Refusal) (c size : ℕ) (k h : Header) → a ≡ accepted_as c size → k ≡ h → accepted_header a k ≡ Ok h
unfolding accepted_header
known_as a c size k h e i = rw (e, i)

accepted_published : (s : List ℕ) (h : Header) (c size : ℕ) → check s ≡ accepted_as c size → header_of s ≡ h
    → not_collapsible h ≡ false → still_open h ≡ false → profile_sizes_broken h ≡ false → Published s h
accepted_published s h c size e i n o z =
    published_of s h (taken_of s _ refl h (known_as (check s) c size (header_of s) h e i)) refl n refl o refl z

module _ (s t : List ℕ) (both : SameFrame s t) (gap : SameGap s t (header_of s)) where
  checked : (a : Result Shape Refusal) → check s ≡ a → profile s ≡ profile t
  unfolding profile_from
  checked (Err r) e =
      profile_handed s r e ∙ sym (profile_handed t r (sym (frame_decides_check s t both) ∙ e))
  checked (Ok sizes) e =
      let h = header_of s in
      let i : header_of t ≡ h = sym (header_accepted s t (decides s t both) sizes.capacity sizes.grain_size e) in
      let f = sym (frame_decides_check s t both) ∙ e in
      accepted_profile s sizes.capacity sizes.grain_size e
      ∙ pick_both ◌≡◌ (not_collapsible h) _ _ _ _ (λ b. refl)
      (λ n.
      pick_both ◌≡◌ (still_open h) _ _ _ _ (λ b. refl)
      (λ o.
      pick_both ◌≡◌ (profile_sizes_broken h) _ _ _ _ (λ b. refl)
      (λ z.
      forms_compared s t h (accepted_published s h sizes.capacity sizes.grain_size e refl n o z)
      (accepted_published t h sizes.capacity sizes.grain_size f i n o z) both gap
      (accepted_entries s t (decides s t both) sizes.capacity sizes.grain_size e))))
      ∙ ap (λ (k : Header). profile_from k t (form_of t k)) (sym i)
      ∙ sym (accepted_profile t sizes.capacity sizes.grain_size f)

  pub frame_decides_profile : profile s ≡ profile t
  frame_decides_profile = checked (check s) refl
