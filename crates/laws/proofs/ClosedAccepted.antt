-- Kept part and tail together are accepted (request A12): every layout rule holds of the closed image.
use Prim.Native.Nat.{ℕ, ◌+◌, ◌-◌, ◌*◌, ◌≤◌, ◌<◌}
use mathlib.Core.Path.{◌≡◌, refl, sym, ◌∙◌}
use mathlib.Core.List.{List, [], ◌++◌}
use mathlib.Core.Bool.{Bool, true, false, not}
use mathlib.Core.Logic.{⊎_elim}
use native.Mathlib.Omega.{arith}
use lib.Dec.{eqb}
use borrow.Author.Tests.{eqb-false, eq-eqb, not-true}
use Rattle.base.specs.Pick.{pick}
use Rattle.base.proofs.Rows.{rows_same}
use Rattle.base.proofs.Steps.{and_yes}
use Rattle.format.specs.Geometry.{file_sectors}
use Rattle.format.specs.Header.{kdmv_header, start_of, grains_of, directory_entries_of}
use Rattle.format.specs.Entries.{meaning, meaning_at, grain_entry, grain_sectors, marker_first, marker_size}
use Rattle.format.specs.Areas.{Area, area, if_there, named, header_area, descriptor_area, directory_area, redundant_area}
use Rattle.format.specs.Areas.{primary_tables, redundant_tables, footer_area, last_area, grain_area, grain_areas, areas}
use Rattle.format.specs.Areas.{runs_past}
use Rattle.format.specs.Areas.{holders, Apart}
use Rattle.format.specs.Check.{check}
use Rattle.format.specs.Accepted.{AreaRules, AcceptedKdmv}
use Rattle.format.specs.Stream.{overhead, kept_grains, kept_sectors}
use Rattle.format.specs.Tail.{kept_entry, new_tables, new_directory_entry}
use Rattle.format.specs.Close.{closed_image}
use Rattle.format.specs.declared.Entry.TheVariants.{Sector}
use Rattle.format.proofs.Areas.{holders_append}
use Rattle.format.proofs.Entries.{sectors_same}
use Rattle.format.proofs.Inside.{none_in, both_in, there_in, each_in, in_groups}
use Rattle.format.proofs.ReadAlike.{holders_areas, holders_frame}
use Rattle.laws.specs.Closed.{Closable, closed_sectors, closed_directory, closed_header}
use Rattle.laws.proofs.AcceptedImage.{accepted_complete}
use Rattle.laws.proofs.LayoutBetween.{Between, between_one, between_wide, between_append, between_in, between_apart}
use Rattle.laws.proofs.ClosedStart.{Closing, closing, kept_ascends, kept_late}
use Rattle.laws.proofs.ClosedHeader.{closed_sectors_lem, closed_rules, kdmv_closed, header_closed, packed_closed}
use Rattle.laws.proofs.ClosedEntries.{directory_entry_lem, closed_entry}
use Rattle.laws.proofs.ClosedGrains.{entry_cases, size_same, first_same, kept_lies, kept_entry_lem, other_entry_lem}
use Rattle.laws.proofs.ClosedBetween.{takes_all, grains_between, tables_between}
use Rattle.format.specs.AnswerParts.{accepted_as}

-- an area that may be there, up to a sector
there_between : (there : Bool) (a : Area) (p last : ℕ) → p ≤ last → (there ≡ true → p ≤ a.first)
    → runs_past last (if_there there a) ≡ false → Between p (if_there there a) last
unfolding Between if_there pick
there_between true a p last b low inside = (low refl, there_in last true a inside refl)
there_between false a p last b low inside = b

one_between : (there : Bool) (p first last : ℕ) → there ≡ true → p ≤ first → first + 1 ≤ last
    → Between p (if_there there (area first 1)) last
unfolding if_there pick
one_between there p first last t low high =
    rw t (between_wide _ p (first + 1) p last (omega arith) high (between_one p first 1 low))

packed_sectors : (s c : List ℕ) (packed : Bool) (size e : ℕ) → packed ≡ true → marker_size c e ≡ marker_size s e
    → grain_sectors c packed size e ≡ grain_sectors s true size e
packed_sectors s c packed size e t same = rw t (sectors_same c s true size e (λ p. same))

sector_same : (a b : ℕ) → Sector a ≡ Sector b → a ≡ b
sector_same a b e = cc

holders_seven : (a b c d e f g : List Area) (x : ℕ) → holders (a ++ (b ++ (c ++ (d ++ (e ++ (f ++ g)))))) x
    ≡ holders a x + (holders b x + (holders c x + (holders d x + (holders e x + (holders f x + holders g x)))))
holders_seven a b c d e f g x = simp holders_append

none_held : (l : List Area) (x : ℕ) → l ≡ [] → holders l x ≡ 0
unfolding holders
none_held l x e = rw e

module _ (s : List ℕ) (z : Closing s) where
  -- ---- group by group
  descriptor_between : Between 1 (descriptor_area (closed_header s)) (overhead s)
  unfolding kdmv_header
  descriptor_between =
      there_between _ _ 1 (overhead s) (omega (arith, z.late))
      (λ t.
      let n = eqb-false (start_of s).descriptor 0
      (not-true _ (and_yes (not (eqb (start_of s).descriptor 0)) (not (eqb (start_of s).descriptor_sectors 0)) t).0) in
      omega arith)
      z.descriptor

  kept_between : Between (overhead s) (grain_areas (closed_image s) (closed_header s)) (kept_sectors s (start_of s))
  unfolding kdmv_header
  kept_between =
      let sectors = grain_sectors (closed_image s) (closed_header s).packed (closed_header s).grain_size in
      let b = (closed_header s).one_is_zero in
      rw (rows_same (grains_of (start_of s)) (grain_area (closed_image s) (closed_header s))
      (λ g. named sectors (meaning b (kept_entry (kept_grains s (start_of s)) g)))
      (λ g low. rw (closed_entry s z g low)))
      (grains_between s (start_of s) b sectors (kept_ascends s z)
      (takes_all s (start_of s) b sectors (kept_ascends s z) (kept_sectors s (start_of s)) (omega arith)
      (λ e low. packed_sectors s (closed_image s) _ _ e (packed_closed s z) (size_same s z e low)))
      z.late)

  table_between_lem : Between (kept_sectors s (start_of s)) (primary_tables (closed_image s) (closed_header s))
      (kept_sectors s (start_of s) + 5 * new_tables (start_of s) (kept_grains s (start_of s)))
  unfolding kdmv_header
  table_between_lem =
      let b = (closed_header s).one_is_zero in
      let end = kept_sectors s (start_of s) in
      let n = directory_entries_of (start_of s) in
      rw (rows_same n (λ d. named (λ e. 4) (meaning_at (closed_image s) b (closed_directory s) d))
      (λ d. named (λ e. 4) (meaning b (new_directory_entry end (kept_grains s (start_of s)) d)))
      (λ d low. rw (directory_entry_lem s z d low)))
      (tables_between b end (kept_grains s (start_of s)) (omega (arith, kept_late s z, z.late)) n)

  directory_between : Between (kept_sectors s (start_of s) + 5 * new_tables (start_of s) (kept_grains s (start_of s)))
      (directory_area (closed_header s)) (closed_directory s + (start_of s).directory_sectors)
  unfolding kdmv_header
  directory_between = between_one _ (closed_directory s) _ (omega arith)

  footer_between : Between (closed_directory s + (start_of s).directory_sectors)
      (footer_area (closed_image s) (closed_header s)) (closed_sectors s - 1)
  unfolding kdmv_header
  footer_between =
      one_between _ _ _ _ z.at_end (omega (arith, closed_sectors_lem s z)) (omega (arith, closed_sectors_lem s z))

  last_between : Between (closed_sectors s - 1) (last_area (closed_image s) (closed_header s)) (file_sectors (closed_image s))
  unfolding kdmv_header
  last_between =
      one_between _ _ _ _ z.at_end (omega (arith, closed_sectors_lem s z)) (omega (arith, closed_sectors_lem s z))

  -- ---- all of them in the order of the file
  abbrev sorted : List Area
  sorted =
      header_area (closed_header s)
      ++ (descriptor_area (closed_header s)
      ++ (grain_areas (closed_image s) (closed_header s)
      ++ (primary_tables (closed_image s) (closed_header s)
      ++ (directory_area (closed_header s)
      ++ (footer_area (closed_image s) (closed_header s) ++ last_area (closed_image s) (closed_header s))))))

  header_between : Between 0 (header_area (closed_header s)) 1
  unfolding kdmv_header
  header_between = between_one 0 0 1 (omega arith)

  all_between : Between 0 sorted (file_sectors (closed_image s))
  all_between =
      between_append _ _ 0 1 _ header_between
      (between_append _ _ _ _ _ descriptor_between
      (between_append _ _ _ _ _ kept_between
      (between_append _ _ _ _ _ table_between_lem
      (between_append _ _ _ _ _ directory_between (between_append _ _ _ _ _ footer_between last_between)))))

  -- there is no redundant directory
  no_redundant : (redundant_area (closed_header s) ≡ []) × (redundant_tables (closed_image s) (closed_header s) ≡ [])
  unfolding kdmv_header if_there redundant_tables pick
  no_redundant = let t = eq-eqb _ _ z.single in (rw t, rw t)

  areas_in : runs_past (file_sectors (closed_image s)) (areas (closed_image s) (closed_header s)) ≡ false
  areas_in =
      let f = file_sectors (closed_image s) in
      let a = both_in f (header_area (closed_header s)) _ (between_in sorted 0 f all_between) in
      let b = both_in f (descriptor_area (closed_header s)) _ a.1 in
      let c = both_in f (grain_areas (closed_image s) (closed_header s)) _ b.1 in
      let d = both_in f (primary_tables (closed_image s) (closed_header s)) _ c.1 in
      let e = both_in f (directory_area (closed_header s)) _ d.1 in
      let g = both_in f (footer_area (closed_image s) (closed_header s)) _ e.1 in
      in_groups (closed_image s) (closed_header s)
      (record {
        header = a.0;
        descriptor = b.0;
        directory = e.0;
        redundant = rw no_redundant.0 (none_in f);
        tables = d.0;
        copies = rw no_redundant.1 (none_in f);
        footer = g.0;
        last = g.1;
        grains = c.0;
      })

  areas_apart : Apart (areas (closed_image s) (closed_header s))
  areas_apart x =
      omega (
        arith,
        between_apart sorted 0 _ all_between x,
        holders_seven (header_area (closed_header s)) (descriptor_area (closed_header s))
            (grain_areas (closed_image s) (closed_header s)) (primary_tables (closed_image s) (closed_header s))
            (directory_area (closed_header s)) (footer_area (closed_image s) (closed_header s))
            (last_area (closed_image s) (closed_header s)) x,
        holders_areas (closed_image s) (closed_header s) x,
        holders_frame (closed_image s) (closed_header s) x,
        none_held _ x no_redundant.0,
        none_held _ x no_redundant.1,
      )

  -- ---- markers
  markers_kept : (g e : ℕ) → g < grains_of (closed_header s) → grain_entry (closed_image s) (closed_header s) g ≡ Sector e
      → (1 ≤ marker_size (closed_image s) e) × (marker_first (closed_image s) e ≡ g * (closed_header s).grain_size)
  unfolding kdmv_header
  markers_kept g e low q =
      ⊎_elim
      (λ none.
      let n = other_entry_lem s z g low none in let f : ◌≡◌ {A = ℕ} 0 1 = cc in absurd (omega arith))
      (λ r.
      let k = r.0 in
      let lies = kept_lies s z r.1 in
      let n : k.number ≡ g = r.2 in
      let same : k.sector ≡ e = sector_same _ _ (sym (kept_entry_lem s z r.1) ∙ rw n q) in
      rw (← same, ← n) (
        rw (size_same s z k.sector (omega (arith, lies.to, lies.whole.one))) (omega (arith, lies.whole.some)),
        first_same s z k.sector (omega (arith, lies.to, lies.whole.one)) ∙ lies.whole.first,
      ))
      (entry_cases (kept_grains s (start_of s)) g)

  area_rules : AreaRules (closed_image s) (closed_header s)
  unfolding kdmv_header
  area_rules =
      record {
        descriptor = z.both;
        directory = λ q. omega (arith, q);
        inside = each_in (file_sectors (closed_image s)) (areas (closed_image s) (closed_header s)) areas_in;
        markers = λ p. markers_kept;
        copies = λ n. absurd (n z.single);
        apart = areas_apart;
      }

  pub image_accepted : AcceptedKdmv (closed_image s)
  image_accepted = record { rules = closed_rules s z; areas = rw (kdmv_closed s z) area_rules }

-- every layout rule holds
pub closed_meets : (s : List ℕ) → Closable s → AcceptedKdmv (closed_image s)
closed_meets s c = image_accepted s (closing s c)

-- kept part and tail together are accepted, with the start's capacity and grain size
pub closed_accepted : (s : List ℕ) → Closable s
    → check (closed_image s) ≡ accepted_as (start_of s).capacity (start_of s).grain_size
unfolding kdmv_header
closed_accepted s c =
    let z = closing s c in rw (header_closed s z) at (accepted_complete (closed_image s) (image_accepted s z))
