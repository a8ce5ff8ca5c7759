-- The frame decides: two images of one length that agree in the sectors of the frame of the one, but for the descriptor's, and,
-- if that is packed, in the markers of its grains have the same check, lookups, frame, and length of what is written.
use Prim.Native.Nat.{ℕ, ◌+◌, ◌*◌, ◌≤◌}
use mathlib.Core.Path.{◌≡◌, refl, ap, ◌∙◌}
use mathlib.Core.List.{List, ◌++◌}
use mathlib.Core.Bool.{true}
use native.Mathlib.Omega.{arith}
use lib.Dec.{lit≤}
use lib.ListN.{length}
use borrow.Author.Tests.{ne_eqb}
use Rattle.base.specs.Strings.{same_at}
use Rattle.format.proofs.Picked.{pick_then}
use Rattle.format.specs.Geometry.{file_sectors}
use Rattle.format.specs.Kdmv.{kdmv_magic, kdmv_fields, at_end}
use Rattle.format.specs.Header.{kdmv_header, header_of, directory_entries_of, judge}
use Rattle.format.specs.Entries.{entry_at, meaning_at}
use Rattle.format.specs.Areas.{header_area, directory_area, redundant_area, table_areas, primary_tables, named}
use Rattle.format.specs.Areas.{redundant_tables, footer_area, last_area}
use Rattle.format.specs.Check.{check}
use Rattle.format.specs.CheckIn.{check_in, list_after_check}
use Rattle.format.specs.Source.{sector_lookup}
use Rattle.format.specs.Way.{lookup_steps}
use Rattle.format.specs.Chain.{chain_lookup}
use Rattle.format.specs.Collapse.{normal, collapse}
use Rattle.format.specs.Frame.{frame_from, frame, frame_list}
use Rattle.format.specs.Survey.{row_of}
use Rattle.format.specs.Judged.{Sound}
use Rattle.format.specs.declared.Header.{Header}
use Rattle.format.proofs.HeaderJudged.{judged_rules, judged_header}
use Rattle.format.proofs.HeaderSound.{sound_of}
use Rattle.format.proofs.Places.{redundant_tables_lem}
use Rattle.base.specs.Bytes.{SameBytes}
use Rattle.laws.specs.SameFrame.{SameAreas, deciding_areas, SameFrame, SameFrames}
use Rattle.laws.specs.Unused.{SameTables, SameInUse, SameUsed}
use Rattle.base.proofs.SameBytes.{within, number_same}
use Rattle.laws.proofs.SameAreas.{areas_both, areas_row, area_there, area_named}
use Rattle.format.proofs.SameHeader.{SameHead, head_sizes, judge_same}
use Rattle.laws.proofs.UsedAnswers.{used_check, used_lookup, used_frame, used_list, used_row}
use Rattle.laws.proofs.UsedSteps.{used_steps}
use Rattle.laws.proofs.UsedCheckIn.{used_check_in, used_lent}
use Rattle.laws.proofs.UsedChain.{used_chain}
use Rattle.laws.proofs.UsedCollapse.{used_collapse, used_normal}
use Rattle.std.specs.Prelude.{Result, Ok, Err}
use Rattle.format.specs.declared.Refusal.{Refusal}

-- ---- an image that has a frame has a header
listed_known : (s : List ℕ) (room count : ℕ) (a : Result Header Refusal) → frame_from s room a ≡ Ok count
    → (h : Header) × (a ≡ Ok h)
unfolding frame_from
listed_known s room count (Err r) e = let z : ◌≡◌ {A = ℕ} 0 1 = cc in absurd (omega arith)
listed_known s room count (Ok h) e = (h, refl)

header_some : (s : List ℕ) (h : Header) → judge s ≡ Ok h → 1 ≤ h.header_sectors
unfolding kdmv_header
header_some s h e = rw (judged_rules s h e).1 (lit≤ tt)

-- ---- group by group
pub record SameGroups (s t : List ℕ) (h : Header) : Type 0 where
  pub header : SameAreas s t (header_area h)
  pub directory : SameAreas s t (directory_area h)
  pub redundant : SameAreas s t (redundant_area h)
  pub tables : SameAreas s t (primary_tables s h)
  pub copies : SameAreas s t (redundant_tables s h)
  pub footer : SameAreas s t (footer_area s h)
  pub last : SameAreas s t (last_area s h)

groups : (s t : List ℕ) (h : Header) → SameAreas s t (deciding_areas s h) → SameGroups s t h
unfolding deciding_areas
groups s t h all =
    let ends = footer_area s h ++ last_area s h in
    let copies = redundant_tables s h ++ ends in
    let tables = primary_tables s h ++ copies in
    let directories = redundant_area h ++ tables in
    let a = areas_both s t (header_area h) (directory_area h ++ directories) all in
    let b = areas_both s t (directory_area h) directories a.1 in
    let d = areas_both s t (redundant_area h) tables b.1 in
    let e = areas_both s t (primary_tables s h) copies d.1 in
    let f = areas_both s t (redundant_tables s h) ends e.1 in
    let g = areas_both s t (footer_area s h) (last_area s h) f.1 in
    record {
      header = a.0;
      directory = b.0;
      redundant = d.0;
      tables = e.0;
      copies = f.0;
      footer = g.0;
      last = g.1;
    }

-- ---- a directory whose entries in use agree, and whose tables do
module _ (s t : List ℕ) (h : Header) (sound : Sound h) (directory : ℕ)
    (own : SameBytes s t (512 * directory) (4 * directory_entries_of h))
    (tables : SameAreas s t (table_areas s h.one_is_zero h.table_sectors directory (directory_entries_of h))) where
  entry : (u n k : ℕ) → SameBytes s t (512 * u) n → 4 * k + 4 ≤ n → entry_at s u k ≡ entry_at t u k
  entry u n k same l =
      number_same s t (512 * u + 4 * k) 4 (within s t (512 * u) n (512 * u + 4 * k) 4 same (omega arith) (omega arith))

  pub tables_decide : SameTables s t h directory
  tables_decide = record {
    entries = λ i d l. entry directory (4 * directory_entries_of h) d own (omega arith);
    tables = λ d u l e i k b.
        let row =
        areas_row s t _ (λ j. named (λ x. h.table_sectors) (meaning_at s h.one_is_zero directory j)) tables d l in
        entry u _ k (area_named s t (λ x. h.table_sectors) u (rw e at row)) (omega (arith, sound.table));
  }

-- ---- all that decides lies in the frame and the markers
module _ (s t : List ℕ) (both : SameFrame s t) where
  known : judge s ≡ Ok (header_of s)
  known =
      let r = listed_known s both.room both.list_count (judge s) both.listed in
      r.1 ∙ ap Ok (judged_header s r.0 r.1)

  pub parts : SameGroups s t (header_of s)
  parts = groups s t (header_of s) both.areas

  sectors_some : 1 ≤ file_sectors s
  sectors_some = omega (arith, (judged_rules s (header_of s) known).0.long)

  has_footer : same_at s 0 kdmv_magic ≡ true → (header_of s).footer ≡ at_end (kdmv_fields s)
  unfolding header_of kdmv_header
  has_footer m = ap (λ (h : Header). h.footer) (pick_then _ _ _ m)

  pub same_head : SameHead s t
  same_head = record {
    fields = record {
      long = both.long;
      some = sectors_some;
      head = within s t _ _ 0 512 parts.header.0 (omega arith) (omega (arith, header_some s (header_of s) known));
      foot = λ m e. area_there s t _ _ parts.footer (has_footer m ∙ e);
    };
    last = λ m e. area_there s t _ _ parts.last (has_footer m ∙ e);
  }

  in_use : SameInUse s t (header_of s)
  in_use =
      let h = header_of s in
      let sound = sound_of s h known in
      record {
        long = both.long;
        primary = tables_decide s t h sound h.directory
            (within s t _ _ _ _ parts.directory.0 (omega arith) (omega (arith, sound.directory))) parts.tables;
        copies = λ two.
            tables_decide s t h sound h.redundant
            (within s t _ _ _ _ (area_there s t _ _ parts.redundant (rw (ne_eqb h.redundant 0 two))) (omega arith)
            (omega (arith, sound.directory)))
            (rw (redundant_tables_lem s h two) at parts.copies);
        markers = λ p g e l q i.
            let same = both.markers p g e l q i in (
              number_same s t (512 * e + 8) 4 (within s t (512 * e) _ (512 * e + 8) 4 same (omega arith) (omega arith)),
              number_same s t (512 * e) 8 (within s t (512 * e) _ (512 * e) 8 same (omega arith) (omega arith)),
            );
      }

  pub decides : SameUsed s t
  decides = record {
    judged = judge_same s t same_head;
    capacity = (head_sizes s t same_head.fields).0;
    grain_size = (head_sizes s t same_head.fields).1;
    used = λ h e. rw (judged_header s h e) in_use;
  }

  pub frame_decides_check : check s ≡ check t
  frame_decides_check = used_check s t decides

  pub frame_decides_check_in : (list : List ℕ) → (check_in s (length list) ≡ check_in t (length list))
      × (list_after_check s list ≡ list_after_check t list)
  frame_decides_check_in list = (used_check_in s t decides (length list), used_lent s t decides list)

  pub frame_decides_lookup : (x : ℕ) → sector_lookup s x ≡ sector_lookup t x
  frame_decides_lookup = used_lookup s t decides

  pub frame_decides_steps : (x : ℕ) → lookup_steps s x ≡ lookup_steps t x
  frame_decides_steps = used_steps s t decides

  pub frame_decides_header : judge s ≡ judge t
  frame_decides_header = decides.judged

  pub frame_decides_frame : (room : ℕ) → frame s room ≡ frame t room
  frame_decides_frame = used_frame s t decides

  pub frame_decides_list : (list : List ℕ) → frame_list s list ≡ frame_list t list
  frame_decides_list = used_list s t decides

  pub frame_decides_row : row_of s ≡ row_of t
  frame_decides_row = used_row s t decides

  pub frame_decides_normal : (room : ℕ) → normal s room ≡ normal t room
  frame_decides_normal = used_normal s t decides

-- s and t are the lower images, u and v the upper ones
pub frame_decides_collapse : (s t u v : List ℕ) → SameFrame s t → SameFrame u v → (room : ℕ)
    → collapse s u room ≡ collapse t v room
frame_decides_collapse s t u v low up = used_collapse s t u v (decides s t low) (decides u v up)

pub frame_decides_chain : (s t lengths : List ℕ) → SameFrames s t lengths → (x : ℕ) → chain_lookup s lengths x
    ≡ chain_lookup t lengths x
frame_decides_chain s t lengths both = used_chain s t lengths both.long (λ k l. decides _ _ (both.each k l))
