-- COWD goes: each call but the moves refuses it 43, and where that comes in the call's order. What request A13 promises.
use Prim.Native.Nat.{ℕ, zero, suc, ◌-◌, ◌<◌}
use mathlib.Core.Path.{◌≡◌, refl, ◌∙◌}
use mathlib.Core.List.{List}
use mathlib.Core.Bool.{true, false}
use mathlib.Core.Logic.{⊎_elim}
use native.Mathlib.Omega.{arith}
use lib.Dec.{ltb}
use lib.ListN.{length, get_or}
use borrow.Author.Tests.{le-ltb}
use Rattle.base.specs.Pick.{pick}
use Rattle.base.specs.Strings.{same_at}
use Rattle.base.proofs.Steps.{lt_or_ge}
use Rattle.base.proofs.Strings.{bytes_same}
use Rattle.descriptor.specs.Extents.{NOACCESS, VMFSSPARSE}
use Rattle.descriptor.specs.Descriptor.{no_extent, read_text}
use Rattle.std.specs.Prelude.{Ok}
use Rattle.descriptor.specs.declared.Parsed.{Parsed}
use Rattle.descriptor.specs.declared.Extent.{Extent}
use Rattle.format.specs.Kdmv.{kdmv_magic}
use Rattle.format.specs.Cowd.{cowd_magic, cowd_fields, cowd_fault}
use Rattle.format.specs.Header.{cowd_header_of, unless_fault, judge_kdmv, kind_gone, judge_cowd, judge_of, judge}
use Rattle.format.specs.Header.{judge_kdmv_start}
use Rattle.format.specs.Header.{judge_start}
use Rattle.format.specs.Check.{check_from, check}
use Rattle.format.specs.CheckIn.{came_to_marking, check_in_room, with_marked, check_in, list_after_check}
use Rattle.format.specs.Source.{lookup_from, sector_lookup, answer_part}
use Rattle.format.specs.Chain.{layer_at, lengths_broken, if_known, headers_down, chain_lookup}
use Rattle.format.specs.Collapse.{if_accepted, normal, collapse}
use Rattle.format.specs.Profile.{profile_if_accepted, profile}
use Rattle.format.specs.Close.{close_judged, close, tail_written, close_output}
use Rattle.format.specs.Frame.{frame_from, frame, list_after, frame_list}
use Rattle.format.specs.Survey.{row_from, row_of}
use Rattle.format.specs.Mend.{mend_from, mend, after_mend, mended_image, mended_list}
use Rattle.format.specs.Answers.{header_numbers, steps_numbers}
use Rattle.format.specs.Way.{no_way, way_from, lookup_steps}
use Rattle.format.specs.declared.Taken.TheVariants.{KdmvAlone, Either}
use Rattle.format.specs.declared.Header.{Header}
use Rattle.format.specs.declared.Side.{Side}
use Rattle.format.specs.declared.Refusal.TheVariants.{TooShort, Magic, KindGone}
use Rattle.format.proofs.HeaderJudged.{one_magic}
use Rattle.format.proofs.Picked.{pick_then, pick_else}
use Rattle.disk.specs.Split.{split_lengths_broken, extents_of, split}
use Rattle.laws.specs.CowdFile.{CowdFile}
use Rattle.laws.proofs.ExtentsLaid.{sectors_of}
use Rattle.laws.proofs.SplitServed.{one_extent, split_answer, vmfssparse_gone}
use Rattle.std.specs.Prelude.{Result, Err}
use Rattle.format.specs.declared.LayerSource.{LayerSource}
use Rattle.format.specs.declared.LayerRefusal.{LayerRefusal}
use Rattle.format.specs.declared.Refusal.{Refusal}
use Rattle.format.specs.AnswerParts.{accepted_as}
use Rattle.format.specs.AnswerParts.{refused_at}
use Rattle.disk.specs.declared.SplitRefusal.TheVariants.{Image}

-- ---- one image
module _ (s : List ℕ) (c : CowdFile s) where
  magic : same_at s 0 cowd_magic ≡ true
  magic = bytes_same s 0 cowd_magic c.magic

  -- after 1 and 2, whatever its version and sizes are, and whatever KDMV would be judged by
  kind_judged : (k : Result Header Refusal) → pick (ltb (length s) 4) (Err TooShort)
      (pick (same_at s 0 kdmv_magic) k (pick (same_at s 0 cowd_magic) (judge_cowd KdmvAlone s) (Err Magic))) ≡ Err
      KindGone
  unfolding judge_cowd kind_gone
  kind_judged k =
      pick_else _ _ _ (le-ltb (length s) 4 (omega (arith, c.long)))
      ∙ pick_else _ _ _ (one_magic s magic)
      ∙ pick_then _ _ _ magic
      ∙ pick_else _ _ _ (le-ltb (length s) 2048 c.long)
      ∙ pick_then _ _ _ refl

  -- the header
  pub header_gone : judge s ≡ Err KindGone
  unfolding judge_of
  header_gone = kind_judged (judge_kdmv s)

  -- in document 02's number
  pub header_43 : (header_numbers (judge s)).number ≡ 43
  header_43 = rw header_gone

  -- the check: before 3 to 12
  pub check_gone : check s ≡ Err KindGone
  unfolding check_from
  check_gone = rw header_gone

  -- the lookup, and with it the grain reader: before 20
  pub lookup_gone : (x : ℕ) → sector_lookup s x ≡ Err KindGone
  unfolding lookup_from
  lookup_gone x = rw header_gone

  pub reader_gone : (x : ℕ) → answer_part (sector_lookup s x) ≡ record { at = 0; length = 0 }
  reader_gone x = rw (lookup_gone x)

  -- the lookup's steps: nothing of the way is told
  pub steps_gone : (x : ℕ) → lookup_steps s x ≡ steps_numbers no_way (Err KindGone)
  unfolding way_from lookup_from
  steps_gone x = rw header_gone

  -- the normal form: before 23, 27 and 21
  pub normal_gone : (room : ℕ) → normal s room ≡ Err KindGone
  unfolding if_accepted
  normal_gone room = rw check_gone

  -- the survey's row
  pub row_gone : row_of s ≡ record { stored = 0; zero = 0; absent = 0; packed = 0; number = 43; place = 0 }
  unfolding row_from
  row_gone = rw check_gone

  -- the second check: before 21, with nothing marked and the list kept
  pub check_in_gone : (list : List ℕ) → (check_in s (length list) ≡ record { checked = Err KindGone; marked = 0 })
      × (list_after_check s list ≡ list)
  unfolding check_in_room with_marked list_after_check came_to_marking pick
  check_in_gone list = (rw check_gone, rw check_gone)

  -- mending: before 40 and 21, with image and list kept
  pub mend_gone : (side : Side) (list : List ℕ) → (mend s side (length list) ≡ Err KindGone)
      × (mended_image s side list ≡ s) × (mended_list s side list ≡ list)
  unfolding mend_from after_mend
  mend_gone side list = (rw header_gone, rw header_gone, rw header_gone)

  -- the frame: before 8 and 21, with the list kept
  pub frame_gone : (list : List ℕ) → (frame s (length list) ≡ Err KindGone) × (frame_list s list ≡ list)
  unfolding frame_from list_after
  frame_gone list = (rw header_gone, rw header_gone)

  -- the profile: before 23, 27, 47 and 42
  pub profile_gone : profile s ≡ Err KindGone
  unfolding profile_if_accepted
  profile_gone = rw check_gone

  -- a start
  start_gone : judge_start s ≡ Err KindGone
  unfolding judge_start
  start_gone = kind_judged (judge_kdmv_start s)

  -- closing: before 41 and 21, with the output kept
  pub close_gone : (out : List ℕ) → (close s (length out) ≡ Err KindGone) × (close_output s out ≡ out)
  unfolding close_judged tail_written
  close_gone out = (rw start_gone, rw start_gone)

-- ---- the collapse: the lower's comes first, then the upper's, before 23, 22, 27 and 21
module _ (lower upper : List ℕ) (room : ℕ) where
  pub lower_gone : CowdFile lower → collapse lower upper room ≡ Err KindGone
  unfolding if_accepted
  lower_gone c = rw (check_gone lower c)

  pub upper_gone : (capacity size : ℕ) → check lower ≡ accepted_as capacity size → CowdFile upper
      → collapse lower upper room ≡ Err KindGone
  unfolding if_accepted
  upper_gone capacity size e c = rw (e, check_gone upper c)

-- ---- the chain: after 24, the topmost layer that is not known is named, before 22, 20 and the walk
module _ (s lengths : List ℕ) (k : ℕ) (c : CowdFile (layer_at s lengths k)) where
  abbrev KnownAbove : ℕ → Type 0
  KnownAbove n = (j : ℕ) → k < j → j < n → (h : Header) × (judge (layer_at s lengths j) ≡ Ok h)

  down_gone : (n : ℕ) (a : Result LayerSource LayerRefusal) → k < n → KnownAbove n → headers_down s lengths n a
      ≡ refused_at k KindGone
  unfolding headers_down if_known
  down_gone zero a l above = absurd (omega arith)
  down_gone (suc m) a l above =
      ⊎_elim
      (λ b. rw (above m b (omega arith)).1 (down_gone m a b (λ j d e. above j d (omega arith))))
      (λ b. let is : m ≡ k = omega arith in rw (is, header_gone (layer_at s lengths k) c))
      (lt_or_ge k m)

  pub chain_gone : (x : ℕ) → lengths_broken 16 s lengths ≡ false → k < length lengths → KnownAbove (length lengths)
      → chain_lookup s lengths x ≡ refused_at k KindGone
  unfolding chain_lookup pick
  chain_gone x whole l above = rw whole (down_gone (length lengths) _ l above)

-- ---- a disk of several files: a VMFSSPARSE line, after the descriptor's numbers, 24, 20 and 39, whatever its file holds
module _ (text : List ℕ) (p : Parsed) (ok : read_text text ≡ Ok p) (x : ℕ) (h : x < sectors_of (extents_of p)) where
  abbrev number : ℕ
  number = (one_extent text p ok x h).number

  abbrev line : Extent
  line = get_or (extents_of p) number no_extent

  pub split_gone : (files lengths : List ℕ) → split_lengths_broken p.count files lengths ≡ false
      → (line.access ≡ NOACCESS → ⊥) → line.kind ≡ VMFSSPARSE → split text files lengths x ≡ Err (Image number KindGone)
  split_gone files lengths whole allowed kind =
      split_answer text p ok x files lengths whole h
      ∙ vmfssparse_gone (layer_at files lengths number) line number (x - line.first) allowed kind

-- ---- the moves: COWD is judged by its rules, and all else as every call judges it
pub moves_judge_cowd : (s : List ℕ) → CowdFile s
    → judge_of Either s ≡ unless_fault (cowd_fault (cowd_fields s)) (Ok (cowd_header_of s))
unfolding judge_of judge_cowd kind_gone
moves_judge_cowd s c =
    pick_else _ _ _ (le-ltb (length s) 4 (omega (arith, c.long)))
    ∙ pick_else _ _ _ (one_magic s (magic s c))
    ∙ pick_then _ _ _ (magic s c)
    ∙ pick_else _ _ _ (le-ltb (length s) 2048 c.long)
    ∙ pick_else _ _ _ refl

pub moves_judge_else : (s : List ℕ) → same_at s 0 cowd_magic ≡ false → judge_of Either s ≡ judge s
unfolding judge_of pick
moves_judge_else s n = rw n
