-- Closing a download that broke off (request A12): what is not taken, the answer, and what the output then holds.
use Rattle.std.specs.Prelude.{ℕ, ◌*◌, List, ◌++◌, Bool, not, ◌||◌, ltb, eqb, length, take}
use Rattle.base.specs.Pick.{pick}
use Rattle.base.specs.Bytes.{over}
use Rattle.format.specs.Geometry.{file_sectors}
use Rattle.format.specs.Header.{start_of, judge_start}
use Rattle.format.specs.Check.{descriptor_misplaced}
use Rattle.format.specs.Stream.{overhead, kept_grains, kept_sectors}
use Rattle.format.specs.Tail.{tail_sectors, tail_bytes}
use Rattle.format.specs.declared.Header.{Header}
use Rattle.format.specs.declared.Refusal.TheVariants.{TooLittleRoom, NotClosable}
use Rattle.std.specs.Prelude.{Result, Ok, Err}
use Rattle.format.specs.declared.Refusal.{Refusal}
use Rattle.format.specs.declared.closing.Kept.{Kept}
use Rattle.format.specs.AnswerParts.{closed_as}

-- ---- 41, part by part
-- no start with directory at end (5 has refused one without flag 0x20000), or one with a redundant directory
abbrev pub no_stream : Header → Bool
no_stream h = not h.footer || not (eqb h.redundant 0)

-- over 2^31 sectors; overhead under 2 or past F
abbrev pub walk_misplaced : List ℕ → Bool
walk_misplaced s = ltb 0x80000000 (file_sectors s) || (ltb (overhead s) 2 || ltb (file_sectors s) (overhead s))

-- one descriptor number zero and one not; a descriptor that isn't wholly between header and overhead: one whose sector is not 0
-- stands after the header, which is a sector
abbrev pub not_closable : List ℕ → Header → Bool
not_closable s h = no_stream h || (walk_misplaced s || descriptor_misplaced (overhead s) h)

-- ---- kept part and tail
abbrev pub tail_of : List ℕ → Header → List ℕ
tail_of s h = tail_bytes s h (kept_sectors s h) (kept_grains s h)

abbrev pub tail_length : List ℕ → Header → ℕ
tail_length s h = 512 * tail_sectors h (kept_grains s h)

-- both together
abbrev pub closed_image : List ℕ → List ℕ
closed_image s = take (512 * kept_sectors s (start_of s)) s ++ tail_of s (start_of s)

-- ---- the answer, where the output has `room` bytes
-- 41, 21
unfoldable pub close_from : List ℕ → Header → ℕ → Result Kept Refusal
close_from s h room =
    pick (not_closable s h) (Err NotClosable)
    (pick (ltb room (tail_length s h)) (Err TooLittleRoom)
    (closed_as (kept_sectors s h) (length (kept_grains s h)) (tail_length s h)))

unfoldable pub close_judged : List ℕ → ℕ → Result Header Refusal → Result Kept Refusal
close_judged s room (Err r) = Err r
close_judged s room (Ok h) = close_from s h room

-- 1 to 6 and 43 as the header has them, 41, 21
abbrev pub close : List ℕ → ℕ → Result Kept Refusal
close s room = close_judged s room (judge_start s)

-- ---- the output: the tail from its start on, and what it held past that; on a refusal all that it held
unfoldable pub tail_written : Result Kept Refusal → List ℕ → List ℕ → List ℕ
tail_written (Ok kept) tail out = over out 0 tail
tail_written (Err r) tail out = out

abbrev pub close_output : List ℕ → List ℕ → List ℕ
close_output s out = tail_written (close s (length out)) (tail_of s (start_of s)) out
