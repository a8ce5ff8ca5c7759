-- The second check (request A6): the plain check's answers but for 21, in a list that the caller lends, and the number of
-- sectors marked.
use Rattle.std.specs.Prelude.{ℕ, ◌+◌, List, [], ◌∷◌, Bool, true, ◌&&◌, ltb, eqb, length}
use Rattle.base.specs.Pick.{pick}
use Rattle.base.specs.Rounding.{ceil}
use Rattle.base.specs.Bytes.{over, zeros}
use Rattle.format.specs.Geometry.{file_sectors}
use Rattle.format.specs.Header.{header_of}
use Rattle.format.specs.Areas.{Area, areas, shares_any}
use Rattle.format.specs.Check.{check}
use Rattle.format.specs.Answers.{number}
use Rattle.format.specs.declared.Refusal.TheVariants.{TooLittleRoom}
use Rattle.format.specs.declared.MarkedAnswer.{MarkedAnswer}
use Rattle.std.specs.Prelude.{Result, Ok, Err}
use Rattle.format.specs.declared.Shape.{Shape}
use Rattle.format.specs.declared.Refusal.{Refusal}

-- ---- room: a word for every 64 file sectors, rounded up
abbrev pub words_needed : List ℕ → ℕ
words_needed s = ceil (file_sectors s) 64

-- ---- the number
-- the sum of all sizes
unfoldable pub sectors_of : List Area → ℕ
sectors_of [] = 0
sectors_of (a ∷ l) = a.sector_count + sectors_of l

-- the areas before the first one that meets an earlier one; `earlier` are those that came before the list
unfoldable pub before_meeting : List Area → List Area → List Area
before_meeting earlier [] = []
before_meeting earlier (a ∷ l) = pick (shares_any a earlier) [] (a ∷ before_meeting (a ∷ earlier) l)

-- the sum of the areas before the first one that meets an earlier one: where none does, of all
abbrev pub marked_sectors : List Area → ℕ
marked_sectors l = sectors_of (before_meeting [] l)

-- ---- the answer, where the list has `room` words
-- the answer is acceptance or 12, the two that are given after areas were marked
unfoldable pub came_to_marking : Result Shape Refusal → Bool
came_to_marking (Ok sizes) = true
came_to_marking (Err r) = eqb (number r) 12

-- 21 comes after 11 and before 12: in place of acceptance or 12 where the list is too short
unfoldable pub check_in_room : List ℕ → ℕ → Result Shape Refusal
check_in_room s room = pick (came_to_marking (check s) && ltb room (words_needed s)) (Err TooLittleRoom) (check s)

-- after acceptance and 12 the sectors of the areas before the first that meets an earlier one (after acceptance none does, so
-- the sum of all: law `marked_all`), and 0 on every other refusal
unfoldable pub with_marked : List ℕ → Result Shape Refusal → MarkedAnswer
with_marked s a = record { checked = a; marked = pick (came_to_marking a) (marked_sectors (areas s (header_of s))) 0 }

abbrev pub check_in : List ℕ → ℕ → MarkedAnswer
check_in s room = with_marked s (check_in_room s room)

-- ---- the lent list: after acceptance and 12 the needed part is zero, and past it stands what it held; else all that it held
unfoldable pub list_after_check : List ℕ → List ℕ → List ℕ
list_after_check s list =
    pick (came_to_marking (check_in_room s (length list))) (over list 0 (zeros (words_needed s))) list
