-- Answers in document 01's numbers: each refusal's number and place, and each answer's values.
use Prim.Native.Nat.{ℕ}
use mathlib.Core.List.{List, [], ◌∷◌, map}
use mathlib.Core.Path.{refl}
use Rattle.format.specs.Answers.{number, place, header_numbers, verdict, marked_numbers, located, chained, written}
use Rattle.format.specs.declared.MarkedAnswer.{MarkedAnswer}
use Rattle.format.specs.declared.MisplacedPart.TheVariants.{Descriptor, Directory, RedundantDirectory}
use Rattle.format.specs.declared.MisplacedPart.TheVariants.{PrimaryTable, RedundantTable}
use Rattle.format.specs.declared.Refusal.{Refusal}
use Rattle.format.specs.declared.Refusal.TheVariants.{TooShort, Magic, Version, Newline, Flags, Sizes, Footer, Misplaced}
use Rattle.format.specs.declared.Refusal.TheVariants.{GrainPast, Marker, CopiesDiffer, SharedSector, SectorPast}
use Rattle.format.specs.declared.Refusal.TheVariants.{TooLittleRoom, LayersDiffer, NotCollapsible, LayerLengths, StillOpen}
use Rattle.format.specs.declared.Source.TheVariants.{Absent, Zero, Stored, Packed}
use Rattle.format.specs.declared.numbers.Located.{Located}
use Rattle.examples.specs.Examples.{Example, example, Hold}
use Rattle.examples.specs.Images.{plain_header, open_header}
use Rattle.std.specs.Prelude.{Result, Ok, Err}
use Rattle.format.specs.declared.Header.{Header}
use Rattle.format.specs.declared.Shape.{Shape}
use Rattle.format.specs.AnswerParts.{accepted_as}
use Rattle.format.specs.AnswerParts.{refused_at}

-- ---- an answer's values in the order of the C face
abbrev headed : Result Header Refusal → List ℕ
headed a =
    let v = header_numbers a in
    v.number ∷ v.place ∷ v.capacity ∷ v.grain_size ∷ v.descriptor ∷ v.descriptor_sectors ∷ v.dirty ∷ []

abbrev checked : Result Shape Refusal → List ℕ
checked a = let v = verdict a in v.number ∷ v.place ∷ v.capacity ∷ v.grain_size ∷ []

abbrev marked_with : MarkedAnswer → List ℕ
marked_with a =
    let v = marked_numbers a in v.number ∷ v.place ∷ v.capacity ∷ v.grain_size ∷ v.marked ∷ []

abbrev served : Located → List ℕ
served v = v.number ∷ v.layer ∷ v.place ∷ v.kind ∷ v.sector ∷ v.size ∷ v.offset ∷ []

abbrev wrote : Result ℕ Refusal → List ℕ
wrote a = let v = written a in v.number ∷ v.place ∷ v.length ∷ []

-- ---- refusals
abbrev refusals : List Refusal
refusals =
    TooShort
    ∷ Magic
    ∷ Version
    ∷ Newline
    ∷ Flags
    ∷ Sizes
    ∷ Footer
    ∷ Misplaced Descriptor
    ∷ Misplaced Directory
    ∷ Misplaced RedundantDirectory
    ∷ Misplaced PrimaryTable
    ∷ Misplaced RedundantTable
    ∷ GrainPast 31
    ∷ Marker 32
    ∷ CopiesDiffer
    ∷ SharedSector
    ∷ SectorPast
    ∷ TooLittleRoom
    ∷ LayersDiffer
    ∷ NotCollapsible
    ∷ LayerLengths
    ∷ StillOpen
    ∷ []

abbrev answers : List (Example (List ℕ))
answers =
    example (map number refusals)
    (1 ∷ 2 ∷ 3 ∷ 4 ∷ 5 ∷ 6 ∷ 7 ∷ 8 ∷ 8 ∷ 8 ∷ 8 ∷ 8 ∷ 9 ∷ 10 ∷ 11 ∷ 12 ∷ 20 ∷ 21 ∷ 22 ∷ 23 ∷ 24 ∷ 27 ∷ [])
    ∷ example (map place refusals)
    (0 ∷ 0 ∷ 0 ∷ 0 ∷ 0 ∷ 0 ∷ 0 ∷ 1 ∷ 2 ∷ 3 ∷ 4 ∷ 5 ∷ 31 ∷ 32 ∷ 0 ∷ 0 ∷ 0 ∷ 0 ∷ 0 ∷ 0 ∷ 0 ∷ 0 ∷ [])
    -- a header: capacity, grain size, the descriptor's sector and sectors, dirty
    ∷ example (headed (Ok (plain_header 19 7 1 0))) (0 ∷ 0 ∷ 16 ∷ 8 ∷ 19 ∷ 7 ∷ 0 ∷ [])
    ∷ example (headed (Ok (open_header 32 8 5))) (0 ∷ 0 ∷ 32 ∷ 8 ∷ 0 ∷ 0 ∷ 5 ∷ [])
    ∷ example (headed (Err Footer)) (7 ∷ 0 ∷ 0 ∷ 0 ∷ 0 ∷ 0 ∷ 0 ∷ [])
    -- the check: capacity, grain size
    ∷ example (checked (accepted_as 200 128)) (0 ∷ 0 ∷ 200 ∷ 128 ∷ [])
    ∷ example (checked (Err (GrainPast 3))) (9 ∷ 3 ∷ 0 ∷ 0 ∷ [])
    -- in a lent list: with the sectors marked, also on 12
    ∷ example (marked_with (record { checked = accepted_as 200 128; marked = 9 })) (0 ∷ 0 ∷ 200 ∷ 128 ∷ 9 ∷ [])
    ∷ example (marked_with (record { checked = Err SharedSector; marked = 7 })) (12 ∷ 0 ∷ 0 ∷ 0 ∷ 7 ∷ [])
    ∷ example (marked_with (record { checked = Err (GrainPast 3); marked = 0 })) (9 ∷ 3 ∷ 0 ∷ 0 ∷ 0 ∷ [])
    -- a lookup: layer 0, place, kind, sector, size, offset
    ∷ example (served (located (Ok Absent))) (0 ∷ 0 ∷ 0 ∷ 0 ∷ 0 ∷ 0 ∷ 0 ∷ [])
    ∷ example (served (located (Ok Zero))) (0 ∷ 0 ∷ 0 ∷ 1 ∷ 0 ∷ 0 ∷ 0 ∷ [])
    ∷ example (served (located (Ok (Stored 130)))) (0 ∷ 0 ∷ 0 ∷ 2 ∷ 130 ∷ 0 ∷ 0 ∷ [])
    ∷ example (served (located (Ok (Packed 6 500 7)))) (0 ∷ 0 ∷ 0 ∷ 3 ∷ 6 ∷ 500 ∷ 7 ∷ [])
    ∷ example (served (located (Err (Marker 5)))) (10 ∷ 0 ∷ 5 ∷ 0 ∷ 0 ∷ 0 ∷ 0 ∷ [])
    -- a chain: the same with its layer
    ∷ example (served (chained (Ok (record { layer = 3; source = Stored 130 })))) (0 ∷ 3 ∷ 0 ∷ 2 ∷ 130 ∷ 0 ∷ 0 ∷ [])
    ∷ example (served (chained (refused_at 3 (Marker 5)))) (10 ∷ 3 ∷ 5 ∷ 0 ∷ 0 ∷ 0 ∷ 0 ∷ [])
    -- collapse and normal form: the result's length
    ∷ example (wrote (Ok 8192)) (0 ∷ 0 ∷ 8192 ∷ [])
    ∷ example (wrote (Err TooLittleRoom)) (21 ∷ 0 ∷ 0 ∷ [])
    ∷ example (wrote (Err (Marker 5))) (10 ∷ 5 ∷ 0 ∷ [])
    ∷ []

pub answers_hold : Hold answers
answers_hold = refl
