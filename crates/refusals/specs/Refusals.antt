-- A call's answer and the number of its refusal (01, Refusal numbers).
use Rattle.std.specs.Prelude.{ℕ, Result, Ok, Err}
use Rattle.refusals.specs.declared.Refusal.{Refusal}
use Rattle.refusals.specs.declared.Refusal.TheVariants.{Length, RecordCheck, Section0, Placement, SectionCheck, HeaderFields, CodeTables, LeadSections, Disagreement, NotFound, Room, NoValue, OutOfRange, LeftOver, NoCode, TooLong, Request, Date, Index}

-- the number of a refusal
abbrev pub number_of : Refusal → ℕ
number_of Length = 1
number_of RecordCheck = 2
number_of Section0 = 3
number_of Placement = 4
number_of SectionCheck = 5
number_of HeaderFields = 6
number_of CodeTables = 7
number_of LeadSections = 8
number_of Disagreement = 9
number_of NotFound = 10
number_of Room = 11
number_of NoValue = 12
number_of OutOfRange = 13
number_of LeftOver = 14
number_of NoCode = 15
number_of TooLong = 16
number_of Request = 17
number_of Date = 24
number_of Index = 26

-- the number that an answer refuses with, and 0 where it refuses nothing
abbrev pub refusal_in : {T : Type 0} → Result T Refusal → ℕ
refusal_in (Ok x) = 0
refusal_in (Err e) = number_of e

-- an answer with its refusal as a number
abbrev pub numbered : {T : Type 0} → Result T Refusal → Result T ℕ
numbered (Ok x) = Ok x
numbered (Err e) = Err (number_of e)
