-- The numbers of documents 01 and 02 for why something is refused (01, "Turned away by the request or the file" and "Turned away by the field"; 02, 2.1, 2.8 and
-- 2.10 to 2.13). Definitions only.
use Rattle.std.specs.Prelude.{ℕ, Result, Ok, Err}
use Rattle.refusals.specs.declared.Refusal.{Refusal}
use Rattle.refusals.specs.declared.Refusal.TheVariants.{NoSuchKind, SideDoesNotFit, NumberDoesNotFit, AmountDoesNotFit, WrongSizeOrLetters, WrongContents, LegOutOfRange, BoundBroken, OnTheField, NotOnTheField, NotFromItsZone, NotHeadOfItsZone, LegNotFlownOut, SideTaken, SideIsAFixOnTheApproach, MissedZoneOccupied, LateralZoneOccupied, BothHoldingsOccupied, BelowOccupied, NotFirstInSequence, TwoOnTheOppositeBase, RunwayOccupied, BoundWouldBreak, OfTheOtherDesk, NothingToTakeBack, BufferTooShort, NotInTheDialect, NoBinder, NoSuchDesk}

-- the number of a reason
unfoldable pub number_of : Refusal → ℕ
number_of NoSuchKind = 1
number_of SideDoesNotFit = 2
number_of NumberDoesNotFit = 3
number_of AmountDoesNotFit = 4
number_of WrongSizeOrLetters = 5
number_of WrongContents = 6
number_of LegOutOfRange = 7
number_of BoundBroken = 10
number_of OnTheField = 11
number_of NotOnTheField = 12
number_of NotFromItsZone = 13
number_of NotHeadOfItsZone = 14
number_of LegNotFlownOut = 15
number_of SideTaken = 16
number_of SideIsAFixOnTheApproach = 17
number_of MissedZoneOccupied = 18
number_of LateralZoneOccupied = 19
number_of BothHoldingsOccupied = 20
number_of BelowOccupied = 21
number_of NotFirstInSequence = 22
number_of TwoOnTheOppositeBase = 23
number_of RunwayOccupied = 24
number_of BoundWouldBreak = 25
number_of OfTheOtherDesk = 26
number_of NothingToTakeBack = 27
number_of BufferTooShort = 28
number_of NotInTheDialect = 29
number_of NoBinder = 30
number_of NoSuchDesk = 31

-- the number of an outcome: 0 where nothing refuses it
abbrev pub outcome_number : {A : Type 0} → Result A Refusal → ℕ
outcome_number (Ok a) = 0
outcome_number (Err e) = number_of e
