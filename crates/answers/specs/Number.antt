-- Document 01, "Numbers returned", and document 02 for 25 to 28: the number of each refusal, and of a call that ended well or with one.
use Rattle.std.specs.Prelude.{ℕ}
use Rattle.std.specs.declared.result.Result.{Result}
use Rattle.std.specs.declared.result.Result.TheVariants.{Ok, Err}
use Rattle.answers.specs.declared.Refusal.{Refusal}
use Rattle.answers.specs.declared.Refusal.TheVariants.{PlanLength, PlanVersion, PlanCounts, PlanSize, PlanRule, PlanChannel, PlanDegree, State, FrameLength, FrameVersion, FrameKind, StepsUsedUp, NoSuchPlace, WrongPlace, WrongStatus, CrashedNeighbour, WrongRecord, NothingThere, ChannelFull, RowComplete, NoSpace, Table, OutputShort, NoPlacing, NoSuchConsole, NotAllUp, NothingKept, ListLength}

abbrev pub refusal_number : Refusal → ℕ
refusal_number PlanLength = 1
refusal_number PlanVersion = 2
refusal_number PlanCounts = 3
refusal_number PlanSize = 4
refusal_number PlanRule = 5
refusal_number PlanChannel = 6
refusal_number PlanDegree = 7
refusal_number State = 8
refusal_number FrameLength = 9
refusal_number FrameVersion = 10
refusal_number FrameKind = 11
refusal_number StepsUsedUp = 12
refusal_number NoSuchPlace = 13
refusal_number WrongPlace = 14
refusal_number WrongStatus = 15
refusal_number CrashedNeighbour = 16
refusal_number WrongRecord = 17
refusal_number NothingThere = 18
refusal_number ChannelFull = 19
refusal_number RowComplete = 20
refusal_number NoSpace = 21
refusal_number Table = 22
refusal_number OutputShort = 23
refusal_number NoPlacing = 24
refusal_number NoSuchConsole = 25
refusal_number NotAllUp = 26
refusal_number NothingKept = 27
refusal_number ListLength = 28

-- 0 "for accepted", else the refusal's number.
abbrev pub number : {A : Type 0} → Result A Refusal → ℕ
number (Ok a) = 0
number (Err r) = refusal_number r
