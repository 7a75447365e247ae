-- The refusals as the code has them, and the number of each. The lists of checks of document 01 go by the numbers.
-- Definitions only. Assumes nothing.
use Rattle.std.specs.Prelude.{ℕ, Result, Ok, Err}
use Rattle.refusal.specs.declared.Refusal.{Refusal}
use Rattle.refusal.specs.declared.Refusal.TheVariants.{TableShort, RuleUnknown, VesselCount, BookOff, NoVessel, SameVessel, NoWeight, ClockBack, Overfull, TallyFull, TableFull, SpanBack, ReportShort, NoSheet, Movements, Layout, Name, AgeOver, OutputShort, PastEnd, BeforeTime, ScaleLoaded, ScaleBare}

abbrev pub number_of : Refusal → ℕ
number_of TableShort = 1
number_of RuleUnknown = 2
number_of VesselCount = 3
number_of BookOff = 4
number_of NoVessel = 5
number_of SameVessel = 6
number_of NoWeight = 7
number_of ClockBack = 8
number_of Overfull = 9
number_of TallyFull = 10
number_of TableFull = 11
number_of SpanBack = 12
number_of ReportShort = 13
number_of NoSheet = 14
number_of Movements = 15
number_of Layout = 16
number_of Name = 17
number_of AgeOver = 18
number_of OutputShort = 19
number_of PastEnd = 20
number_of BeforeTime = 21
number_of ScaleLoaded = 22
number_of ScaleBare = 23

-- The number of an outcome: 0, acceptance, or that of the refusal.
abbrev pub outcome_number : {T : Type 0} → Result T Refusal → ℕ
outcome_number (Ok x) = 0
outcome_number (Err why) = number_of why
