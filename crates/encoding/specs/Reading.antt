-- A call as the code reads it from six numbers, or its refusal. proofs/Reading.antt shows that it is the call in them.
-- Definitions only. Assumes nothing.
use Rattle.std.specs.Prelude.{cond, List, ℕ, ltb, Result, Ok, Err}
use Rattle.refusal.specs.declared.Refusal.{Refusal}
use Rattle.refusal.specs.declared.Refusal.TheVariants.{AgeOver}
use Rattle.book.specs.Transfer.{most_age}
use Rattle.journal.specs.declared.Call.{Call}
use Rattle.encoding.specs.Encoding.{call_listed, age_off}

-- an age is a number of 16 bits
abbrev pub age_read : ℕ → Result ℕ Refusal
age_read n = cond (ltb most_age n) (Err AgeOver) (Ok n)

-- the call in the first six numbers, where it has no age that is off
unfoldable pub call_read : List ℕ → Result Call Refusal
call_read l = cond (age_off l) (Err AgeOver) (Ok (call_listed l))
