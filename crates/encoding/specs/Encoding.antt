-- Calls in numbers. Six numbers are a call: its kind and its arguments.
-- Kind 0 is a transfer (source, destination, minute, weight, age), 1 the held report (vessel), 2 spread (origin, from,
-- to), 4 a lift (source, minute, weight, age), 5 a tip (destination, minute), 6 the setting of a rule (vessel, rule), 3
-- and any other the whole report. Numbers behind the arguments are not looked at.
-- An age is a number of 16 bits: a list with a transfer or a lift of a larger one is refused whole, with 18.
-- Definitions only. Assumes nothing.
use Rattle.std.specs.Prelude.{◌≡◌, Bool, true, false, cond, ◌||◌, List, [], ◌∷◌, ◌++◌, ℕ, zero, suc, ◌/◌, min, eqb, ltb, length, get_or, drop, Result, Ok}
use Rattle.refusal.specs.declared.Refusal.{Refusal}
use Rattle.refusal.specs.Refusals.{outcome_number}
use Rattle.book.specs.declared.Report.{Report}
use Rattle.book.specs.declared.Report.TheVariants.{Held, Spread, Whole}
use Rattle.book.specs.Transfer.{most_age, transfer_of}
use Rattle.book.specs.Scale.{lift_of, tip_of}
use Rattle.book.specs.Setting.{setting_of}
use Rattle.book.specs.Calls as Calls
use Rattle.journal.specs.declared.Call.{Call}
use Rattle.journal.specs.declared.Call.TheVariants as Variants
use Rattle.journal.specs.Carried.{called}

abbrev pub call_size : ℕ
call_size = 6

-- the report of a kind, with its arguments
abbrev pub report_of : ℕ → ℕ → ℕ → ℕ → Report
report_of kind a b c = cond (eqb kind 1) (Held a) (cond (eqb kind 2) (Spread a b c) Whole)

-- the call in the first six numbers
unfoldable pub call_listed : List ℕ → Call
call_listed l =
    let kind = get_or l 0 0 in
    cond (eqb kind 0)
    (Variants.Transfer (transfer_of (get_or l 1 0) (get_or l 2 0) (get_or l 3 0) (get_or l 4 0) (get_or l 5 0)))
    (cond (eqb kind 4) (Variants.Lift (lift_of (get_or l 1 0) (get_or l 2 0) (get_or l 3 0) (get_or l 4 0)))
    (cond (eqb kind 5) (Variants.Tip (tip_of (get_or l 1 0) (get_or l 2 0)))
    (cond (eqb kind 6) (Variants.Setting (setting_of (get_or l 1 0) (get_or l 2 0)))
    (Variants.Report (report_of kind (get_or l 1 0) (get_or l 2 0) (get_or l 3 0))))))

-- with the room that it is lent
abbrev pub call_in : List ℕ → List ℕ → Calls.Call
call_in l room = called (call_listed l) room

-- the age in the first six numbers, 0 where the call has none; whether it is above the largest, and whether one of the
-- first n calls has such an age
abbrev pub age_in : List ℕ → ℕ
age_in l = let kind = get_or l 0 0 in cond (eqb kind 0) (get_or l 5 0) (cond (eqb kind 4) (get_or l 4 0) 0)

unfoldable pub age_off : List ℕ → Bool
age_off l = ltb most_age (age_in l)

unfoldable pub ages_off : ℕ → List ℕ → Bool
ages_off zero l = false
ages_off (suc n) l = age_off l || ages_off n (drop call_size l)

-- the first n calls
unfoldable pub calls_in : ℕ → List ℕ → List Call
calls_in zero l = []
calls_in (suc n) l = call_listed l ∷ calls_in n (drop call_size l)

-- how many calls there are numbers for, and room for so many calls
abbrev pub count_calls : List ℕ → ℕ → ℕ
count_calls numbers room = min (length numbers / call_size) room

-- What reading calls promises, of the numbers, the room for calls before and after, and the answer.
pub record Reads (numbers : List ℕ) (calls calls' : List Call) (r : Result ℕ Refusal) : Type 0 where
  pub off : ages_off (count_calls numbers (length calls)) numbers ≡ true → (outcome_number r ≡ 18) × (calls' ≡ calls)
  pub on : ages_off (count_calls numbers (length calls)) numbers ≡ false
      → let n = count_calls numbers (length calls) in (r ≡ Ok n) × (calls' ≡ calls_in n numbers ++ drop n calls)
