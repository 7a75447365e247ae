-- A run: "A run reads the sheet, checks 1, opens a book and transfers until one is refused; its answer has that number,
-- the movement's index from 0 (M if all passed), and the even count. It stops with the head and table after the last
-- accepted one."
-- Definitions only. Assumes nothing.
use Rattle.std.specs.Prelude.{◌≡◌, List, [], ◌∷◌, ℕ, zero, suc, ◌+◌, ◌*◌, ◌≤◌, ltb, length, drop, Result, MatchResult}
use Rattle.refusal.specs.Numbers.{◌if◌, first, if_zero}
use Rattle.book.specs.declared.Head.{Head}
use Rattle.book.specs.declared.Transfer.{Transfer}
use Rattle.book.specs.Head.{empty_head, open_checks, opening}
use Rattle.book.specs.Transfer.{transfer_of}
use Rattle.book.specs.Calls.{post}
use Rattle.book.specs.Memory.{Outcome, call_on}
use Rattle.refusal.specs.declared.Refusal.{Refusal}
use Rattle.refusal.specs.Refusals.{number_of}
use Rattle.run.specs.declared.Ran.{Ran}
use Rattle.run.specs.declared.Stop.{Stop}
use Rattle.fields.specs.Bytes.{groups}
use Rattle.fields.specs.Movements.{entry_size, entry_in}
use Rattle.fields.specs.Layout.{entries_start}
use Rattle.sheet.specs.Sheet.{rule_of, vessels_of, movements_of, read_number}

-- the transfer that the movement in the first bytes is
abbrev pub transfer_in : List ℕ → Transfer
transfer_in l = let e = entry_in l in transfer_of e.source e.destination e.minute e.weight e.age

-- the transfers of a sheet, in turn
abbrev pub transfers_of : List ℕ → List Transfer
transfers_of s = groups entry_size transfer_in (movements_of s) (drop (entries_start (vessels_of s)) s)

-- the transfer at an index of a sheet that reads well
abbrev pub transfer_at : List ℕ → ℕ → Transfer
transfer_at s i = transfer_in (drop (entries_start (vessels_of s) + entry_size * i) s)

-- What a run gives back, and the table that it leaves.
pub record Running : Type 0 where
  pub answer : Ran
  pub table : List ℕ

abbrev pub ended : ℕ → ℕ → ℕ → Head → List ℕ → Running
ended n i even h t = record { answer = record { number = n; index = i; even = even; head = h }; table = t }

-- a run that did not begin: a head of zeros
abbrev pub not_run : ℕ → Ran
not_run n = record { number = n; index = 0; even = 0; head = empty_head 0 0 }

-- what is yielded by a run that stopped so, with this head
abbrev pub ran_to : Stop → Head → Ran
ran_to s h = record { number = s.number; index = s.index; even = s.even; head = h }

-- What running promises: the answer and the table are those of y.
pub record Gives (y : Running) (t' : List ℕ) (r : Ran) : Type 0 where
  pub answer_is : r ≡ y.answer
  pub table_is : t' ≡ y.table

-- The transfers from index i on; so many before it were even. The first refused one ends the run.
abbrev pub go_on : (ℕ → Head → List ℕ → Running) → ℕ → ℕ → Head → List ℕ → Transfer → Outcome → ℕ → Running
go_on more i even h t x o zero = more (even + o.even) o.head o.table
go_on more i even h t x o (suc n) = ended (suc n) i even h t

unfoldable pub run_from : ℕ → ℕ → Head → List ℕ → List Transfer → Running
run_from i even h t [] = ended 0 i even h t
run_from i even h t (x ∷ xs) =
    go_on (λ even' h' t'. run_from (suc i) even' h' t' xs) i even h t x (call_on h t (post x)) (call_on h t (post x)).number

-- The number of a run that is refused by its sheet or by 1: "a head of zeros".
unfoldable pub run_number : List ℕ → List ℕ → ℕ
run_number s t = if_zero (read_number s) (first (1 if ltb (length t) 4 ∷ [])) (read_number s)

unfoldable pub running : List ℕ → List ℕ → Running
running s t =
    if_zero (run_number s t) (run_from 0 0 (opening (rule_of s) (vessels_of s)).head t (transfers_of s)) (ended (run_number s t) 0 0 (empty_head 0 0) t)

-- What its checks find: the sheet, or the refusal.
abbrev pub Checked : List ℕ → List ℕ → Result (List ℕ) Refusal → Type 0
Checked s t r = MatchResult r (λ sheet. (sheet ≡ s) × (run_number s t ≡ 0)) (λ why. number_of why ≡ run_number s t)

-- What a run that begins asks: its sheet opens a book, and the table has a place.
pub record CanRun (s t : List ℕ) : Type 0 where
  pub opens : first (open_checks (rule_of s) (vessels_of s)) ≡ 0
  pub long : 4 ≤ length t
