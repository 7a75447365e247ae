-- Lists of calls: each call gets the head that the last one returned and the table as that one left it, and nobody else
-- writes the table meanwhile.
-- Definitions only. Assumes nothing.
use Rattle.std.specs.Prelude.{Bool, true, false, ◌||◌, if◌then◌else◌, List, [], ◌∷◌, ℕ, ◌+◌, ◌-◌}
use Rattle.refusal.specs.Numbers.{if_zero}
use Rattle.book.specs.declared.Head.{Head}
use Rattle.book.specs.Calls.{Call, enter, set_rule, terms, meaning}
use Rattle.book.specs.Memory.{Outcome, call_on}

-- a call with its number, how often it was an even transfer, and whether it made a pick under rule 4
pub record Entry : Type 0 where
  pub asked : Call
  pub number : ℕ
  pub even : ℕ
  pub stirred : Bool

-- the journal of a list of calls, and the head and the table after it
pub record Journal : Type 0 where
  pub log : List Entry
  pub head : Head
  pub table : List ℕ

abbrev pub noted : Call → Outcome → Journal → Journal
noted c o r =
    record {
      log = record { asked = c; number = o.number; even = o.even; stirred = o.stirred } ∷ r.log;
      head = r.head;
      table = r.table;
    }

unfoldable pub calls_on : Head → List ℕ → List Call → Journal
calls_on h t [] = record { log = []; head = h; table = t }
calls_on h t (c ∷ cs) = let o = call_on h t c in noted c o (calls_on o.head o.table cs)

-- the calls, and those answered 0
abbrev pub all_asked : List Entry → List Call
all_asked [] = []
all_asked (e ∷ es) = e.asked ∷ all_asked es

abbrev pub answered : List Entry → List Call
answered [] = []
answered (e ∷ es) = if_zero e.number (e.asked ∷ answered es) (answered es)

-- how many of the calls are transfers, lifts counted
abbrev pub transfers : List Call → ℕ
transfers [] = 0
transfers (c ∷ cs) = (meaning c).counts + transfers cs

-- how many are tips: what is posted and does not count
abbrev pub tips_in : Call → ℕ
tips_in (enter p) = 1 - (terms p).counts
tips_in c = 0

abbrev pub tips : List Call → ℕ
tips [] = 0
tips (c ∷ cs) = tips_in c + tips cs

-- how many transfers answered 0 were even
abbrev pub evens : List Entry → ℕ
evens [] = 0
evens (e ∷ es) = e.even + evens es

-- whether any call of a journal made a pick under rule 4
abbrev pub stirs : List Entry → Bool
stirs [] = false
stirs (e ∷ es) = e.stirred || stirs es

-- whether a call sets a rule, and a list without those that do
abbrev pub sets_rule : Call → Bool
sets_rule (set_rule s) = true
sets_rule c = false

abbrev pub without_settings : List Call → List Call
without_settings [] = []
without_settings (c ∷ cs) = if sets_rule c then without_settings cs else c ∷ without_settings cs
