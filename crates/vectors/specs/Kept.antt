-- What a list of calls carried out on a fresh book of three vessels is told by: its journal, and the calls that it
-- lists.
-- Definitions only. Assumes nothing.
use Rattle.std.specs.Prelude.{◌≡◌, List, ℕ}
use Rattle.refusal.specs.Numbers.{first}
use Rattle.book.specs.Head.{open_checks, opening}
use Rattle.book.specs.Calls as Calls
use Rattle.book.specs.Lists.{Journal, calls_on}
use Rattle.journal.specs.declared.Call.{Call}
use Rattle.journal.specs.Carried.{lent, made}
use Rattle.vectors.specs.Vectors.{vessels}

-- the book is opened
abbrev pub Opens : ℕ → Type 0
Opens rule = first (open_checks rule vessels) ≡ 0

-- the calls that are made, each with the room as it is lent then
abbrev pub calls_made : ℕ → List ℕ → List Call → List ℕ → List ℕ → List Calls.Call
calls_made rule table calls answers room = lent (made calls answers) (opening rule vessels).head table room

abbrev pub journal_of : ℕ → List ℕ → List Call → List ℕ → List ℕ → Journal
journal_of rule table calls answers room =
    calls_on (opening rule vessels).head table (calls_made rule table calls answers room)
