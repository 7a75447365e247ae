-- Worked cases: calls on a fresh book of three vessels, what is looked at afterwards, and what is to be seen then.
-- `Marked`, `AgeCases`, `ScaleCases`, `LoadCases` and `Mixed` have tables of them, over the definitions that the
-- contracts cite.
-- Assumes nothing.
use Rattle.std.proofs.Common.{List, [], ◌∷◌, ◌++◌, map, ℕ, replicate}
use Rattle.table.specs.Table.{pieces_of, flat}
use Rattle.book.specs.declared.Transfer.{Transfer}
use Rattle.book.specs.Head.{opening}
use Rattle.book.specs.Calls.{Call, post}
use Rattle.book.specs.Lists.{Journal, calls_on, evens}
use Rattle.conservation.specs.Conservation.{numbers}

pub record Case : Type 0 where
  pub rule : ℕ
  pub given : List Call
  pub look : Journal → List ℕ
  pub wanted : List ℕ

-- of calls, and of transfers
abbrev pub called : ℕ → List Call → (Journal → List ℕ) → List ℕ → Case
called rule given look wanted = record { rule = rule; given = given; look = look; wanted = wanted }

abbrev pub worked : ℕ → List Transfer → (Journal → List ℕ) → List ℕ → Case
worked rule given look wanted = called rule (map post given) look wanted

-- the table that is lent: eight places, and no zeros in it
abbrev pub lent : List ℕ
lent = replicate 32 9

abbrev pub seen : Case → List ℕ
seen c = c.look (calls_on (opening c.rule 3).head lent c.given)

-- a look at the pieces and the even count
abbrev pub pieces : Journal → List ℕ
pieces r = flat (pieces_of r.head.pieces r.table) ++ evens r.log ∷ []

-- and at the number of each call
abbrev pub answers : Journal → List ℕ
answers r = numbers r.log
