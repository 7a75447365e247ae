-- `check_book` meets its contract: where the table has no place, check 1 applies, whatever the book.
use Rattle.std.proofs.Common.{◌≡◌, List, ℕ, ◌<◌, length, arith, rules}
use Rattle.std.proofs.lemmas.Bool.Decides.{nat_tests}
use Rattle.refusal.specs.Numbers.{first}
use Rattle.book.specs.declared.Head.{Head}
use Rattle.book.specs.Head.{balance_at}
use Rattle.book.specs.Memory.{book_checks}
use Rattle.ledger.proofs.audit.check_book.Goals as goal

no_place_first : (h : Head) (t : List ℕ) → length t < 4 → 1 ≡ first (book_checks h t)
unfolding book_checks
no_place_first h t few = grind (arith, nat_tests)

pub returns-then-table-lt4 : goal.returns-then-table-lt4
unfolding balance_at
returns-then-table-lt4 c = (no_place_first _ _ c.if-table-lt4.true, search rules)
