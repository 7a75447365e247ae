-- `set_checked` meets its contract: refused by 1 or 4, or the book adds up.
use Rattle.std.proofs.Common.{refl}
use Rattle.book.proofs.Audited.{audited, vessels_fit}
use Rattle.ledger.proofs.Ruled.{set_off}
use Rattle.ledger.proofs.rules.set_checked.Goals as goal

pub returns-in_err-check_book : goal.returns-in_err-check_book
returns-in_err-check_book c = set_off _ _ _ _ c.in_err-check_book.ensures.0 _ c.from_residual.ensures.1

pub set_known-requires : goal.set_known-requires
set_known-requires c = vessels_fit _ _ (audited _ _ _ c.in_ok-check_book.ensures refl)

pub returns : goal.returns
returns c = c.set_known.ensures.sets _ (audited _ _ _ c.in_ok-check_book.ensures refl)
