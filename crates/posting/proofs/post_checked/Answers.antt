-- `post_checked` meets its contract: refused by 1 or 4, or the book is known.
use Rattle.std.proofs.Common.{refl}
use Rattle.book.proofs.Audited.{audited}
use Rattle.motions.proofs.Posted.{off_posts}
use Rattle.posting.proofs.post_checked.Goals as goal

pub returns-in_err-check_book : goal.returns-in_err-check_book
returns-in_err-check_book g c = off_posts _ _ _ _ c.in_err-check_book.ensures.0 _ c.from_residual.ensures.1

pub post_known-requires-clause-known : goal.post_known-requires-clause-known
post_known-requires-clause-known g c = audited _ _ _ c.in_ok-check_book.ensures refl
