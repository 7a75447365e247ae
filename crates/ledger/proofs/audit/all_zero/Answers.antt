-- `all_zero` meets its contract: the library asks of each number whether it is 0.
use Rattle.std.proofs.Common.{ℕ, eqb, rules}
use Rattle.std.proofs.lemmas.Iterator.{YieldsList-from_slice}
use Rattle.std.proofs.lemmas.Iterator.Search.{all_from_yields_List}
use Rattle.book.specs.Head.{all_zero}
use Rattle.ledger.proofs.audit.all_zero.Goals as goal

pub returns : goal.returns
unfolding all_zero
returns c =
    all_from_yields_List (λ (x : ℕ). eqb x 0) _ _ _ c.all.ensures.ran (YieldsList-from_slice c.args.rest.now cc)
    (λ x b q k. search rules)
