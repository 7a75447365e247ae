-- `make_all`: what its invariant leaves to show. A turn makes one movement.
use Rattle.std.proofs.Common.{rules}
use Rattle.run.proofs.RunLaws.{going_end}
use Rattle.run.proofs.Making.{made_refused, made_on}
use Rattle.run.proofs.make_all.Goals as goal

pub returns-in-Err-clause-given : goal.returns-in-Err-clause-given
returns-in-Err-clause-given c = search (rules, made_refused)

pub loop-i-preserved : goal.loop-i-preserved
loop-i-preserved c = search (rules, made_on)

pub returns-clause-given : goal.returns-clause-given
returns-clause-given c = going_end _ _ _ _ _ _ _ c.loop-i.invariant.going _ c.header-movements.ensures.0 (search rules)
