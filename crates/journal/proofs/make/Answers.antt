-- `make` meets its contract: a kind of call after the other.
use Rattle.book.proofs.Audited.{vessels_fit}
use Rattle.journal.proofs.Making.{set, asked}
use Rattle.journal.proofs.make.Goals as goal

pub returns-in-Transfer : goal.returns-in-Transfer
returns-in-Transfer c = rw c.in-Transfer.is (c.post.ensures _)

pub returns-in-Lift : goal.returns-in-Lift
returns-in-Lift c = rw c.in-Lift.is (c.post-in-Lift.ensures _)

pub returns-in-Tip : goal.returns-in-Tip
returns-in-Tip c = rw c.in-Tip.is (c.post-in-Tip.ensures _)

pub set_known-requires : goal.set_known-requires
set_known-requires c = vessels_fit _ _ c.requires

pub returns-in-Setting : goal.returns-in-Setting
returns-in-Setting c = rw c.in-Setting.is (set c.requires (c.set_known.ensures.sets _ c.requires))

pub returns-in-Report : goal.returns-in-Report
returns-in-Report c = rw c.in-Report.is (asked c.requires c.report_known.ensures)
