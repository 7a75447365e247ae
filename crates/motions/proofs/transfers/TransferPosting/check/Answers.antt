-- A transfer's checks: where 6 is the first that applies, and where 9 is.
use Rattle.std.proofs.Common.{◌≡◌, ◌≢◌, ℕ, ◌+◌, ◌≤◌, ◌<◌, arith}
use Rattle.std.proofs.lemmas.Bool.Decides.{nat_tests}
use Rattle.refusal.specs.Numbers.{TOP, first}
use Rattle.book.specs.declared.Transfer.{Transfer}
use Rattle.book.specs.Motion.{Standing, of_head}
use Rattle.book.specs.Transfer.{transfer_checks}
use Rattle.motions.proofs.transfers.TransferPosting.check.Goals as goal

module _ (g : Standing) (x : Transfer) (source_in : x.source < g.vessels)
    (destination_in : x.destination < g.vessels) where
  same_vessel : x.source ≡ x.destination → 6 ≡ first (transfer_checks g x)
  unfolding transfer_checks
  same_vessel same = grind (arith, nat_tests)

  overfull : x.source ≢ x.destination → x.weight ≢ 0 → g.last ≤ x.minute → x.age ≤ x.minute
      → (b : ℕ) → b ≡ g.balance x.destination → TOP < b + x.weight → 9 ≡ first (transfer_checks g x)
  unfolding transfer_checks
  overfull apart weighty forward in_time b e over = grind (arith, nat_tests)

pub returns-then-self : goal.returns-then-self
returns-then-self c =
    same_vessel (of_head c.args.head.now) c.args.self c.if-head-self.false c.if-head-self-2.false c.if-self.true

pub returns-then-balance-self : goal.returns-then-balance-self
returns-then-balance-self c =
    overfull (of_head c.args.head.now) c.args.self c.if-head-self.false c.if-head-self-2.false
    c.if-self.false c.if-self-eq0.false c.if-self-head.false c.if-self-2.false
    _ c.balance_at-balance.ensures c.if-balance-self.true
