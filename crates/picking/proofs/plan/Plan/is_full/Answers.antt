-- `Plan::is_full`: where weight is still wanted, the places decide.
use Rattle.std.proofs.Common.{◌≡◌, ◌≢◌, Bool, false, cond, ℕ, eqb, leb, arith}
use Rattle.std.proofs.lemmas.Bool.Decides.{nat_tests}
use Rattle.picking.proofs.plan.Plan.is_full.Goals as goal

full_by_places : (left : ℕ) (full : Bool) → left ≢ 0 → full ≡ cond (eqb left 0) false full
full_by_places left full more = grind (arith, nat_tests)

pub returns-then-self-ne0 : goal.returns-then-self-ne0
returns-then-self-ne0 c = full_by_places _ (leb c.args.places c.args.n) c.if-self-ne0.true
