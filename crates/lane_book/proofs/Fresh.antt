-- A fresh book in lanes: no piece lies in its lanes, so that a table is as it was lent; and what a transfer's checks
-- tell of its motion.
-- Assumes nothing.
use Rattle.std.proofs.Common.{◌≡◌, refl, List, [], ℕ, ◌≤◌, ◌<◌, arith}
use Rattle.refusal.specs.Numbers.{first}
use Rattle.table.specs.Table.{flat, lay}
use Rattle.taking.specs.Stirring.{stirred_rule}
use Rattle.lanes.specs.Lanes.{Contents}
use Rattle.book.specs.declared.Head.{Head}
use Rattle.book.specs.declared.Transfer.{Transfer}
use Rattle.book.specs.Head.{most_vessels, empty_head, open_checks}
use Rattle.book.specs.Motion.{of_head, motion}
use Rattle.book.specs.Transfer.{transfer_terms}
use Rattle.book.proofs.After.{fresh_known}
use Rattle.book.proofs.Checks.{fit}
use Rattle.book.proofs.HeadLaws.{openable}
use Rattle.lane_book.specs.InLanes.{BetweenVessels}
use Rattle.lane_book.specs.LaneBook.{written, Opened}

-- no piece is written
none_written : (t : List ℕ) → lay [] t ≡ t
unfolding flat
none_written t = refl

module _ (rule size : ℕ) (e : first (open_checks rule size) ≡ 0) where
  pub rule_fits : rule < stirred_rule
  rule_fits = let u = (openable rule size e).rule_known in omega (arith, u)

  pub few_vessels : size ≤ most_vessels
  few_vessels = (openable rule size e).few_vessels

  pub opened : (h : Head) → h ≡ empty_head rule size → (c : Contents) → c ≡ record { rule = rule; pieces = [] }
      → Opened rule size (record { head = h; kept = record { lanes = c } })
  unfolding written
  opened h eh c ec =
      rw (eh, ec) (record {
        head = refl;
        stands = λ t long. let k = fresh_known rule size t e in record {
          audited = rw (none_written t) (record { long = long; book_adds_up = k.adds; sized = k.sized });
          kept = record { rules = refl; rule = refl; count = refl; room = omega arith };
        };
        bare = none_written;
      })

-- a transfer that passes its checks goes from vessel to vessel
pub between : (h : Head) (x : Transfer) → first ((transfer_terms x).checks (of_head h)) ≡ 0
    → BetweenVessels h (motion (transfer_terms x) (of_head h))
between h x z = let f = fit (of_head h) x z in record { from_vessel = f.source_in; to_vessel = f.destination_in }
