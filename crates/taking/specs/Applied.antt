-- What moving the pieces answers, where so much is taken, and the table that it leaves. The places are full where the
-- pieces afterwards would exceed them.
-- Definitions only. Assumes nothing.
use Rattle.std.specs.Prelude.{◌≡◌, Bool, cond, Option, None, Some, List, ℕ, ltb, length}
use Rattle.table.specs.Table.{lay}
use Rattle.taking.specs.declared.Applied.{Applied}
use Rattle.taking.specs.declared.Move.{Move}
use Rattle.taking.specs.Taken.{Taken}
use Rattle.taking.specs.Taking.{handed}

abbrev pub full : ℕ → Move → Taken → Bool
full places m r = ltb places (length (handed m r))

abbrev pub accepted : Move → Taken → Applied
accepted m r = record { whole = r.whole; split = r.split; born = r.born; count = length (handed m r) }

-- the answer, where r is taken
unfoldable pub applied : ℕ → Move → Taken → Option Applied
applied places m r = cond (full places m r) None (Some (accepted m r))

-- the table that is left of t
unfoldable pub table_left : ℕ → Move → Taken → List ℕ → List ℕ
table_left places m r t = cond (full places m r) t (lay (handed m r) t)

-- What it promises where r is to be taken, of its answer and of the table after.
pub record Moves (places : ℕ) (m : Move) (r : Taken) (t t' : List ℕ) (o : Option Applied) : Type 0 where
  pub answer : o ≡ applied places m r
  pub table : t' ≡ table_left places m r t
