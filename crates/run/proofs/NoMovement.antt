-- THE RUN OF A SHEET WITHOUT MOVEMENTS: once past 1 it is a fresh book, with index 0 and even 0, and the table is as it was.
-- Assumes nothing.
use Rattle.std.proofs.Common.{ℕ, ◌≤◌, ◌≡◌, List, length, le-ltb}
use Rattle.book.specs.Head.{empty_head}
use Rattle.fields.specs.Bytes.{groups}
use Rattle.sheet.specs.Sheet.{rule_of, vessels_of, movements_of, read_number}
use Rattle.run.specs.Run.{ended, run_from, run_number, running}
use Rattle.run.proofs.RunLaws.{opens_well, fresh_opened}

pub no_movement_run : (s t : List ℕ) → movements_of s ≡ 0 → read_number s ≡ 0 → 4 ≤ length t → running s t ≡ ended 0 0 0 (empty_head (rule_of s) (vessels_of s)) t
unfolding running run_number run_from groups
no_movement_run s t none reads long = rw (reads, le-ltb (length t) 4 long, none, fresh_opened (rule_of s) (vessels_of s) (opens_well s reads))
