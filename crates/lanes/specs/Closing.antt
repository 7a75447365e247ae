-- Closing the log: its last notes are listed in memory lent for it.
-- Definitions only. Assumes nothing.
use Rattle.std.specs.Prelude.{◌≡◌, true, List, ℕ, ◌≤◌, ◌<◌, length, take}
use Rattle.table.specs.Table.{most_places}
use Rattle.lanes.specs.Notes.{has, latest}

-- The first so many notes of a log are of slots, with so many last ones, and there is room for as many.
pub record Listable (log : List ℕ) (noted count : ℕ) (last : List ℕ) : Type 0 where
  pub inside : noted ≤ length log
  pub slots : (i : ℕ) → has i (take noted log) ≡ true → i < most_places
  pub all : length (latest (take noted log)) ≡ count
  pub room : count ≤ length last

-- The last of these notes are listed, so many.
abbrev pub Lists : List ℕ → ℕ → List ℕ → Type 0
Lists notes count last = take count last ≡ latest notes
