-- Carrying a motion: what it asks, and how the code makes the next head, where two balances change. proofs/Next.antt
-- shows that this is the head of the book that the motion leaves.
-- Definitions only. Assumes nothing.
use Rattle.std.specs.Prelude.{◌≢◌, ◌+◌, ◌-◌, ◌≤◌, ◌<◌, Option, None, Some, List, ℕ}
use Rattle.refusal.specs.Numbers.{TOP}
use Rattle.table.specs.Table.{most_places, places_of}
use Rattle.taking.specs.declared.Applied.{Applied}
use Rattle.taking.specs.Applied.{Moves}
use Rattle.book.specs.declared.Head.{Head}
use Rattle.book.specs.declared.Motion.{Motion}
use Rattle.book.specs.Head.{most_holders, Shiftable, balance_at, shifted, book_of}
use Rattle.book.specs.Motion.{takes}

-- What carrying a motion asks, as the checks of a call see to it: two holders, room at the destination, and a count
-- that is not full.
pub record Carriable (h : Head) (m : Motion) : Type 0 where
  pub source_in : m.moves.source < most_holders
  pub destination_in : m.moves.destination < most_holders
  pub apart : m.moves.source ≢ m.moves.destination
  pub room : balance_at h m.moves.destination + m.moves.weight ≤ TOP
  pub tally : h.accepted + m.counts ≤ TOP

-- the head after the motion m, whose pieces were moved so; and as it was, where there was no place for them
abbrev pub next_head : Head → Motion → Applied → Head
next_head h m a =
    let s = shifted h m.moves.source (m.moves.weight - a.born) m.moves.destination m.moves.weight in
    record {
      rule = s.rule;
      vessels = s.vessels;
      pieces = a.count;
      last = m.minute;
      accepted = h.accepted + m.counts;
      balances = s.balances;
      scale = s.scale;
      rules = s.rules;
    }

abbrev pub head_after : Head → Motion → Option Applied → Head
head_after h m None = h
head_after h m (Some a) = next_head h m a

-- The numbers of that head are ones of 32 bits.
pub record Countable (h : Head) (m : Motion) (a : Applied) : Type 0 where
  pub few : a.count ≤ most_places
  pub part : a.born ≤ m.moves.weight
  pub shifts : Shiftable h m.moves.source (m.moves.weight - a.born) m.moves.destination m.moves.weight
  pub tally : h.accepted + m.counts ≤ TOP

-- What moving the pieces of a motion promises, of its answer and of the table: those are moved that it takes from the book.
abbrev pub MovesBy : Head → Motion → List ℕ → List ℕ → Option Applied → Type 0
MovesBy h m t t' o = Moves (places_of t) m.moves (takes (book_of h t) m) t t' o
