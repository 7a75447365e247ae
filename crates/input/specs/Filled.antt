-- What reading into room of a fixed length gives and leaves.
-- Definitions only. Assumes nothing.
use Rattle.std.specs.Prelude.{ℕ, ◌<◌, ◌≤◌, List, length, take}
use Rattle.std.specs.Io.KnownBytes.{Consumes, IsAtEnd}
use Rattle.std.specs.declared.option.Option.{Option}

-- The first n numbers of the room were read, and all of the input if they are fewer than the room holds.
pub record FilledBy (old new : Option (List ℕ)) (room : List ℕ) (n : ℕ) : Type 0 where
  pub inside : n ≤ length room
  pub read : Consumes old new (take n room)
  pub all : n < length room → IsAtEnd new

-- No byte is lost: what the input gave before it failed stands at the front of the room.
abbrev pub Kept : Option (List ℕ) → Option (List ℕ) → List ℕ → Type 0
Kept old new room = (n : ℕ) × (n ≤ length room) × Consumes old new (take n room)
