-- A SHEET WRITTEN FROM NO NUMBERS. `no_movement_number`: the writer checks 2, 3, 16 of the names, 17 and the room.
-- `no_movement_written`: the sheet is the header and the names, 24 + 8V bytes, and bytes behind them remain.
-- Assumes nothing.
use mathlib.Core.List.{flat_map}
use Rattle.std.proofs.Common.{ℕ, ◌*◌, arith, ◌≡◌, not, List, [], ◌∷◌, ◌++◌, append-nil, eqb, ltb, length, drop}
use mathlib.Core.Bool.{or-false}
use Rattle.refusal.specs.Numbers.{◌if◌, first, if_zero}
use Rattle.book.specs.Head.{open_checks}
use Rattle.fields.specs.Bytes.{groups}
use Rattle.fields.specs.Layout.{name_size, entries_start, sheet_size}
use Rattle.fields.proofs.LayoutLaws.{movements_fit}
use Rattle.fields.specs.Movements.{entries_checks}
use Rattle.fields.specs.Names.{names_in, names_off}
use Rattle.writing.specs.Writing.{header_bytes, sheet_of, given_off, write_number, written}

no_entries : (vessels : ℕ) → sheet_size vessels 0 ≡ entries_start vessels
no_entries vessels = omega arith

module _ (rule vessels : ℕ) (names : List ℕ) where
  pub no_movement_number : (room : ℕ)
      → write_number rule vessels names [] room
      ≡ first (open_checks rule vessels
      ++ (16 if not (eqb (length names) (name_size * vessels)))
      ∷ (17 if names_off (names_in vessels names))
      ∷ (19 if ltb room (entries_start vessels))
      ∷ [])
  unfolding write_number given_off groups entries_checks
  no_movement_number room = rw (or-false, movements_fit 0 (omega arith), no_entries)

  sheet : sheet_of rule vessels names [] ≡ header_bytes rule vessels 0 ++ names
  unfolding sheet_of groups flat_map
  sheet = append-nil (header_bytes rule vessels 0 ++ names)

  pub no_movement_written : (out : List ℕ)
      → written rule vessels names [] out
      ≡ if_zero (write_number rule vessels names [] (length out)) (header_bytes rule vessels 0 ++ names ++ drop (entries_start vessels) out) out
  no_movement_written out = rw (sheet, no_entries)
