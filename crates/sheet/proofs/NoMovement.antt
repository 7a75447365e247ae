-- A SHEET WITHOUT MOVEMENTS (M = 0). `no_movement_read`: of its checks 14, 2, 3, 16 and 17 are left, as they are of
-- every sheet. `no_movement_asked`: asking for any movement of it gives 20.
-- Assumes nothing.
use Rattle.std.proofs.Common.{ℕ, arith, ◌≡◌, List, [], ◌∷◌, ◌++◌}
use Rattle.refusal.specs.Numbers.{◌if◌, first}
use Rattle.book.specs.Head.{open_checks}
use Rattle.fields.specs.Bytes.{groups}
use Rattle.fields.proofs.LayoutLaws.{movements_fit}
use Rattle.fields.specs.Movements.{no_entry, entries_checks}
use Rattle.fields.specs.Names.{names_off}
use Rattle.sheet.specs.Sheet.{names_read, rule_of, vessels_of, movements_of, no_sheet, layout_off, read_number}
use Rattle.sheet.specs.Answers.{movement_answer, movement_asked}
use Rattle.sheet.proofs.AnswerLaws.{asked_past}

module _ (s : List ℕ) (none : movements_of s ≡ 0) where
  pub no_movement_read : read_number s
      ≡ first ((14 if no_sheet s) ∷ open_checks (rule_of s) (vessels_of s) ++ (16 if layout_off (vessels_of s) 0 s) ∷ (17 if names_off (names_read s)) ∷ [])
  unfolding read_number groups entries_checks
  no_movement_read = rw (none, movements_fit 0 (omega arith))

  pub no_movement_asked : read_number s ≡ 0 → (index : ℕ) → movement_asked s index ≡ movement_answer 20 no_entry
  no_movement_asked z index = asked_past s z index (omega arith)
