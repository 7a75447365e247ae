-- "A new call sets [a vessel's rule] at any moment for later picks": its checks, and the book afterwards.
-- Definitions only. Assumes nothing.
use Rattle.std.specs.Prelude.{not, List, [], ◌∷◌, ℕ, leb, set}
use Rattle.refusal.specs.Numbers.{Check, ◌if◌}
use Rattle.book.specs.declared.Head.{Head}
use Rattle.book.specs.declared.Setting.{Setting}
use Rattle.book.specs.Head.{Book, known_rule}

abbrev pub setting_of : ℕ → ℕ → Setting
setting_of v rule = record { vessel = v; rule = rule }

-- "The call checks 1, 4, 5, 2", where "2 now means above 4".
unfoldable pub setting_checks : ℕ → Setting → List Check
setting_checks size s = 5 if leb size s.vessel ∷ 2 if not (known_rule s.rule) ∷ []

-- The vessel has that rule, and nothing else changes: neither the book's rule nor its last minute, its count or its
-- pieces.
abbrev pub with_rule : Book → Setting → Book
with_rule b s = record b { rules = set b.rules s.vessel s.rule }

-- and so with the head in memory
unfoldable pub ruled : Head → Setting → Head
ruled h s = record h { rules = set h.rules s.vessel s.rule }
