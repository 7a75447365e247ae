-- The first check that the movements left fail is that of all.
use Rattle.std.proofs.Common.{◌≡◌, map, drop}
use Rattle.refusal.specs.Numbers.{first}
use Rattle.fields.specs.Movements.{given_in, given_checks, entries_checks}
use Rattle.fields.proofs.entries.check_all_given.Given as goal

abbrev pub invariant-loop-five : goal.invariant-loop-five
invariant-loop-five l =
    first (entries_checks (given_checks l.vessels) (map given_in (drop l.five-index l.all))) ≡ first (entries_checks (given_checks l.vessels) (map given_in l.all))
