-- A name is off among those left where one is among all.
use Rattle.std.proofs.Common.{◌≡◌, drop}
use Rattle.fields.specs.Names.{names_off}
use Rattle.fields.proofs.names.names_off.Given as goal

abbrev pub invariant-loop-i : goal.invariant-loop-i
invariant-loop-i l = names_off (drop l.i l.names) ≡ names_off l.names
