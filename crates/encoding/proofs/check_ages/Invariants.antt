-- `check_ages` meets its contract. The invariant: no call so far has an age that is off.
use Rattle.std.proofs.Common.{◌≡◌, false, take}
use Rattle.std.specs.List.{list_any}
use Rattle.encoding.specs.Encoding.{age_off}
use Rattle.encoding.proofs.check_ages.Given as goal

abbrev pub invariant-loop-six : goal.invariant-loop-six
invariant-loop-six l = list_any age_off (take l.six-index l.groups) ≡ false
