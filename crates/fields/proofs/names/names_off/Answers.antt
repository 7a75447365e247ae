-- From name i on one is off where name i is, or one of those after it.
use Rattle.std.proofs.Common.{sym, ◌∙◌}
use Rattle.std.proofs.lemmas.List.{take_rest}
use Rattle.fields.proofs.NameLaws.{names_next}
use Rattle.fields.proofs.names.names_off.Goals as goal

pub returns-then-name_off : goal.returns-then-name_off
returns-then-name_off c =
    sym (names_next c.args.names.now c.loop-i.i c.loop-i-test.true _ (rw take_rest at c.if-name_off.ensures)) ∙ c.loop-i.invariant

pub loop-i-preserved : goal.loop-i-preserved
loop-i-preserved c =
    sym (names_next c.args.names.now c.loop-i.i c.loop-i-test.true _ (rw take_rest at c.if-name_off.ensures)) ∙ c.loop-i.invariant
