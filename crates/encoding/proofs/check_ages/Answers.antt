-- A turn reads a call: its age is one of 16 bits, or the answer is 18.
use Rattle.std.proofs.Common.{sym, ◌∙◌}
use Rattle.refusal.proofs.Refusals.{passed_on}
use Rattle.encoding.proofs.Reading.{scan_turn, scan_found}
use Rattle.encoding.proofs.check_ages.Goals as goal

pub returns-in_err-read_call : goal.returns-in_err-read_call
returns-in_err-read_call c =
    let read = sym c.read_call.ensures ∙ c.in_err-read_call.was in
    passed_on _ _ _ c.from_residual.ensures.1 (scan_found c.args.groups.now _ c.loop-six-test.true _ read)

pub loop-six-preserved : goal.loop-six-preserved
loop-six-preserved c =
    let read = sym c.read_call.ensures ∙ c.in_ok-read_call.was in
    scan_turn c.args.groups.now _ c.loop-six-test.true c.loop-six.invariant _ read
