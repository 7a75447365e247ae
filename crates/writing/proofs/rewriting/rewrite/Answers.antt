-- Refused by the sheet's own number. Else the memory holds the numbers of any sheet, and what was read is written.
-- That each byte of the sheet is below 256 is known of any slice of bytes.
use Rattle.std.proofs.Common.{arith, rules}
use Rattle.writing.proofs.RewriteLaws.{again_refused, few, again_good}
use Rattle.writing.proofs.rewriting.rewrite.Goals as goal

pub returns-in_err-known : goal.returns-in_err-known
returns-in_err-known c =
    let k = again_refused c.args.sheet.now c.args.out.now _ _ c.from_residual.ensures.1 c.in_err-known.ensures in
    record { number = k.0; bytes = k.1 }

pub slice_bounds-taken-end : goal.slice_bounds-taken-end
slice_bounds-taken-end c = few _ _ c.in_ok-known.ensures _ c.header-header.ensures _ c.take_numbers.array_long

pub slice_bounds-as_flattened-end : goal.slice_bounds-as_flattened-end
slice_bounds-as_flattened-end c =
    let fits = few _ _ c.in_ok-known.ensures _ c.header-header.ensures _ c.take_numbers.array_long in
    search rules

pub returns : goal.returns
returns c =
    let w = c.try_write.ensures in
    let k =
    again_good _ _ c.in_ok-known.ensures _ c.header-header.ensures _ _ c.take_numbers.ensures _ c.as_flattened-given.ensures.value
    (λ i. omega (arith, c.type_inv.sheet i)) c.args.out.now _ c.names.ensures _ _ (w.number, w.bytes)
    in
    record { number = k.0; bytes = k.1 }
