-- `make_all` meets its contract: the book adds up, or every call is refused by 1 or 4.
use Rattle.std.proofs.Common.{refl, length, length-take-le}
use Rattle.book.proofs.Audited.{audited}
use Rattle.journal.proofs.Carrying.{all_off}
use Rattle.journal.proofs.make_all.Goals as goal

pub make_known-requires : goal.make_known-requires
make_known-requires c = (audited _ _ _ c.in-Ok.ensures refl, c.requires)

pub returns-in-Err : goal.returns-in-Err
returns-in-Err c =
    let filled = c.fill.ensures.after (λ y e. e) in
    let long = length-take-le (length c.args.calls.now) c.args.answers.now c.requires in
    all_off _ _ _ c.in-Err.ensures.0 _ _ _ _ (rw (filled, long, c.from.ensures) refl)
