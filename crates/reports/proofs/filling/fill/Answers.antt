-- `fill` meets its contract for a held report: its row is written, and what lies behind it stays.
use Rattle.std.proofs.Common.{refl, length}
use Rattle.std.proofs.lemmas.List.{length-take-le}
use Rattle.book.proofs.ReportLaws.{held_room, length_row}
use Rattle.reports.proofs.filling.fill.Goals as goal

pub returns-in-Held : goal.returns-in-Held
returns-in-Held c =
    let room = length c.args.room.now in
    let fits = held_room c.args.vessels room c.args.asked c.in-Held.vessel c.in-Held.is c.requires.0 in
    rw (c.in-Held.is, c.fill_held.ensures, length-take-le, length_row) refl
