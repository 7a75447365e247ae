-- `list` meets its contract: what is read of the input has its listing, and that is written.
use Rattle.std.proofs.Common.{◌<◌, subst, sym, lit<}
use Rattle.sheet.proofs.Overlong.{longest}
use Rattle.listing.proofs.ListLaws.{listed}
use Rattle.listing.proofs.list.Goals as goal

pub returns : goal.returns
returns g c =
    listed _ _ _ _ _ _ _ _ _ _ _ (subst (λ n. longest < n) (sym c.read_full.auto.room) (lit< tt)) c.in_ok-got.ensures.ok c.list_sheet-put.ensures.listing c.write_all.ensures.bytes
