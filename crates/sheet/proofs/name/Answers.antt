-- Nothing on a refusal; else a sheet without refusal holds the eight bytes, and the letters among them are the part.
use Rattle.sheet.proofs.AnswerLaws.{name_fits}
use Rattle.std.proofs.Common.{refl, rules}
use Rattle.sheet.proofs.name.Goals as goal

pub slice_bounds-letter_count-end : goal.slice_bounds-letter_count-end
slice_bounds-letter_count-end c = let fits = name_fits c.args.sheet.now c.args.vessel _ c.in-Ok.ensures refl in search rules
