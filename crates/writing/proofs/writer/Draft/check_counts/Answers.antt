-- Where the opening and the layout pass, the count of movements is looked at.
use Rattle.std.proofs.Common.{rules, ◌≡◌, ℕ, Bool, true, false, refl, [], ◌∷◌, ◌++◌}
use Rattle.refusal.specs.Numbers.{◌if◌, first}
use Rattle.refusal.proofs.Numbers.{passes}
use Rattle.book.specs.Head.{open_checks}
use Rattle.writing.specs.Writing.{given_off}
use Rattle.writing.proofs.writer.Draft.check_counts.Goals as goal

fifteen_first : (rule vessels : ℕ) (a b : Bool) → 0 ≡ first (open_checks rule vessels) → false ≡ a → true ≡ b
    → 15 ≡ first (open_checks rule vessels ++ (16 if a) ∷ (15 if b) ∷ [])
fifteen_first rule vessels a b opens ea eb =
    passes (open_checks rule vessels) ((16 if a) ∷ (15 if b) ∷ []) tt 0 15 opens refl (rw (← ea, ← eb) refl)

pub returns-then-movements_off : goal.returns-then-movements_off
returns-then-movements_off c =
    let d = c.args.self.now in
    let on : false ≡ given_off d.vessels d.names.now d.numbers.now = search rules in
    let over = rw c.movements.ensures.count at c.if-movements_off.ensures in
    fifteen_first d.rule d.vessels _ _ c.in_ok-check_opening.ensures on over
