-- Laws of the header: what each check tells once it is passed, and the number at each way out. Assumes nothing.
use Rattle.std.proofs.Common.{ℕ, ◌≤◌, arith, ◌≡◌, refl, sym, ap, ◌∙◌, Bool, false, not, List, [], ◌∷◌, ◌++◌, ltb-false, eq-eqb, le-ltb, eqb, ltb, length, take, drop}
use Rattle.std.specs.Cmp.Lexicographic.{pointwise}
use Rattle.std.proofs.lemmas.Bool.{or_parts}
use Rattle.refusal.specs.Numbers.{◌if◌, first}
use Rattle.refusal.proofs.Numbers.{passes}
use Rattle.book.proofs.HeadLaws.{openable}
use Rattle.book.specs.Head.{same, most_vessels, open_checks}
use Rattle.fields.specs.Bytes.{value_in}
use Rattle.fields.specs.Layout.{mark, mark_size, header_size, names_at, entries_at, length_at, sheet_size, entries_start}
use Rattle.sheet.specs.Sheet.{rule_of, vessels_of, movements_of, no_sheet, layout_off, field_checks, header_checks}
use Rattle.fields.proofs.ByteLaws.{slices_compared, same_either}

pub unmarked : (s letters : List ℕ) (r : Bool) → header_size ≤ length s → letters ≡ mark → r ≡ pointwise eqb letters (take (length letters) s) → not r ≡ no_sheet s
unfolding no_sheet
unmarked s letters r h e q =
    let m : r ≡ same (take mark_size s) mark = q ∙ rw e (slices_compared mark (take mark_size s) ∙ same_either mark (take mark_size s)) in
    rw (le-ltb _ _ h) (ap not m)

pub sheet_holds : (s : List ℕ) (k : ℕ) (r : Bool) → r ≡ no_sheet s → r ≡ false → k ≤ header_size → k ≤ length s
unfolding no_sheet
sheet_holds s k r e q h =
    omega (arith, ltb-false (length s) header_size (or_parts (ltb (length s) header_size) (not (same (take mark_size s) mark)) (sym e ∙ q)).0)

pub few_vessels : (rule vessels n : ℕ) → n ≡ first (open_checks rule vessels) → n ≡ 0 → vessels ≤ most_vessels
few_vessels rule vessels n e z = (openable rule vessels (sym e ∙ z)).few_vessels

-- where every field of the layout is as it must be, it is not off
pub laid_out : (s : List ℕ) (vessels movements : ℕ) → value_in 4 (drop names_at s) ≡ header_size → value_in 4 (drop entries_at s) ≡ entries_start vessels
    → value_in 4 (drop length_at s) ≡ sheet_size vessels movements → length s ≡ sheet_size vessels movements → layout_off vessels movements s ≡ false
unfolding layout_off
laid_out s vessels movements en es el size = rw (eq-eqb _ _ en, eq-eqb _ _ es, eq-eqb _ _ el, eq-eqb _ _ size)

-- two checks behind those of the rule and the vessels, of the reader's and of the writer's counts, where none applies
pub counts_pass : (rule vessels p q : ℕ) (b d : Bool) → first (open_checks rule vessels) ≡ 0 → b ≡ false → d ≡ false
    → 0 ≡ first (open_checks rule vessels ++ (p if b) ∷ (q if d) ∷ [])
counts_pass rule vessels p q b d opens eb ed = passes (open_checks rule vessels) ((p if b) ∷ (q if d) ∷ []) tt 0 0 (sym opens) refl (rw (eb, ed))

-- the number of a header that begins with the mark
pub out_fields : (s : List ℕ) (a : Bool) (rule vessels movements n : ℕ) → a ≡ no_sheet s → a ≡ false
    → rule ≡ rule_of s → vessels ≡ vessels_of s → movements ≡ movements_of s
    → n ≡ first (field_checks rule vessels movements s) → n ≡ first (header_checks s)
out_fields s a rule vessels movements n e q er ev em en = rw (← e, q, ← er, ← ev, ← em) en
