-- WHAT BECAME OF DOCUMENT 01'S SHEETS. `former_numbers`: every sheet gets the number that it got, unless that was 18,
-- or 15 for want of a movement. `former_sheets`: one that was read is read still, and each of its movements has age 0,
-- the former meaning. `every_age`: reading never gives 18. The two lists of checks are the same but for 15, which
-- refuses less now, and for the 18 of each movement, which is gone.
-- Assumes nothing.
use Rattle.std.proofs.Common.{ℕ, zero, suc, ◌≤◌, ◌<◌, arith, ◌≡◌, refl, sym, ap, ◌∙◌, Bool, not, false, List, [], ◌∷◌, ◌++◌, T, eqb, ltb, length, get_or, drop, ltb-false, le-ltb}
use Rattle.std.proofs.lemmas.Bool.{or_parts}
use Rattle.refusal.specs.Numbers.{Check, ◌if◌, first}
use Rattle.refusal.proofs.Numbers.{without, never, past, same_if, passed_second, refuses_less, alike_behind}
use Rattle.book.specs.Head.{open_checks}
use Rattle.fields.specs.declared.entries.Entry.{Entry}
use Rattle.fields.specs.Layout.{most_movements, entries_start, movements_off}
use Rattle.fields.specs.Movements.{entry_size, no_entry, entry_in, entry_checks, entries_checks}
use Rattle.fields.proofs.LayoutLaws.{movements_fit}
use Rattle.fields.proofs.GroupLaws.{length_groups}
use Rattle.fields.proofs.EntryLaws.{each_passed, not_given}
use Rattle.fields.specs.Names.{names_off}
use Rattle.sheet.specs.Sheet.{names_read, entries_read, rule_of, vessels_of, movements_of, no_sheet, layout_off, read_checks, read_number}
use Rattle.sheet.specs.Answers.{movement_at}
use Rattle.sheet.specs.Former.{former_movements_off, former_entry_checks, former_read_number}
use Rattle.sheet.proofs.AnswerLaws.{entry_of}

entries_without_18 : (vessels : ℕ) (es : List Entry) → T (without 18 (entries_checks (entry_checks vessels) es))
unfolding entries_checks
entries_without_18 vessels [] = tt
entries_without_18 vessels (e ∷ es) = entries_without_18 vessels es

no_check : (s : List ℕ) → T (without 18 (read_checks s))
no_check s = entries_without_18 (vessels_of s) (entries_read s)

pub every_age : (s : List ℕ) → read_number s ≡ 18 → ⊥
unfolding read_number
every_age s = never 17 (read_checks s) (no_check s)

-- the checks of a sheet, part by part
module _ (s : List ℕ) where
  abbrev opening : List Check
  opening = (14 if no_sheet s) ∷ open_checks (rule_of s) (vessels_of s)

  abbrev parts : List Check
  parts = (16 if layout_off (vessels_of s) (movements_of s) s) ∷ (17 if names_off (names_read s)) ∷ []

  abbrev former : List Check
  former = entries_checks (former_entry_checks (vessels_of s)) (entries_read s)

  abbrev entries : List Check
  entries = entries_checks (entry_checks (vessels_of s)) (entries_read s)

  abbrev was : Bool
  was = former_movements_off (movements_of s)

  abbrev is : Bool
  is = movements_off (movements_of s)

  -- what is off now was off, and with a movement at least the two are the same
  less_off : was ≡ false → is ≡ false
  less_off e =
      let m = movements_of s in
      movements_fit m (ltb-false most_movements m (or_parts (ltb m 1) (ltb most_movements m) e).1)

  same_off : 1 ≤ movements_of s → was ≡ is
  unfolding movements_off
  same_off h = rw (le-ltb (movements_of s) 1 h)

  counts : (m : ℕ) → movements_of s ≡ m → (first (opening ++ (15 if was) ∷ parts ++ former) ≡ 15 → movements_of s ≡ 0 → ⊥)
      → first (opening ++ (15 if is) ∷ parts ++ former) ≡ first (opening ++ (15 if was) ∷ parts ++ former)
  counts zero e h =
      alike_behind 15 opening ((15 if was) ∷ parts ++ former) ((15 if is) ∷ parts ++ former) (refuses_less 15 was is (parts ++ former) less_off) (λ q. h q e)
  counts (suc m) e h = ap (λ (b : Bool). first (opening ++ (15 if b) ∷ parts ++ former)) (sym (same_off (omega arith)))

  pub former_numbers : (former_read_number s ≡ 15 → movements_of s ≡ 0 → ⊥) → (former_read_number s ≡ 18 → ⊥) → read_number s ≡ former_read_number s
  unfolding read_number former_read_number
  former_numbers not_15 not_18 =
      let same = counts (movements_of s) refl not_15 in
      alike_behind 18 (opening ++ (15 if is) ∷ parts) former entries
      (not_given 18 (λ e. not (eqb e.age 0)) (entry_checks (vessels_of s)) (entries_read s)) (λ q. not_18 (sym same ∙ q))
      ∙ same

  -- a sheet that was read
  module _ (z : former_read_number s ≡ 0) where
    passed : first former ≡ 0
    unfolding former_read_number
    passed = passed_second (opening ++ (15 if was) ∷ parts) former tt z

    age_is : (i : ℕ) → i < length (entries_read s) → (get_or (entries_read s) i no_entry).age ≡ 0
    age_is i h =
        let e = get_or (entries_read s) i no_entry in
        let p = each_passed (former_entry_checks (vessels_of s)) (λ e. tt) (entries_read s) passed i h in
        same_if e.age 0 (past 17 (not (eqb e.age 0)) (entry_checks (vessels_of s) e) p).0

    pub former_sheets : (read_number s ≡ 0) × ((i : ℕ) → i < movements_of s → (movement_at s i).age ≡ 0)
    former_sheets =
        let count : length (entries_read s) ≡ movements_of s = length_groups entry_size entry_in (movements_of s) (drop (entries_start (vessels_of s)) s) in (
          former_numbers (λ q n. omega arith) (λ q. omega arith) ∙ z,
          λ i h. ap (λ (e : Entry). e.age) (entry_of s i h) ∙ age_is i (rw count h),
        )
