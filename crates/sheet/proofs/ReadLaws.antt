-- Laws of a sheet read whole: what a good header lays down, the number at each way out, and what an answer of number 0
-- is.
-- Assumes nothing.
use Rattle.std.specs.Prelude.{Result, Ok, Err, MatchResult}
use Rattle.std.specs.Result.{IsErrAnd}
use Rattle.refusal.specs.declared.Refusal.{Refusal}
use Rattle.refusal.specs.Refusals.{number_of}
use Rattle.std.proofs.Common.{ℕ, ◌-◌, ◌*◌, ◌/◌, ◌≤◌, arith, ◌≡◌, refl, sym, ap, ◌∙◌, Bool, true, false, not, List, [], ◌∷◌, ◌++◌, eqb, map, length, take, drop, length-take, length-drop}
use Rattle.refusal.specs.Numbers.{Check, ◌if◌, first}
use Rattle.refusal.proofs.Numbers.{passed, same_if, past, refuses, passes, passed_first, passed_second}
use Rattle.fields.specs.Bytes.{value_in}
use Rattle.fields.specs.Names.{names_in, names_off}
use Rattle.fields.specs.declared.entries.Entry.{Entry}
use Rattle.fields.specs.Movements.{entry_size, entry_in, entry_checks, entries_checks}
use Rattle.book.specs.Head.{open_checks}
use Rattle.fields.specs.Layout.{most_movements, name_size, name_start, header_size, names_at, entries_at, length_at, entries_start, sheet_size, movements_off, Within}
use Rattle.sheet.specs.Sheet.{entries_read, names_read, rule_of, vessels_of, movements_of, layout_off, no_sheet, header_checks, body_checks, read_number}
use Rattle.std.specs.Simd.{first_chunks}
use Rattle.fields.proofs.NameLaws.{names_cut, names_taken}
use Rattle.fields.proofs.ChunkLaws.{entries_cut}
use Rattle.fields.proofs.LayoutLaws.{few_movements}
use Rattle.std.proofs.lemmas.List.{take_rest}
use Rattle.std.proofs.lemmas.Bool.{or_parts}
use Rattle.book.proofs.HeadLaws.{Openable, openable}

-- What a header lays down that passes its checks.
pub record Laid (s : List ℕ) : Type 0 where
  pub marked : no_sheet s ≡ false
  pub opens : first (open_checks (rule_of s) (vessels_of s)) ≡ 0
  pub inside : movements_off (movements_of s) ≡ false
  pub opened : Openable (rule_of s) (vessels_of s)
  pub movements : movements_of s ≤ most_movements
  pub names : value_in 4 (drop names_at s) ≡ header_size
  pub start : value_in 4 (drop entries_at s) ≡ entries_start (vessels_of s)
  pub field : value_in 4 (drop length_at s) ≡ sheet_size (vessels_of s) (movements_of s)
  pub size : length s ≡ sheet_size (vessels_of s) (movements_of s)

abbrev last_checks : List ℕ → List Check
last_checks s = (15 if movements_off (movements_of s)) ∷ (16 if layout_off (vessels_of s) (movements_of s) s) ∷ []

pub laid : (s : List ℕ) (n : ℕ) → n ≡ first (header_checks s) → n ≡ 0 → Laid s
unfolding layout_off
laid s n e z =
    let p = past 13 (no_sheet s) (open_checks (rule_of s) (vessels_of s) ++ last_checks s) (sym e ∙ z) in
    let opens = passed_first (open_checks (rule_of s) (vessels_of s)) (last_checks s) tt p.1 in
    let q = passed (last_checks s) tt (passed_second (open_checks (rule_of s) (vessels_of s)) (last_checks s) tt p.1) in
    let a = or_parts (not (eqb (value_in 4 (drop names_at s)) header_size)) _ q.1.0 in
    let b = or_parts (not (eqb (value_in 4 (drop entries_at s)) (entries_start (vessels_of s)))) _ a.1 in
    let c = or_parts (not (eqb (value_in 4 (drop length_at s)) (sheet_size (vessels_of s) (movements_of s)))) _ b.1 in
    record {
      marked = p.0;
      opens = opens;
      inside = q.0;
      opened = openable (rule_of s) (vessels_of s) opens;
      movements = few_movements (movements_of s) _ refl q.0;
      names = same_if _ _ a.0;
      start = same_if _ _ b.0;
      field = same_if _ _ c.0;
      size = same_if _ _ c.1;
    }

pub body_fits : (s : List ℕ) (n vessels movements : ℕ) → n ≡ first (header_checks s) → n ≡ 0 → vessels ≡ vessels_of s → movements ≡ movements_of s
    → Within vessels movements × (length s ≡ sheet_size vessels movements)
body_fits s n vessels movements e z ev em =
    let l = laid s n e z in
    (record { few_vessels = omega arith; few_movements = omega arith }, omega arith)

-- the ways out of `check_body`: the names and the movements are cut out of the sheet
module _ (s : List ℕ) (vessels movements start : ℕ) (size : length s ≡ sheet_size vessels movements) (es : start ≡ name_start vessels) (names : List (List ℕ))
    (cut : let part = take (start - header_size) (drop header_size s) in names ≡ first_chunks name_size (length part / name_size) part) (off : Bool) (e : off ≡ names_off names) where
  names_say : off ≡ names_off (names_in vessels (drop header_size s))
  names_say =
      let behind = drop header_size s in
      let width : start - header_size ≡ name_size * vessels = omega arith in
      let long : name_size * vessels ≤ length behind = rw length-drop (omega arith) in
      let whole : length (take (name_size * vessels) behind) ≡ name_size * vessels = rw length-take (omega arith) in
      e ∙ ap names_off (rw width at cut ∙ names_cut vessels (take (name_size * vessels) behind) whole ∙ names_taken vessels behind long)

  pub out_names : off ≡ true → 17 ≡ first (body_checks vessels movements s)
  out_names q = rw (← names_say, q)

  pub out_entries : (n : ℕ) (entries : List (List ℕ)) → off ≡ false
      → (let rest = take (length s - start) (drop start s) in entries ≡ first_chunks entry_size (length rest / entry_size) rest)
      → n ≡ first (entries_checks (entry_checks vessels) (map entry_in entries)) → n ≡ first (body_checks vessels movements s)
  out_entries n entries q found en =
      let rest = drop (entries_start vessels) s in
      let long : length rest ≡ entry_size * movements = rw length-drop (omega arith) in
      rw (← names_say, q) (en ∙ ap (λ (es : List Entry). first (entries_checks (entry_checks vessels) es)) (rw (take_rest, es) at (ap (map entry_in) found) ∙ entries_cut movements rest long))

-- the ways out of `Sheet::read`: the refusal of the header or of what lies behind it is the sheet's own
pub not_read : {T : Type 0} (P : T → Type 0) (r : Result T Refusal) (why : Refusal) (n : ℕ) → IsErrAnd r (λ (other : Refusal). other ≡ why) → number_of why ≡ n
    → MatchResult r P (λ (other : Refusal). number_of other ≡ n)
not_read P (Ok x) why n is e = absurd is
not_read P (Err other) why n is e = ap number_of is ∙ e

module _ (s : List ℕ) (n : ℕ) (e : n ≡ first (header_checks s)) where
  pub out_header : (n ≡ 0 → ⊥) → n ≡ read_number s
  unfolding read_number
  out_header h = refuses (header_checks s) (body_checks (vessels_of s) (movements_of s) s) tt n e h

  pub out_body : (vessels movements r : ℕ) → n ≡ 0 → vessels ≡ vessels_of s → movements ≡ movements_of s → r ≡ first (body_checks vessels movements s) → r ≡ read_number s
  unfolding read_number
  out_body vessels movements r z ev em er =
      passes (header_checks s) (body_checks (vessels_of s) (movements_of s) s) tt n r e z (rw (← ev, ← em) er)

-- all that `Sheet::read` needs
pub ruleset ways_out = (not_read, out_header, out_body, body_fits)

pub good : (s : List ℕ) (n : ℕ) → n ≡ read_number s → n ≡ 0 → Laid s
unfolding read_number
good s n e z = laid s _ refl (passed_first (header_checks s) (body_checks (vessels_of s) (movements_of s) s) tt (sym e ∙ z))

-- what lies behind the header of a sheet that reads well
module _ (s : List ℕ) (z : read_number s ≡ 0) where
  abbrev names : Bool
  names = names_off (names_read s)

  abbrev entries : List Check
  entries = entries_checks (entry_checks (vessels_of s)) (entries_read s)

  body : (names ≡ false) × (first entries ≡ 0)
  unfolding read_number
  body = past 16 names entries (passed_second (header_checks s) (body_checks (vessels_of s) (movements_of s) s) tt z)

  pub good_names : names ≡ false
  good_names = body.0

  pub good_entries : first entries ≡ 0
  good_entries = body.1
