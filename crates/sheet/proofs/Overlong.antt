-- LONGER THAN ANY SHEET. Of an input that is longer than the longest sheet only the header tells its number: with another end it gets the same,
-- and never 0. So a program need not read more than one byte beyond the longest sheet (`cut_refusal`).
-- Assumes nothing.
use Rattle.std.proofs.Common.{◌≡◌, ℕ, zero, suc, ◌+◌, ◌*◌, ◌<◌, ◌≤◌, Bool, true, false, not, ◌||◌, List, ◌∷◌, eqb, ltb, length, get_or, take, drop, refl, sym, ◌∙◌, ap, ap₂, arith, ltb-false, le-ltb, ne_eqb}
use Rattle.std.proofs.lemmas.List.{get_or-drop, get_or-take, take-take, drop-drop, length-take-le}
use Rattle.refusal.specs.Numbers.{Check, ◌if◌, first}
use Rattle.book.specs.Head.{last_rule, most_vessels}
use Rattle.fields.specs.Bytes.{value_in}
use Rattle.fields.specs.Layout.{mark_size, header_size, rule_at, vessels_at, movements_at, names_at, sheet_size, most_movements, movements_off}
use Rattle.sheet.specs.Sheet.{rule_of, vessels_of, movements_of, layout_off, no_sheet, body_checks, read_number}

-- the length of the longest sheet
abbrev pub longest : ℕ
longest = sheet_size most_vessels most_movements

-- so long that no sheet has this length
length_off : (v m : ℕ) (s : List ℕ) → v ≤ most_vessels → m ≤ most_movements → longest < length s → layout_off v m s ≡ true
unfolding layout_off
length_off v m s hv hm h = rw (ne_eqb (length s) (sheet_size v m) (λ e. omega (arith, e))) (all (not (eqb (value_in 4 (drop names_at s)) header_size)) _ _)
  where
    all : (a b c : Bool) → (a || (b || (c || true))) ≡ true
    all true b c = refl
    all false true c = refl
    all false false true = refl
    all false false false = refl

-- the first check that applies, by what each finds of the header, and the checks behind it
abbrev outcome : Bool → Bool → Bool → Bool → Bool → Bool → List Check → ℕ
outcome off rule none many over layout behind =
    first ((14 if off) ∷ (2 if rule) ∷ (3 if none) ∷ (3 if many) ∷ (15 if over) ∷ (16 if layout) ∷ behind)

-- where the layout is off of every header that gets so far, one of these applies, and what lies behind the header is not looked at
one_number : (off rule none many over layout layout' : Bool) (behind behind' : List Check)
    → (many ≡ false → over ≡ false → (layout ≡ true) × (layout' ≡ true))
    → (n : ℕ) × (outcome off rule none many over layout behind ≡ suc n) × (outcome off rule none many over layout' behind' ≡ suc n)
one_number true rule none many over l l' cs cs' h = (13, refl, refl)
one_number false true none many over l l' cs cs' h = (1, refl, refl)
one_number false false true many over l l' cs cs' h = (2, refl, refl)
one_number false false false true over l l' cs cs' h = (2, refl, refl)
one_number false false false false true l l' cs cs' h = (14, refl, refl)
one_number false false false false false l l' cs cs' h = let k = h refl refl in (15, rw k.0, rw k.1)

module _ (a b : List ℕ) (alike : take header_size a ≡ take header_size b) (la : longest < length a) (lb : longest < length b) where
  byte : (i : ℕ) → i < header_size → get_or a i 0 ≡ get_or b i 0
  byte i h = sym (get_or-take header_size a i 0 h) ∙ ap (λ (l : List ℕ). get_or l i 0) alike ∙ get_or-take header_size b i 0 h

  value : (w at : ℕ) → at + w ≤ header_size → value_in w (drop at a) ≡ value_in w (drop at b)
  unfolding value_in
  value zero at h = refl
  value (suc w) at h =
      let x : get_or (drop at a) 0 0 ≡ get_or (drop at b) 0 0 = get_or-drop at a 0 0 ∙ byte (at + 0) (omega arith) ∙ sym (get_or-drop at b 0 0) in
      let y : value_in w (drop 1 (drop at a)) ≡ value_in w (drop 1 (drop at b)) =
      ap (value_in w) (drop-drop 1 at a) ∙ value w (at + 1) (omega arith) ∙ sym (ap (value_in w) (drop-drop 1 at b))
      in
      ap₂ (λ (p q : ℕ). p + 256 * q) x y

  marked : no_sheet a ≡ no_sheet b
  unfolding no_sheet
  marked =
      let long : (s : List ℕ) → longest < length s → ltb (length s) header_size ≡ false = λ s h. let k : header_size ≤ length s = omega arith in le-ltb _ _ k in
      let m : take mark_size a ≡ take mark_size b =
      sym (take-take mark_size header_size a (omega arith)) ∙ ap (take mark_size) alike ∙ take-take mark_size header_size b (omega arith)
      in
      rw (long a la, long b lb, m)

  off : (s : List ℕ) → longest < length s → ltb most_vessels (vessels_of a) ≡ false → movements_off (movements_of a) ≡ false
      → layout_off (vessels_of a) (movements_of a) s ≡ true
  unfolding movements_off
  off s h many over = length_off _ _ s (ltb-false _ _ many) (ltb-false _ _ over) h

  -- both inputs get one number, and it is a refusal
  pub same_refusal : (n : ℕ) × (read_number a ≡ suc n) × (read_number b ≡ suc n)
  unfolding read_number
  same_refusal =
      let of : Bool → ℕ → ℕ → ℕ → ℕ =
      λ off rule v m. outcome off (ltb last_rule rule) (ltb v 1) (ltb most_vessels v) (movements_off m) (layout_off v m b) (body_checks v m b)
      in
      let e : read_number b ≡ of (no_sheet a) (rule_of a) (vessels_of a) (movements_of a) =
      sym (
      ap (λ (off : Bool). of off (rule_of a) (vessels_of a) (movements_of a)) marked
      ∙ ap (λ (r : ℕ). of (no_sheet b) r (vessels_of a) (movements_of a)) (value 2 rule_at (omega arith))
      ∙ ap (λ (v : ℕ). of (no_sheet b) (rule_of b) v (movements_of a)) (value 2 vessels_at (omega arith))
      ∙ ap (λ (m : ℕ). of (no_sheet b) (rule_of b) (vessels_of b) m) (value 4 movements_at (omega arith))
      )
      in
      let k =
      one_number (no_sheet a) (ltb last_rule (rule_of a)) (ltb (vessels_of a) 1) (ltb most_vessels (vessels_of a)) (movements_off (movements_of a))
      (layout_off (vessels_of a) (movements_of a) a) (layout_off (vessels_of a) (movements_of a) b) (body_checks (vessels_of a) (movements_of a) a)
      (body_checks (vessels_of a) (movements_of a) b) (λ many over. (off a la many over, off b lb many over))
      in
      (k.0, k.1, e ∙ k.2)

-- an input that is cut behind the longest sheet and one byte more
pub cut_refusal : (k : ℕ) (s : List ℕ) → longest < k → k < length s → (n : ℕ) × (read_number (take k s) ≡ suc n) × (read_number s ≡ suc n)
cut_refusal k s h l =
    let long : length (take k s) ≡ k = length-take-le k s (omega arith) in
    same_refusal (take k s) s (take-take header_size k s (omega arith)) (rw long h) (omega arith)
