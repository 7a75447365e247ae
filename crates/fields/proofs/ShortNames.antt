-- A NAME WITHOUT ITS ZEROS: of every well-formed name it is all of its letters, at least one and each a byte of 21 to
-- 7E hexadecimal, and what is left away is zeros and nothing else (`without_zeros`). A name is cut where its letters
-- end, and a well-formed one has only zeros from there on.
-- Assumes nothing.
use Rattle.std.proofs.Common.{ℕ, zero, suc, ◌-◌, ◌≤◌, ◌<◌, arith, ◌≡◌, refl, sym, ap, ◌∙◌, true, false, List, [], ◌∷◌, ◌++◌, length, get_or, drop, replicate, take-append-drop, length-take, length-drop}
use Rattle.std.proofs.lemmas.Bool.{or_parts}
use Rattle.std.proofs.lemmas.Bool.Decides.{nat_tests}
use Rattle.std.proofs.lemmas.List.{get_or-take}
use Rattle.book.specs.Head.{all_zero}
use Rattle.fields.specs.Bytes.{exists}
use Rattle.fields.specs.Names.{letters, well_formed, name_off, names_off, short_name}

-- What a name's letters are, where the name is these and zeros.
pub record Lettered (name letters : List ℕ) : Type 0 where
  pub then_zeros : name ≡ letters ++ replicate (length name - length letters) 0
  pub some : 1 ≤ length letters
  pub graphic : (i : ℕ) → i < length letters → (0x21 ≤ get_or letters i 0) × (get_or letters i 0 ≤ 0x7e)

-- numbers that are all zero
zeros_are : (l : List ℕ) → all_zero l ≡ true → l ≡ replicate (length l) 0
unfolding all_zero
zeros_are [] e = refl
zeros_are (x ∷ l) e = grind (arith, nat_tests, zeros_are l)

-- the letters that a name begins with
letters_fit : (name : List ℕ) → letters name ≤ length name
unfolding letters
letters_fit [] = omega arith
letters_fit (b ∷ name) = grind (arith, letters_fit name)

letter_at : (name : List ℕ) (i : ℕ) → i < letters name → (0x21 ≤ get_or name i 0) × (get_or name i 0 ≤ 0x7e)
unfolding letters
letter_at [] i h = absurd (omega arith)
letter_at (b ∷ name) zero h = grind (arith, nat_tests)
letter_at (b ∷ name) (suc i) h = grind (arith, letter_at name i)

module _ (name : List ℕ) (well : well_formed name ≡ true) where
  lettered : 1 ≤ letters name
  unfolding well_formed
  lettered = grind (arith, nat_tests)

  zeros_behind : all_zero (drop (letters name) name) ≡ true
  unfolding well_formed
  zeros_behind = grind (arith, nat_tests)

  count : length (short_name name) ≡ letters name
  count = rw length-take (omega (arith, letters_fit name))

  left : drop (letters name) name ≡ replicate (length name - letters name) 0
  left = zeros_are _ zeros_behind ∙ ap (λ (n : ℕ). replicate n 0) (length-drop (letters name) name)

  letter : (i : ℕ) → i < letters name → (0x21 ≤ get_or (short_name name) i 0) × (get_or (short_name name) i 0 ≤ 0x7e)
  letter i h = rw (get_or-take (letters name) name i 0 h) (letter_at name i h)

  pub without_zeros : Lettered name (short_name name)
  without_zeros = record {
    then_zeros = rw count (sym (take-append-drop (letters name) name) ∙ ap (λ (l : List ℕ). short_name name ++ l) left);
    some = rw count lettered;
    graphic = λ i h. letter i (rw count at h);
  }

-- of names of which none is off, each is well-formed
pub each_well_formed : (names : List (List ℕ)) → names_off names ≡ false → (i : ℕ) → i < length names
    → well_formed (get_or names i []) ≡ true
unfolding exists
each_well_formed [] e i h = absurd (omega arith)
each_well_formed (name ∷ names) e zero h = grind (arith, or_parts, e)
each_well_formed (name ∷ names) e (suc i) h =
    each_well_formed names (or_parts (name_off name names) (names_off names) e).1 i (omega arith)
