-- Laws of a list of checks: what it tells that none applies, two lists one after the other, a number that no check of a list has, a check that
-- refuses less; and of what a test or a number tells by itself.
-- Assumes nothing.
use Rattle.std.proofs.Common.{◌≡◌, refl, Bool, true, false, not, ◌&&◌, List, [], ◌∷◌, ◌++◌, ℕ, zero, suc, arith, T, eqb}
use Rattle.std.proofs.lemmas.Bool.Decides.{nat_tests}
use Rattle.refusal.specs.Numbers.{Check, ◌if◌, first, if_zero}

-- two numbers are the same where the test of that does not fail
pub same_if : (a b : ℕ) → not (eqb a b) ≡ false → a ≡ b
same_if a b e = grind (arith, nat_tests)

-- what is given where a number is not 0
pub not_zero : {A : Type 0} (n : ℕ) (a b : A) → (n ≡ 0 → ⊥) → b ≡ if_zero n a b
not_zero n a b h = grind arith

-- a first number that is 0 where the answer is
pub first_zero : (n k : ℕ) → if_zero n k n ≡ 0 → n ≡ 0
first_zero n k e = grind arith

-- no check of the list applies
abbrev pub Passed : List Check → Type 0
Passed [] = Unit
Passed ((n if t) ∷ cs) = (t ≡ false) × Passed cs

-- no number of the list is 0
abbrev pub named : List Check → Bool
named [] = true
named ((zero if t) ∷ cs) = false
named ((suc n if t) ∷ cs) = named cs

pub passed : (cs : List Check) → T (named cs) → first cs ≡ 0 → Passed cs
passed [] h e = tt
passed ((zero if t) ∷ cs) h e = absurd h
passed ((suc n if t) ∷ cs) h e = grind (arith, passed cs h)

pub first_append : (cs ds : List Check) → T (named cs) → first (cs ++ ds) ≡ if_zero (first cs) (first ds) (first cs)
first_append [] ds h = refl
first_append ((zero if t) ∷ cs) ds h = absurd h
first_append ((suc n if t) ∷ cs) ds h = grind (arith, first_append cs ds h)

-- a check that does not apply, and those behind it
pub past : (n : ℕ) (t : Bool) (cs : List Check) → first ((suc n if t) ∷ cs) ≡ 0 → (t ≡ false) × (first cs ≡ 0)
past n t cs e = grind arith

-- two lists without the number 0, one after the other
pub named_append : (cs ds : List Check) → T (named cs) → T (named ds) → T (named (cs ++ ds))
named_append [] ds h k = k
named_append ((zero if t) ∷ cs) ds h k = absurd h
named_append ((suc n if t) ∷ cs) ds h k = named_append cs ds h k

-- no number of the list is n
abbrev pub without : ℕ → List Check → Bool
without n [] = true
without n ((m if t) ∷ cs) = not (eqb m n) && without n cs

-- a refusal that no check of the list has is never given
pub never : (n : ℕ) (cs : List Check) → T (without (suc n) cs) → first cs ≡ suc n → ⊥
never n [] h e = omega arith
never n ((m if t) ∷ cs) h e = grind (arith, nat_tests, never n cs)

-- a check that refuses less, before the same ones: where its number was not given, nothing changes
pub refuses_less : (n : ℕ) (a b : Bool) (cs : List Check) → (a ≡ false → b ≡ false) → (first ((n if a) ∷ cs) ≡ n → ⊥)
    → first ((n if b) ∷ cs) ≡ first ((n if a) ∷ cs)
refuses_less n a b cs f h = grind arith

-- two lists that tell the same where the first does not give n, behind the same checks
pub alike_behind : (n : ℕ) (cs ds es : List Check) → ((first ds ≡ n → ⊥) → first es ≡ first ds) → (first (cs ++ ds) ≡ n → ⊥) → first (cs ++ es) ≡ first (cs ++ ds)
alike_behind n [] ds es f h = f h
alike_behind n ((m if t) ∷ cs) ds es f h = grind (arith, alike_behind n cs ds es f)

-- the first part of a list of checks refuses, or passes on to the second
module _ (cs ds : List Check) (ok : T (named cs)) where
  pub refuses : (n : ℕ) → n ≡ first cs → (n ≡ 0 → ⊥) → n ≡ first (cs ++ ds)
  refuses n e h = grind (arith, first_append cs ds ok)

  pub passes : (n r : ℕ) → n ≡ first cs → n ≡ 0 → r ≡ first ds → r ≡ first (cs ++ ds)
  passes n r e z er = grind (arith, first_append cs ds ok)

  pub passed_first : first (cs ++ ds) ≡ 0 → first cs ≡ 0
  passed_first e = grind (arith, first_append cs ds ok)

  pub passed_second : first (cs ++ ds) ≡ 0 → first ds ≡ 0
  passed_second e = grind (arith, first_append cs ds ok)
