-- DECIMAL IS THE NUMBER: read as digits it gives the number back, it begins with no zero unless the number is 0, and it is what the library prints.
-- Assumes nothing.
use Rattle.std.proofs.Common.{ℕ, zero, suc, ◌+◌, ◌-◌, ◌*◌, ◌/◌, ◌%◌, ◌^◌, ◌<◌, ◌≤◌, arith, ◌≡◌, refl, ◌∙◌, List, [], ◌∷◌, ◌++◌, append_assoc, get_or, sym, ⊎_elim}
use Rattle.std.specs.Fmt.{decimal as printed}
use Rattle.std.proofs.lemmas.Fmt.{decimal_digit, decimal_step, length-decimal-le}
use Rattle.std.proofs.lemmas.Bool.{cases_lt}
use native.Mathlib.Nat.{pow-succ'}
use Rattle.refusal.specs.Numbers.{TOP}
use Rattle.text.specs.Writing.{Written, Writes}
use Rattle.text.specs.declared.Writer.{Writer}
use Rattle.text.specs.Digits.{last_digit, digits, decimal}
use Rattle.text.proofs.TextLaws.{no_digits, more_digits}

-- the number that digits say, behind those read before
abbrev value_on : ℕ → List ℕ → ℕ
value_on n [] = n
value_on n (d ∷ ds) = value_on (10 * n + (d - 48)) ds

abbrev pub value : List ℕ → ℕ
value ds = value_on 0 ds

one_more : (n d : ℕ) (ds : List ℕ) → value_on n (ds ++ (d ∷ [])) ≡ 10 * value_on n ds + (d - 48)
one_more n d [] = refl
one_more n d (x ∷ ds) = one_more (10 * n + (x - 48)) d ds

tenth : (k n : ℕ) → n < 10 ^ suc k → n / 10 < 10 ^ k
tenth k n h = omega (arith, pow-succ' 10 k)

digits_value : (k n : ℕ) → n < 10 ^ k → value (digits k n) ≡ n
unfolding digits
digits_value zero n h = omega arith
digits_value (suc k) zero h = refl
digits_value (suc k) (suc n) h = one_more 0 (last_digit (suc n)) (digits k (suc n / 10)) ∙ omega (arith, digits_value k (suc n / 10) (tenth k (suc n) h))

pub decimal_value : (n : ℕ) → n ≤ TOP → value (decimal n) ≡ n
unfolding decimal
decimal_value n h = one_more 0 (last_digit n) (digits 9 (n / 10)) ∙ omega (arith, digits_value 9 (n / 10) (omega arith))

-- "0" is 48
abbrev Lead : List ℕ → Type 0
Lead ds = 48 < get_or ds 0 0

-- led by the last digit where it is the only one
led : (k n m : ℕ) (rest : List ℕ) → 0 < n → n / 10 ≡ m → (0 < n / 10 → Lead (digits k (n / 10) ++ (last_digit n ∷ rest))) → Lead (digits k (n / 10) ++ (last_digit n ∷ rest))
led k n zero rest some e more = rw (e, no_digits) (omega arith)
led k n (suc m) rest some e more = more (omega arith)

digits_lead : (k n : ℕ) (rest : List ℕ) → 0 < n → n < 10 ^ k → Lead (digits k n ++ rest)
digits_lead zero n rest some h = absurd (omega arith)
digits_lead (suc k) n rest some h =
    rw (more_digits k n some, append_assoc) (led k n (n / 10) rest some refl (λ more. digits_lead k (n / 10) (last_digit n ∷ rest) more (tenth k n h)))

pub decimal_lead : (n : ℕ) → 0 < n → n ≤ TOP → 48 < get_or (decimal n) 0 0
unfolding decimal
decimal_lead n some h = led 9 n (n / 10) [] some refl (λ more. digits_lead 9 (n / 10) (last_digit n ∷ []) more (omega arith))

-- the library's word, by the same digits
printed_digits : (k n : ℕ) → 0 < n → n < 10 ^ k → n < 2 ^ 64 → digits k n ≡ printed n
printed_digits zero n some h w = absurd (omega arith)
printed_digits (suc k) n some h w = more_digits k n some ∙ ⊎_elim
    (λ small.
    let none : n / 10 ≡ 0 = omega arith in
    let last : n % 10 ≡ n = omega arith in
    rw (none, no_digits, last) (sym (decimal_digit n small)))
    (λ large. rw (printed_digits k (n / 10) (omega arith) (tenth k n h) (omega arith)) (sym (decimal_step n large w)))
    (cases_lt n 10)

pub decimal_printed : (n : ℕ) → n ≤ TOP → decimal n ≡ printed n
unfolding decimal digits
decimal_printed zero h = sym (decimal_digit 0 (omega arith))
decimal_printed (suc n) h = sym (more_digits 9 (suc n) (omega arith)) ∙ printed_digits 10 (suc n) (omega arith) (omega arith) (omega arith)

-- a number's text that was written: no longer than it may be
pub number_written : {w w' : Writer} (n : ℕ) (text bytes : List ℕ) → n < 2 ^ 32 → text ≡ printed n → bytes ≡ text → Written w bytes w' → Writes w (decimal n) 10 w'
number_written {w} {w'} n text bytes h e d p =
    let same : bytes ≡ printed n = d ∙ e in
    let ten = length-decimal-le 10 n (omega arith) (omega arith) (omega arith) in
    let q = rw same at p in
    (rw (decimal_printed n (omega arith)) q, omega (arith, ten, q.put.next_is))
