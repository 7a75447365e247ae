-- Laws of reading numbers. A text is cut at what is no digit; its numbers are those that its parts make, but for the empty ones.
-- Assumes nothing.
use Rattle.std.proofs.Common.{ℕ, suc, ◌+◌, ◌<◌, ◌≤◌, min, zero-add, arith, append-nil, eqb, eqb-true, ◌⊎◌, inl, inr, map, ◌≡◌, refl, sym, ap, ◌∙◌, Bool, true, false, not, cond, List, [], ◌∷◌, ◌++◌, length, take, set, length-append, fold}
use Rattle.std.proofs.lemmas.List.{map-append, set_past}
use Rattle.std.specs.Char.{is_ascii_digit}
use Rattle.std.specs.List.{slice_split, onto_first}
use native.Mathlib.Nat.{zero-min, min-zero, suc-min-suc}
use lib.Seq.{sets, length-sets, take-nil}
use borrow.Author.Tests.{eqb-false}
use denote.Ref.{Bor}
use Rattle.text.proofs.TextLaws.{sets_append}
use Rattle.text.specs.Numbers.{digit, digit_at, with_digit, number, numbers_from, numbers_in}

-- the parts of a text, and the numbers that parts make
abbrev pub parts : List ℕ → List (List ℕ)
parts text = slice_split (λ b. not (is_ascii_digit b)) text

unfoldable pub made : List (List ℕ) → List ℕ
made [] = []
made ([] ∷ ps) = made ps
made ((d ∷ ds) ∷ ps) = number (d ∷ ds) ∷ made ps

-- the same, where n is what the digits before them make
unfoldable going : ℕ → List (List ℕ) → List ℕ
going n [] = n ∷ []
going n (p ∷ ps) = fold with_digit n p ∷ made ps

going_first : (n b : ℕ) (ps : List (List ℕ)) → going n (onto_first b ps) ≡ going (with_digit n b) ps
unfolding going made
going_first n b [] = refl
going_first n b (p ∷ ps) = refl

made_first : (b : ℕ) (ps : List (List ℕ)) → made (onto_first b ps) ≡ going (with_digit 0 b) ps
unfolding going made
made_first b [] = refl
made_first b (p ∷ ps) = refl

numbers_parts : (text : List ℕ) → (numbers_from 0 text ≡ made (parts text)) × ((n : ℕ) → cond (digit_at text 0) (numbers_from n text) (n ∷ numbers_from 0 text) ≡ going n (parts text))
unfolding numbers_from made going
numbers_parts [] = (refl, λ n. refl)
numbers_parts (b ∷ bs) = go (digit b) refl (numbers_parts bs)
  where
    go : (t : Bool) → digit b ≡ t → (numbers_from 0 bs ≡ made (parts bs)) × ((n : ℕ) → cond (digit_at bs 0) (numbers_from n bs) (n ∷ numbers_from 0 bs) ≡ going n (parts bs))
        → (numbers_from 0 (b ∷ bs) ≡ made (parts (b ∷ bs))) × ((n : ℕ) → cond (digit b) (numbers_from n (b ∷ bs)) (n ∷ numbers_from 0 (b ∷ bs)) ≡ going n (parts (b ∷ bs)))
    go true e (i, j) = (rw (e, made_first b (parts bs)) (j (with_digit 0 b)), λ n. rw (e, going_first n b (parts bs)) (j (with_digit n b)))
    go false e (i, j) = (rw e i, λ n. rw e (ap (λ (l : List ℕ). n ∷ l) i))

-- what the loop has done when it passed the parts ps: their numbers are put, as many as there is room for
pub record Reading (ps : List (List ℕ)) (out₀ out : List ℕ) (count : ℕ) : Type 0 where
  pub put : out ≡ sets out₀ 0 (made ps)
  pub counted : count ≡ min (length (made ps)) (length out₀)

pub none_read : (out : List ℕ) → Reading [] out out 0
unfolding made
none_read out = record { put = refl; counted = sym (zero-min _) }

made_more : (ps : List (List ℕ)) (p : List ℕ) → made (ps ++ (p ∷ [])) ≡ made ps ++ made (p ∷ [])
unfolding made
made_more [] p = refl
made_more ([] ∷ ps) p = made_more ps p
made_more ((d ∷ ds) ∷ ps) p = ap (λ (l : List ℕ). number (d ∷ ds) ∷ l) (made_more ps p)

no_number : (p : List ℕ) → eqb (length p) 0 ≡ true → made (p ∷ []) ≡ []
unfolding made
no_number [] e = refl
no_number (d ∷ ds) e = absurd (omega (arith, eqb-true _ _ e))

one_number : (p : List ℕ) → eqb (length p) 0 ≡ false → made (p ∷ []) ≡ number p ∷ []
unfolding made
one_number [] e = absurd (eqb-false 0 0 e refl)
one_number (d ∷ ds) e = refl

-- the parts that a loop was given
abbrev pub given : List (Bor (List ℕ)) → List (List ℕ)
given ys = map (λ d. d.now) ys

-- a turn, where b tells whether the part is empty
module _ (ys : List (Bor (List ℕ))) (x : Bor (List ℕ)) (out₀ out : List ℕ) (count : ℕ) (r : Reading (given ys) out₀ out count) (b : Bool) (d : b ≡ eqb (length x.now) 0) where
  before : List ℕ
  before = made (given ys)

  after : List ℕ
  after = made (given (ys ++ (x ∷ [])))

  kept : length out ≡ length out₀
  unfolding before
  kept = ap length r.put ∙ length-sets out₀ 0 before

  more : after ≡ before ++ made (x.now ∷ [])
  unfolding before after
  more = rw map-append (made_more (given ys) x.now)

  module _ (e : b ≡ false) where
    one : after ≡ before ++ (number x.now ∷ [])
    one = more ∙ rw (one_number x.now (sym d ∙ e))

    longer : length after ≡ suc (length before)
    longer = ap length one ∙ simp length-append (omega arith)

    next : sets out₀ 0 after ≡ set out (length before) (number x.now)
    unfolding before
    next = rw (one, sets_append, zero-add, ← r.put)

    pub put_turn : (n : ℕ) → n ≡ number x.now → count < length out → Reading (given (ys ++ (x ∷ []))) out₀ (set out count n) (count + 1)
    unfolding before after
    put_turn n q h =
        let k : count ≡ length before = omega (arith, r.counted, kept) in
        record { put = rw (q, k) (sym next); counted = omega (arith, longer, kept, k) }

  pub pass_turn : ((b ≡ false) × (length out ≤ count)) ⊎ (b ≡ true) → Reading (given (ys ++ (x ∷ []))) out₀ out count
  unfolding before after
  pass_turn (inl (e, h)) = record {
    put = sym (next e ∙ set_past out (length before) (number x.now) (omega (arith, r.counted, kept)));
    counted = omega (arith, longer e, r.counted, kept);
  }
  pass_turn (inr e) =
      let same : after ≡ before = more ∙ rw (no_number x.now (sym d ∙ e)) (append-nil _) in
      record { put = rw same r.put; counted = rw same r.counted }

-- all parts of a text
module _ (text out₀ out : List ℕ) (count : ℕ) (ps : List (List ℕ)) (e : ps ≡ parts text) (r : Reading ps out₀ out count) where
  all_made : made ps ≡ numbers_in text
  all_made = ap made e ∙ sym (numbers_parts text).0

  pub all_put : out ≡ sets out₀ 0 (numbers_in text)
  all_put = rw all_made at r.put

  pub all_counted : count ≡ min (length (numbers_in text)) (length out₀)
  all_counted = rw all_made at r.counted

pub sets_behind : (vs l : List ℕ) (x i : ℕ) → sets (x ∷ l) (suc i) vs ≡ x ∷ sets l i vs
sets_behind [] l x i = refl
sets_behind (a ∷ vs) l x i = sets_behind vs (set l i a) x (suc i)

-- numbers put from the start are the first of the slice, as many as it has room for
pub first_put : (vs l : List ℕ) → take (min (length vs) (length l)) (sets l 0 vs) ≡ take (length l) vs
first_put [] l = rw (zero-min, take-nil) refl
first_put (a ∷ vs) [] = rw min-zero refl
first_put (a ∷ vs) (x ∷ l) = rw (suc-min-suc, sets_behind vs l a 0) (ap (λ (r : List ℕ). a ∷ r) (first_put vs l))
