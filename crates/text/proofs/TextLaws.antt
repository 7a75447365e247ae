-- Laws of texts written one behind the other, and of a number's digits.
-- Assumes nothing.
use Rattle.std.proofs.Common.{ℕ, zero, suc, ◌+◌, ◌-◌, ◌/◌, ◌<◌, ◌≤◌, arith, ◌≡◌, refl, sym, ◌∙◌, List, [], ◌∷◌, ◌++◌, length, length-append, set, add-zero, ap}
use Rattle.std.proofs.lemmas.Slice.{put_mid-paste}
use lib.Seq.{sets, sets-eq, length-sets, take-length}
use borrow.Rule.Slice.PartMut.{put_mid}
use Rattle.text.specs.Digits.{last_digit, digits}
use Rattle.text.specs.Text.{Put}
use Rattle.text.specs.Writing.{Written, Writes}
use Rattle.text.specs.declared.Writer.{Writer}

pub sets_append : (a b l : List ℕ) (i : ℕ) → sets l i (a ++ b) ≡ sets (sets l i a) (i + length a) b
sets_append [] b l i = rw add-zero
sets_append (x ∷ a) b l i = sets_append a b (set l i x) (suc i) ∙ ap (λ (k : ℕ). sets (sets (set l i x) (suc i) a) k b) (omega arith)

pub no_digits : (k : ℕ) → digits k 0 ≡ []
unfolding digits
no_digits zero = refl
no_digits (suc k) = refl

pub more_digits : (k n : ℕ) → 0 < n → digits (suc k) n ≡ digits k (n / 10) ++ (last_digit n ∷ [])
unfolding digits
more_digits k zero h = absurd (omega arith)
more_digits k (suc n) h = refl

-- a text that was copied to its place
pub text_put : (l text part : List ℕ) (at : ℕ) → at + length text ≤ length l → part ≡ text → Put l at text (at + length text) (put_mid at (at + length text - at) l part)
text_put l text part at h e = record { next_is = refl; after_is = put_mid-paste at _ l part text (length text) e (omega arith) refl ∙ rw take-length (sym (sets-eq text l at h)) }

-- nothing is written
pub none_written : (w : Writer) (size : ℕ) → Writes w [] size w
none_written w size = (record { same_bytes = refl; same_length = refl; put = record { next_is = sym (add-zero _); after_is = refl } }, omega arith)

-- a text is put where the writer is
pub text_written : {w w' : Writer} {text : List ℕ} → w'.out.ghost_name ≡ w.out.ghost_name → Put w.out.now w.at text w'.at w'.out.now → Written w text w'
text_written {w} {w'} {text} e p = record { same_bytes = e; same_length = ap length p.after_is ∙ length-sets w.out.now w.at text; put = p }

-- two texts written one behind the other are one
pub then_written : {w w₁ w₂ : Writer} {a b : List ℕ} → Written w a w₁ → Written w₁ b w₂ → Written w (a ++ b) w₂
then_written p q = text_written (q.same_bytes ∙ p.same_bytes) (record {
  next_is = rw length-append (omega (arith, p.put.next_is, q.put.next_is));
  after_is = q.put.after_is ∙ rw (sets_append, p.put.after_is, p.put.next_is);
})
