-- ONE INDUCTION OVER LISTS OF CALLS. A relation between a sound book, a journal and the book afterwards, that holds
-- where nothing is called and is kept where a call is put in front, holds of every list of calls (`along`). What holds
-- of the calls so far is such a relation too (`ever`).
-- Assumes nothing.
use Rattle.std.proofs.Common.{◌≡◌, refl, ap, subst, List, [], ◌∷◌, ◌++◌, ℕ, append_assoc, append-nil, length}
use Rattle.refusal.specs.Numbers.{if_zero}
use Rattle.book.specs.declared.Head.{Head}
use Rattle.book.specs.Head.{Book, opening, opened}
use Rattle.book.specs.Calls.{Call, meaning}
use Rattle.book.specs.Memory.{call_on}
use Rattle.book.specs.Lists.{Entry, Journal, calls_on, all_asked}
use Rattle.book.proofs.Sound.{number, SoundBook}
use Rattle.book.proofs.Memory.{On, in_step}
use Rattle.book.proofs.HeadLaws.{opening_passed}
use Rattle.book.proofs.After.{fresh, fresh_on}

-- what a call leaves of a book, and what the journal says of it
abbrev pub step : ℕ → Book → Call → Book
step len b c = if_zero (number len b c) ((meaning c).next b) b

abbrev pub entry : ℕ → Book → Call → Entry
entry len b c =
    record {
      asked = c;
      number = number len b c;
      even = if_zero (number len b c) ((meaning c).even b) 0;
      stirred = (meaning c).stirs b (number len b c);
    }

noted_entry : (len : ℕ) (h : Head) (t : List ℕ) (b : Book) → On len h t b → SoundBook len b → (c : Call)
    → entry len b c
    ≡ record { asked = c; number = (call_on h t c).number; even = (call_on h t c).even; stirred = (call_on h t c).stirred }
noted_entry len h t b on o c = let s = in_step len h t b on o c in rw (s.number_is, s.even_is, s.stirred_is) refl

-- how a list of calls ends
pub record Ends (len : ℕ) (R : Book → List Entry → Book → Type 0) (b : Book) (cs : List Call) (r : Journal) : Type 0 where
  pub final : Book
  pub on : On len r.head r.table final
  pub sound : SoundBook len final
  pub related : R b r.log final
  pub asked_is : all_asked r.log ≡ cs

module _ (len : ℕ) (R : Book → List Entry → Book → Type 0)
    (none : (b : Book) → R b [] b)
    (more : (b : Book) (c : Call) (es : List Entry) (z : Book) → SoundBook len b → R (step len b c) es z → R b (entry len b c ∷ es) z) where
  pub along : (cs : List Call) (h : Head) (t : List ℕ) (b : Book) → On len h t b → SoundBook len b → Ends len R b cs (calls_on h t cs)
  unfolding calls_on
  along [] h t b on o = record { final = b; on = on; sound = o; related = none b; asked_is = refl }
  along (c ∷ cs) h t b on o =
      let s = in_step len h t b on o c in
      let i = along cs (call_on h t c).head (call_on h t c).table (step len b c) s.holds s.sound in
      record {
        final = i.final;
        on = i.on;
        sound = i.sound;
        related =
            let es = (calls_on (call_on h t c).head (call_on h t c).table cs).log in
            subst (λ (e : Entry). R b (e ∷ es) i.final) (noted_entry len h t b on o c) (more b c es i.final o i.related);
        asked_is = ap (λ (ds : List Call). c ∷ ds) i.asked_is;
      }

  -- from an opening that is accepted
  pub from_opening : (rule size : ℕ) → (opening rule size).number ≡ 0 → (t : List ℕ) → len ≡ length t → (cs : List Call)
      → Ends len R (opened rule size) cs (calls_on (opening rule size).head t cs)
  from_opening rule size e t p cs =
      let o = opening_passed rule size e in
      along cs (opening rule size).head t (opened rule size) (rw (p, o.1) (fresh_on rule size t)) (fresh len rule size o.0)

-- what holds of the journal so far and the book, where each call keeps it
module _ (len : ℕ) (I : List Entry → Book → Type 0)
    (kept : (past : List Entry) (b : Book) (c : Call) → SoundBook len b → I past b → I (past ++ (entry len b c ∷ [])) (step len b c)) where
  abbrev pub Ever : Book → List Entry → Book → Type 0
  Ever b es z = (past : List Entry) → I past b → I (past ++ es) z

  pub ever : (cs : List Call) (h : Head) (t : List ℕ) (b : Book) → On len h t b → SoundBook len b → Ends len Ever b cs (calls_on h t cs)
  ever = along len Ever (λ b past i. rw (append-nil past) i)
      (λ b c es z o rest past i. let e = entry len b c in rw (← (append_assoc past (e ∷ []) es)) (rest (past ++ (e ∷ [])) (kept past b c o i)))
