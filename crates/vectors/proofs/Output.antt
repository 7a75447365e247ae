-- What is written: bytes behind bytes, a line of numbers, and what is shown of a list of calls.
-- Assumes nothing.
use Rattle.std.proofs.Common.{◌≡◌, Bool, true, false, ℕ, zero, suc, ◌+◌, ◌<◌, ◌≤◌, min, List, [], ◌∷◌, ◌++◌, length, get_or, take, drop, replicate, decimal, refl, sym, ◌∙◌, ap, ap₂, append_assoc, append-nil, add-one, arith, OnOk, Ok, Err, Some, None}
use Rattle.std.proofs.lemmas.List.{take-append-le}
use Rattle.std.proofs.lemmas.List.Edits.{sets}
use Rattle.std.proofs.Math.Seq.{take-length}
use Rattle.std.specs.Io.KnownBytes.{Appends}
use Rattle.std.specs.declared.option.Option.{Option}
use Rattle.std.specs.declared.result.Result.{Result}
use Rattle.refusal.specs.declared.Refusal.{Refusal}
use Rattle.refusal.specs.Numbers.{first}
use Rattle.refusal.specs.Refusals.{outcome_number}
use Rattle.book.specs.declared.Reply.{Reply}
use Rattle.book.specs.Head.{open_checks}
use Rattle.journal.specs.declared.Call.{Call}
use Rattle.journal.specs.Carried.{CarriesOut}
use Rattle.encoding.specs.Encoding.{call_size, ages_off, calls_in, count_calls, Reads}
use Rattle.text.specs.Numbers.{numbers_in}
use Rattle.vectors.specs.Vectors.{space, vessels, table_room, answers_room, report_room, calls_room, unwritten, numbers_text, numbers_line, unread_listing, carried_listing, calls_listing}
use Rattle.vectors.proofs.VectorLaws.{numbers_read}

-- bytes behind bytes
pub appends_none : (old : Option (List ℕ)) → Appends old old []
appends_none None = tt
appends_none (Some xs) = sym (append-nil xs)

pub appends_both : (old between new : Option (List ℕ)) (xs ys : List ℕ) → Appends old between xs
    → Appends between new ys → Appends old new (xs ++ ys)
appends_both None between new xs ys a b = tt
appends_both (Some os) (Some bs) (Some ns) xs ys a b = b ∙ rw a (append_assoc os xs ys)
appends_both (Some os) None new xs ys a b = absurd a
appends_both (Some os) (Some bs) None xs ys a b = absurd b

-- bytes that were written, and then those of a call that may fail, are what is shown
pub appends_then : {A E : Type 0} (r : Result A E) (old between new : Option (List ℕ)) (xs ys zs : List ℕ)
    → xs ++ ys ≡ zs → Appends old between xs → OnOk r (Appends between new ys)
    → OnOk r (Appends old new zs)
appends_then (Ok x) old between new xs ys zs e a b = rw (← e) (appends_both old between new xs ys a b)
appends_then (Err x) old between new xs ys zs e a b = tt

-- a line of numbers, one number more
more : (ns : List ℕ) (i : ℕ) → i < length ns
    → numbers_text (take (suc i) ns) ≡ numbers_text (take i ns) ++ (decimal (get_or ns i 0) ++ (space ∷ []))
unfolding numbers_text
more [] i h = absurd (omega arith)
more (n ∷ ns) zero h = append-nil (decimal n ++ (space ∷ []))
more (n ∷ ns) (suc i) h =
    ap (λ (k : List ℕ). (decimal n ++ (space ∷ [])) ++ k) (more ns i (omega arith)) ∙ sym (append_assoc (decimal n ++ (space ∷ [])) _ _)

pub number_more : (ns : List ℕ) (i : ℕ) (old between new : Option (List ℕ)) → i < length ns
    → Appends old between (numbers_text (take i ns))
    → Appends between new (decimal (get_or ns i 0) ++ (space ∷ [])) → Appends old new (numbers_text (take (i + 1) ns))
number_more ns i old between new h a b = rw (add-one, more ns i h) (appends_both old between new _ _ a b)

-- what is shown of a list of calls: refused for an age, or carried out
count_in : (n : ℕ) (l : List ℕ) → length (calls_in n l) ≡ n
unfolding calls_in
count_in zero l = refl
count_in (suc n) l = ap suc (count_in n (drop call_size l))

all_of : {A : Type 0} (n : ℕ) (l : List A) → length l ≡ n → take n l ≡ l
all_of n l e = rw (← e) (take-length l)

module _ (rule : ℕ) (numbers : List ℕ) (cs cs' : List Call) (room_is : length cs ≡ answers_room) (z : Result ℕ Refusal) (reads : Reads numbers cs cs' z) where
  abbrev n : ℕ
  n = count_calls numbers answers_room

  abbrev asked : List Call
  asked = calls_in n numbers

  few : min (length asked) answers_room ≡ n
  few = rw (count_in n numbers) (omega arith)

  read_off : ages_off n numbers ≡ true → outcome_number z ≡ 18
  read_off u = (reads.off (rw room_is u)).0

  read_on : ages_off n numbers ≡ false → (z ≡ Ok n) × (cs' ≡ asked ++ drop n cs)
  read_on u = let d = reads.on (rw room_is u) in rw room_is at d

  pub unread_shown : (why : Refusal) → z ≡ Err why → unread_listing ≡ carried_listing rule numbers
  unfolding carried_listing
  unread_shown why e = go (ages_off n numbers) refl
    where
      go : (b : Bool) → ages_off n numbers ≡ b → unread_listing ≡ carried_listing rule numbers
      go true u = rw u refl
      go false u = absurd (grind (arith, e, (read_on u).0))

  module _ (r : Reply) (t answers room : List ℕ) where
    abbrev Carries : List Call → Type 0
    Carries l =
        CarriesOut rule vessels l (replicate table_room 0) (replicate answers_room unwritten) (replicate report_room unwritten) r t answers room

    by_opening : ages_off n numbers ≡ false → Carries asked → (k : ℕ) → first (open_checks rule vessels) ≡ k
        → numbers_line answers ++ numbers_line room ≡ carried_listing rule numbers
    unfolding carried_listing
    by_opening u w zero ek =
        let d = w.done ek in
        let all : take (min (length asked) answers_room) asked ≡ asked = rw few (all_of n asked (count_in n numbers)) in
        let numbered = rw (all, few) at d.2 in
        let written = rw all at d.3 in
        rw (u, ek, numbered, written) refl
    by_opening u w (suc k) ek = let d = w.refused (λ x. omega (arith, ek, x)) in rw (u, ek, d.2, d.3) refl

    pub carried_shown : (m : ℕ) → z ≡ Ok m → Carries (take m cs')
        → numbers_line answers ++ numbers_line room ≡ carried_listing rule numbers
    carried_shown m e w = go (ages_off n numbers) refl
      where
        go : (b : Bool) → ages_off n numbers ≡ b
            → numbers_line answers ++ numbers_line room ≡ carried_listing rule numbers
        go true u = absurd (grind (arith, e, read_off u))
        go false u =
            let d = read_on u in
            let em : m ≡ n = grind (arith, e, d.0) in
            let long : n ≤ length asked = omega (arith, count_in n numbers) in
            let front : take m cs' ≡ asked =
            rw (em, d.1) (take-append-le n asked (drop n cs) long ∙ all_of n asked (count_in n numbers)) in
            by_opening u (rw front at w) (first (open_checks rule vessels)) refl

pub calls_shown : (text numbers : List ℕ) (count : ℕ) → count ≡ min (length (numbers_in text)) (1 + calls_room)
    → numbers ≡ sets (replicate (1 + calls_room) 0) 0 (numbers_in text) → (rule : ℕ) (calls : List ℕ)
    → (rule ≡ get_or (take count numbers) 0 0) × (calls ≡ drop 1 (take count numbers)) → (answers room : List ℕ)
    → numbers_line answers ++ numbers_line room ≡ carried_listing rule calls
    → numbers_line answers ++ numbers_line room ≡ calls_listing text
calls_shown text numbers count ec en rule calls (er, em) answers room w =
    let read = numbers_read (1 + calls_room) text numbers count ec en in
    w ∙ ap₂ (λ (rule : ℕ) (calls : List ℕ). carried_listing rule calls) (er ∙ ap (λ (ns : List ℕ). get_or ns 0 0) read) (em ∙ ap (drop 1) read)
