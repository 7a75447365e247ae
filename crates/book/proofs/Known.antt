-- A head and a table that add up, as one record, and what follows of those whose numbers are of 32 bits: the book that
-- they hold is sound, and what the code reads off the head is what the pieces say. They are made here, and nowhere else
-- are the tests taken apart.
-- Assumes nothing.
use Rattle.std.proofs.Common.{arith, ◌≡◌, refl, sym, true, List, ℕ, ◌*◌, ◌≤◌, length, drop, ◌∙◌}
use Rattle.std.proofs.lemmas.Bool.Decides.{nat_tests}
use Rattle.table.specs.declared.Piece.{Piece}
use Rattle.table.specs.Pieces.{held, All}
use Rattle.table.specs.Table.{pieces_of, places_of}
use Rattle.table.proofs.Pieces.{all_map}
use Rattle.table.proofs.Table.{length_pieces, formed, places_fit}
use Rattle.refusal.specs.Numbers.{first}
use Rattle.book.specs.declared.Head.{Head}
use Rattle.book.specs.Head.{last_rule, most_vessels, the_scale, holdings, Sized, balance_at, rules_fit, balances_of, head_of, book_of, adds_up}
use Rattle.book.specs.Motion.{of_book, of_head}
use Rattle.book.specs.Memory.{book_checks}
use Rattle.book.proofs.BalanceLaws.{Holders, Matches, balances_match, balance_held}
use Rattle.book.proofs.Sound.{SoundPiece, SoundBook, SizedBook}
use Rattle.book.proofs.HeadLaws.{all_sound, same_eq}
use Rattle.book.proofs.Memory.{On, book_passed}

-- what each test of `adds_up` says
pub record AddsUp (h : Head) (t : List ℕ) : Type 0 where
  pub rule_known : h.rule ≤ last_rule
  pub some_vessel : 1 ≤ h.vessels
  pub vessels_fit : h.vessels ≤ most_vessels
  pub few : h.pieces ≤ places_of t
  pub rules_known : rules_fit h.vessels h.rules ≡ true
  pub sound : All (SoundPiece h.vessels h.last) (pieces_of h.pieces t)
  pub balances_are : h.balances ≡ balances_of h.vessels (pieces_of h.pieces t)
  pub scale_is : h.scale ≡ held the_scale (pieces_of h.pieces t)

pub adds_up_told : (h : Head) (t : List ℕ) → adds_up h t ≡ true → AddsUp h t
unfolding adds_up
adds_up_told h t a = grind (arith, nat_tests, all_sound, same_eq)

-- a head that adds up is the head of its book
pub adds_head : (h : Head) (t : List ℕ) → AddsUp h t → h ≡ head_of (book_of h t)
adds_head h t u = rw (length_pieces h.pieces t, ← u.balances_are, ← u.scale_is)

-- its balances are what the holders hold
module _ (h : Head) (t : List ℕ) (u : AddsUp h t) where
  abbrev ps : List Piece
  ps = pieces_of h.pieces t

  holders : Holders h.vessels ps
  holders = all_map (λ p f. f.holder_in) u.sound

  adds_match : Matches (holdings h) ps
  adds_match = balances_match h.vessels h.balances h.scale ps holders u.balances_are u.scale_is

  pub adds_balance : (v : ℕ) → balance_at h v ≡ held v ps
  adds_balance = balance_held h h.vessels ps u.vessels_fit holders adds_match

  -- the book is sound, and head and table hold it
  adds_room : 4 * h.pieces ≤ length t
  adds_room = places_fit t h.pieces (places_of t) refl u.few

  pub adds_sound : SoundBook (length t) (book_of h t)
  adds_sound = grind (arith, length_pieces h.pieces t)

  pub adds_on : On (length t) h t (book_of h t)
  adds_on = record { head_is = adds_head h t u; lies = record { tail = drop (4 * h.pieces) t; table_is = formed h.pieces t adds_room; long = refl } }

-- A book in memory that adds up, with numbers of 32 bits.
pub record Known (h : Head) (t : List ℕ) : Type 0 where
  pub adds : adds_up h t ≡ true
  pub sized : Sized h
  pub sound : SoundBook (length t) (book_of h t)
  pub light : SizedBook (book_of h t)
  pub on : On (length t) h t (book_of h t)
  pub few : h.pieces ≤ places_of t
  pub there : 4 * h.pieces ≤ length t
  pub matches : Matches (holdings h) (pieces_of h.pieces t)
  pub balance : (v : ℕ) → balance_at h v ≡ held v (pieces_of h.pieces t)

pub known_up : (h : Head) (t : List ℕ) → Sized h → adds_up h t ≡ true → Known h t
known_up h t z a =
    let u = adds_up_told h t a in
    let b = adds_balance h t u in
    record {
      adds = a;
      sized = z;
      sound = adds_sound h t u;
      light = record { light = λ v. rw (← (b v)) (z.light v); tally = z.tally };
      on = adds_on h t u;
      few = u.few;
      there = adds_room h t u;
      matches = adds_match h t u;
      balance = b;
    }

-- as checks 1 and 4 find it
pub known : (h : Head) (t : List ℕ) (n : ℕ) → (n ≡ first (book_checks h t)) × Sized h → n ≡ 0 → Known h t
known h t n (e, z) q = known_up h t z (book_passed h t (sym e ∙ q)).1

-- What the code looks at, the balances of the head, is what the book's checks look at.
pub standing_same : (h : Head) (t : List ℕ) → Known h t → of_head h ≡ of_book (book_of h t)
standing_same h t k = λ i. record { vessels = h.vessels; balance = λ v. k.balance v i; last = h.last; accepted = h.accepted }
