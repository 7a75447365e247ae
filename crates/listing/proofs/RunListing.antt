-- THE LISTING OF A SHEET: a run refused by its sheet or by 1 prints only `refused N`, and every other the lines of its
-- book. A run's pieces lie within its table, so that there is room for every listing. Assumes nothing.
use Rattle.std.proofs.Common.{◌≡◌, refl, sym, List, ℕ, zero, suc, ◌*◌, ◌≤◌, arith, length, take, drop}
use Rattle.std.proofs.Math.Seq.{take-append_seam}
use Rattle.refusal.specs.Numbers.{if_zero}
use Rattle.refusal.proofs.Numbers.{not_zero}
use Rattle.table.specs.Table.{most_places, pieces_of, places_of, places_in}
use Rattle.table.proofs.Table.{places_fit}
use Rattle.book.proofs.Known.{AddsUp, adds_up_told}
use Rattle.run.specs.declared.Ran.{Ran}
use Rattle.run.specs.Run.{Running, Gives, run_number, running}
use Rattle.run.proofs.InWords.{refused_run}
use Rattle.run.proofs.Ends.{run_adds}
use Rattle.listing.specs.Listing.{Listed, listing_text, book_text, refused_line, listing_of, sheet_listing, room_for, listing_room}

few_places : (t : List ℕ) → places_of t ≤ most_places
unfolding places_in
few_places t = omega arith

-- the pieces lie in the table, and there are no more of them than a table has places
pub record Fitting (r : Running) : Type 0 where
  pub pieces_lie : 4 * r.answer.head.pieces ≤ length r.table
  pub few : r.answer.head.pieces ≤ most_places

module _ (s t : List ℕ) where
  module _ (e : run_number s t ≡ 0) where
    abbrev r : Running
    r = running s t

    adds : AddsUp r.answer.head r.table
    adds = adds_up_told _ _ (run_adds s t e)

  pub fitting : Fitting (running s t)
  fitting = go (run_number s t) refl
    where
      go : (n : ℕ) → run_number s t ≡ n → Fitting (running s t)
      go zero e = record {
        pieces_lie = places_fit _ _ _ refl (adds e).few;
        few = omega (arith, (adds e).few, few_places (running s t).table);
      }
      go (suc n) e = rw (refused_run s t n e) (record { pieces_lie = omega arith; few = omega arith })

  pub listing_theorem : sheet_listing s t ≡ if_zero (run_number s t) (book_text (running s t).answer (pieces_of (running s t).answer.head.pieces (running s t).table)) (refused_line (run_number s t))
  unfolding listing_text
  listing_theorem = go (run_number s t) refl
    where
      go : (n : ℕ) → run_number s t ≡ n
          → sheet_listing s t ≡ if_zero n (book_text (running s t).answer (pieces_of (running s t).answer.head.pieces (running s t).table)) (refused_line n)
      go zero e = sym (not_zero (running s t).answer.head.vessels _ _ (λ z. omega (arith, (adds e).some_vessel)))
      go (suc n) e = rw (refused_run s t n e)

-- `list_sheet`: the answer and the table are the run's, and there is room for the listing
module _ (s t t' : List ℕ) (ran : Ran) (e : Gives (running s t) t' ran) where
  pub list_ready : (room : ℕ) → listing_room ≤ room → (4 * ran.head.pieces ≤ length t') × (room_for ran.head.pieces ≤ room)
  list_ready room h = let f = fitting s t in (rw (e.answer_is, e.table_is) f.pieces_lie, rw e.answer_is (omega (arith, f.few)))

  pub list_done : (l l' : List ℕ) (n : ℕ) → Listed l (listing_of ran t') n l' → Listed l (sheet_listing s t) n l'
  list_done l l' n p = rw (e.answer_is, e.table_is) at p

-- the text, where it is taken out of the bytes again
pub text_taken : (before text after : List ℕ) (size : ℕ) → Listed before text size after → take size after ≡ text
text_taken before text after size l = rw (l.after_is, l.count_is) (take-append_seam text (drop (length text) before))
