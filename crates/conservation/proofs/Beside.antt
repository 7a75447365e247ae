-- What walks beside the weigh book: a call that a sound book accepts moves both alike, and where a place is free the
-- weigh book gives the call's number, unless it picks by rule 4, which can want more places than one. Each kind of call
-- has one clause of `walks`.
-- Assumes nothing.
use Rattle.std.proofs.Common.{◌≡◌, refl, sym, ap, subst, false, eqb, List, ℕ, suc, ◌+◌, ◌-◌, ◌≤◌, arith, length, ◌∙◌}
use Rattle.std.proofs.lemmas.Bool.Decides.{nat_tests}
use Rattle.table.specs.Pieces.{sum, born_at, held}
use Rattle.taking.proofs.Handed.{handed_births}
use Rattle.refusal.specs.Numbers.{◌if◌, or_else, first, if_zero}
use Rattle.refusal.proofs.Numbers.{first_zero}
use Rattle.book.specs.declared.Motion.{Motion}
use Rattle.book.specs.Head.{Book}
use Rattle.book.specs.Motion.{Standing, of_book, Terms, motion, book_after}
use Rattle.book.specs.Calls.{Call, terms, enter, set_rule, ask, motion_on, posting_meaning, meaning}
use Rattle.conservation.specs.WeighBook.{WeighBook, of_weigh, weighed, weighing, weigh_number, weigh_step, listed}
use Rattle.book.specs.Lists.{tips_in}
use Rattle.book.proofs.Sound.{own, number, passed_own, takes_fair, held_after, Proper, proper, of_checks, posted_own, posted_count}
use Rattle.table.specs.Table.{places_in}

-- The weigh book beside the book.
pub record Beside (b : Book) (w : WeighBook) : Type 0 where
  pub same_size : b.vessels ≡ w.vessels
  pub weights : (v : ℕ) → held v b.pieces ≡ w.weight v
  pub births : (o t : ℕ) → sum (born_at o t) b.pieces ≡ w.births o t
  pub same_last : b.last ≡ w.last
  pub same_count : b.accepted ≡ w.accepted

-- so that they look the same to every check
standing : (b : Book) (w : WeighBook) → Beside b w → of_book b ≡ of_weigh w
standing b w r =
    λ i. record { vessels = r.same_size i; balance = λ v. r.weights v i; last = r.same_last i; accepted = r.same_count i }

-- where the call is accepted
pub record Accepts (b : Book) (w : WeighBook) (c : Call) : Type 0 where
  pub weighs : weigh_number w c ≡ 0
  pub beside : Beside ((meaning c).next b) ((weighing c).next w)

-- of its number, where there are places enough
pub record Foretells (len : ℕ) (b : Book) (w : WeighBook) (c : Call) : Type 0 where
  pub same : (ns : List ℕ) → listed c (number len b c) ns ≡ listed c (weigh_number w c) ns
  pub stays : (n : ℕ) → number len b c ≡ suc n → weigh_step w c ≡ w

pub record Walks (len : ℕ) (b : Book) (w : WeighBook) (c : Call) : Type 0 where
  pub accepts : number len b c ≡ 0 → Accepts b w c
  pub foretells : (meaning c).stirs b (number len b c) ≡ false → length b.pieces + (meaning c).counts ≤ places_in len
      → (1 ≤ tips_in c → 1 ≤ places_in len)
      → Foretells len b w c

-- A motion moves both alike.
motion_beside : (b : Book) (m : Motion) (w : WeighBook) → Beside b w → Beside (book_after b m) (weighed w m)
motion_beside b m w r = record {
  same_size = r.same_size;
  weights = λ v. rw (← (r.weights v), ← (r.weights m.moves.source)) (held_after b m v);
  births =
      λ o t. rw (← (r.births o t), ← (r.weights m.moves.source)) (handed_births m.moves b.pieces _ (takes_fair b m) o t);
  same_last = refl;
  same_count = ap (λ (n : ℕ). n + m.counts) r.same_count;
}

-- the weigh book has the same number, and moves only where that is 0
foretold : (len : ℕ) (b : Book) (w : WeighBook) (c : Call) → number len b c ≡ weigh_number w c → Foretells len b w c
foretold len b w c e =
    record { same = λ ns. ap (λ n. listed c n ns) e; stays = λ n z. ap (λ m. if_zero m ((weighing c).next w) w) (sym e ∙ z) }

-- What is posted, with a place free: the number is that of its own checks, if it does not pick by rule 4, and the weigh
-- book makes the same.
module _ (p : Terms) (ok : Proper p) (len : ℕ) (b : Book) (w : WeighBook) (r : Beside b w) where
  same_checks : of_checks p ok len b ≡ first (p.checks (of_weigh w))
  same_checks = ap (λ (g : Standing). first (p.checks g)) (standing b w r)

  posted_beside : Beside (book_after b (motion_on p b)) (weighed w (motion p (of_weigh w)))
  posted_beside =
      subst (λ (g : Standing). Beside (book_after b (motion_on p b)) (weighed w (motion p g))) (standing b w r) (motion_beside b (motion_on p b) w r)

  free_number : let n = or_else (1 if eqb (places_in len) 0) (own len b (posting_meaning p)) in
      (posting_meaning p).stirs b n ≡ false → length b.pieces + p.counts ≤ places_in len
      → (1 ≤ 1 - p.counts → 1 ≤ places_in len)
      → n ≡ of_checks p ok len b
  free_number u h k = let one = ok.once in grind (arith, nat_tests, posted_own p ok len b, posted_count p ok len b)

pub walks : (len : ℕ) (b : Book) (w : WeighBook) (c : Call) → Beside b w → Walks len b w c
unfolding weigh_number number
walks len b w (enter p) r =
    let ok = proper p in
    let s = same_checks (terms p) ok len b w r in
    record {
      accepts = λ e. record {
        weighs = sym s ∙ first_zero _ _ (sym (posted_own (terms p) ok len b) ∙ passed_own len b (enter p) e);
        beside = posted_beside (terms p) ok len b w r;
      };
      foretells = λ u h k. foretold len b w (enter p) (free_number (terms p) ok len b w r u h k ∙ s);
    }
walks len b w (set_rule s) r = record {
  accepts =
      λ e. record { weighs = refl; beside = record { same_size = r.same_size; weights = r.weights; births = r.births; same_last = r.same_last; same_count = r.same_count } };
  foretells = λ u h k. record { same = λ ns. refl; stays = λ n e. refl };
}
walks len b w (ask q room) r = record {
  accepts = λ e. record { weighs = refl; beside = r };
  foretells = λ u h k. record { same = λ ns. refl; stays = λ n e. refl };
}
