-- The calls: what is answered to a posting is the call on head and table, and the book is known again. One law, for all
-- that can be posted, and whatever keeps the pieces.
-- Assumes nothing.
use Rattle.std.specs.Option.{ok_or}
use Rattle.std.specs.Result.{IsErrAnd}
use Rattle.std.proofs.Common.{◌≡◌, refl, sym, ap, ◌∙◌, subst, Bool, true, false, cond, Option, Some, Result, Ok, Err, List, ℕ, zero, suc, arith, length}
use Rattle.std.proofs.lemmas.Bool.Decides.{nat_tests}
use Rattle.table.specs.Table.{places_of}
use Rattle.table.proofs.Pieces.{all_map}
use Rattle.taking.specs.declared.Applied.{Applied}
use Rattle.taking.specs.Applied.{full, accepted, applied, table_left, Moves}
use Rattle.refusal.specs.declared.Refusal.{Refusal}
use Rattle.refusal.specs.declared.Refusal.TheVariants.{TableFull}
use Rattle.refusal.specs.Numbers.{first, if_zero}
use Rattle.refusal.specs.Refusals as Refusals
use Rattle.refusal.proofs.Refusals.{some_number}
use Rattle.book.specs.declared.Head.{Head}
use Rattle.book.specs.declared.Motion.{Motion}
use Rattle.book.specs.declared.Reply.{Reply}
use Rattle.book.specs.declared.Tip.{Tip}
use Rattle.book.specs.declared.Transferred.{Transferred}
use Rattle.book.specs.Head.{Book, head_of, book_of}
use Rattle.book.specs.Motion.{Standing, of_book, of_head, Terms, motion, takes, pieces_after, book_after}
use Rattle.book.specs.Calls.{Posting, terms, Call, enter, tip, motion_on, meaning}
use Rattle.book.specs.Memory.{book_checks, number_of, Audited}
use Rattle.book.proofs.BalanceLaws.{Holders}
use Rattle.book.proofs.Sound.{number, own, proper, after_length, whole, posted_own, motion_light, SizedBook, keeps}
use Rattle.book.proofs.Memory.{number_same, no_place, refused_on, accepted_on, off_number}
use Rattle.book.proofs.Known.{Known, standing_same}
use Rattle.motions.specs.Carrying.{Carriable, next_head, Countable}
use Rattle.motions.specs.Posting.{refused_with, said, Posts, Tips, PostsKnown}
use Rattle.book.proofs.Audited.{audited_known, audited_after}
use Rattle.motions.proofs.Next.{next_head_is, countable}

-- the answer is a refusal, passed on by `?`
is_refusal : (q : Result Applied Refusal) (why : Refusal) → IsErrAnd q (λ (other : Refusal). other ≡ why) → q ≡ Err why
is_refusal q why e = grind arith

module _ (v : Posting) (h : Head) (t : List ℕ) where
  abbrev p : Terms
  p = terms v

  abbrev c : Call
  c = enter v

  abbrev checked : ℕ
  checked = first (p.checks (of_head h))

  -- where it was refused with number n, and so is the call
  refusal : (n : ℕ) → number_of h t c ≡ n → (n ≡ 0 → ⊥) → Posts h c t t (refused_with h n)
  refusal n e nz = grind (arith, refused_on h t c n e nz)

  -- refused by 1 or 4
  pub off_posts : (why : Refusal) → Refusals.number_of why ≡ first (book_checks h t) → (q : Result Applied Refusal)
      → IsErrAnd q (λ (other : Refusal). other ≡ why)
      → Posts h c t t (said h q)
  off_posts why e q eq = rw (is_refusal q why eq) (refusal _ (off_number h t c _ e (some_number why)) (some_number why))

  -- On a book known to add up.
  module _ (w : Audited h t) where
    abbrev b : Book
    b = book_of h t

    k : Known h t
    k = audited_known h t w

    abbrev m : Motion
    m = motion_on p b

    abbrev full_now : Bool
    full_now = full (places_of t) m.moves (takes b m)

    standing : of_head h ≡ of_book b
    standing = standing_same h t k

    number_is : number_of h t c ≡ own (length t) b (meaning c)
    unfolding number
    number_is = grind (arith, nat_tests, number_same (length t) h t b k.on k.sound c, no_place t, w.long)

    checked_is : checked ≡ first (p.checks (of_book b))
    checked_is = ap (λ (g : Standing). first (p.checks g)) standing

    decided : number_of h t c ≡ if_zero checked (cond full_now 11 0) checked
    unfolding takes
    decided =
        let f = k.sound.fits in
        number_is ∙ rw checked_is (grind (arith, nat_tests, posted_own p (proper v) (length t) b, after_length b m, whole p (proper v) (length t) b))

    still : (n : ℕ) → number_of h t c ≡ n → (n ≡ 0 → ⊥) → (q : Result Applied Refusal) → said h q ≡ refused_with h n
        → PostsKnown v h h t t q
    still n e nz q eq = record { posts = rw eq (refusal n e nz); audited = w }

    -- refused by a check of its own
    pub post_refused : (why : Refusal) → Refusals.number_of why ≡ checked → (q : Result Applied Refusal)
        → IsErrAnd q (λ (other : Refusal). other ≡ why) → PostsKnown v h h t t q
    post_refused why e q eq =
        let u : number_of h t c ≡ Refusals.number_of why =
        decided ∙ rw (← e) (go (Refusals.number_of why) (some_number why)) in
        still _ u (some_number why) q (ap (said h) (is_refusal q why eq))
      where
        go : (n : ℕ) → (n ≡ 0 → ⊥) → if_zero n (cond full_now 11 0) n ≡ n
        go zero nz = absurd (nz refl)
        go (suc n) nz = refl

    -- Past its checks: its motion, and the pieces were moved or there was no place.
    module _ (z : 0 ≡ checked) (n : Motion) (en : n ≡ motion p (of_head h)) (f : Carriable h n)
        (t' : List ℕ) (o : Option Applied) (moves : Moves (places_of t) n.moves (takes b n) t t' o) where
      n_is : n ≡ m
      n_is = en ∙ ap (motion p) standing

      by_place : number_of h t c ≡ cond full_now 11 0
      by_place = decided ∙ rw (sym z)

      -- there was no place
      pub post_full : (why : Refusal) → Err why ≡ ok_or o TableFull → (q : Result Applied Refusal)
          → IsErrAnd q (λ (other : Refusal). other ≡ why) → PostsKnown v h h t t' q
      unfolding applied table_left
      post_full why ew q eq = go full_now refl
        where
          mo : Moves (places_of t) m.moves (takes b m) t t' o
          mo = rw n_is at moves

          go : (x : Bool) → full_now ≡ x → PostsKnown v h h t t' q
          go true e = subst (λ (s : List ℕ). PostsKnown v h h t s q) (sym (mo.table ∙ rw e))
              (still 11 (by_place ∙ rw e) (λ u. omega arith) q (ap (said h) (is_refusal q why eq) ∙ grind (arith, mo.answer)))
          go false e = absurd (grind (arith, mo.answer))

      -- there was one
      module _ (a : Applied) (ea : o ≡ Some a) where
        had_place : full_now ≡ false
        unfolding applied
        had_place = let e = rw n_is at moves.answer in grind arith

        number_zero : number_of h t c ≡ 0
        number_zero = by_place ∙ rw had_place

        pub post_countable : Countable h n a
        post_countable = countable h t w n f a (sym moves.answer ∙ ea)

        sized : SizedBook ((meaning c).next b)
        sized =
            let r = rw n_is at f.room in
            let l = rw n_is at f.tally in
            record { light = motion_light b m k.light.light (rw (← k.balance) r); tally = l }

        pub post_made : (h' : Head) → h' ≡ next_head h n a → PostsKnown v h h' t t' (Ok a)
        unfolding applied table_left takes
        post_made h' eh =
            let o' = accepted_on h t c number_zero in
            let s =
            (keeps (length t) b c k.sound (sym (number_same (length t) h t b k.on k.sound c) ∙ number_zero)).sound.sound in
            let u : Holders h.vessels (pieces_after b m) = all_map (λ q g. g.holder_in) s in
            let i = next_head_is h t w m (rw n_is at f.source_in) (rw n_is at f.destination_in) u in
            let mo : Moves (places_of t) m.moves (takes b m) t t' o = rw n_is at moves in
            let ae : a ≡ accepted m.moves (takes b m) = grind (arith, mo.answer, had_place) in
            let he : h' ≡ head_of (book_after b m) =
            eh ∙ ap (λ (x : Motion). next_head h x a) n_is ∙ ap (next_head h m) ae ∙ i in
            let posts : Posts h c t t' (said h' (Ok a)) =
            record { answer = rw o' (rw (he, ae) refl); table = rw o' (mo.table ∙ rw had_place) } in
            let after = audited_after h t w c (λ e. sized) in
            record { posts = posts; audited = rw (ap (λ (r : Transferred). r.head) posts.answer, posts.table) after }

-- a tip's answer is less
pub tips : (h : Head) (y : Tip) (t t' : List ℕ) (r : Transferred) (z : Reply) → Posts h (tip y) t t' r
    → z ≡ record { number = r.number; head = r.head } → Tips h y t t' z
tips h y t t' r z p e =
    record { answer = e ∙ ap (λ (a : Transferred). record { number = a.number; head = a.head }) p.answer; table = p.table }
