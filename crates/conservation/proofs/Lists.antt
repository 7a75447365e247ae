-- THE CONSERVATION THEOREM: one claim about a whole list of calls, on the head of an accepted opening and a table of any
-- length and content. An instance of the one induction over lists (book/proofs/Along.antt): what is kept is that the
-- weigh book walks beside the book.
-- Assumes nothing.
use Rattle.std.proofs.Common.{◌≡◌, refl, ap, false, List, [], ◌∷◌, ℕ, zero, suc, ◌+◌, ◌≤◌, arith, length, ◌∙◌}
use Rattle.table.specs.Table.{places_of, places_in}
use Rattle.book.specs.Head.{Book, opened, opening}
use Rattle.book.specs.Calls.{Call, meaning}
use Rattle.conservation.specs.WeighBook.{WeighBook, weighing, blank, feed, forecast}
use Rattle.book.specs.Lists.{Entry, Journal, calls_on, all_asked, answered, transfers, tips, evens, stirs}
use Rattle.conservation.specs.Conservation.{follow, numbers, Demand3}
use Rattle.book.proofs.Sound.{number, SoundBook, keeps, count_kept}
use Rattle.conservation.proofs.Beside.{Beside, Walks, walks}
use Rattle.book.proofs.Memory.{back, adds}
use Rattle.book.proofs.Along.{step, entry, Ends, from_opening}

-- What holds of a journal, from the book b and the weigh book w on.
record Follows (len : ℕ) (b : Book) (w : WeighBook) (es : List Entry) (final : Book) : Type 0 where
  in_turn : final ≡ follow b (answered es)
  beside : Beside final (feed w (answered es))
  tally : final.accepted ≡ transfers (answered es) + b.accepted
  count : stirs es ≡ false → length final.pieces + evens es + b.accepted ≡ length b.pieces + final.accepted
  forecasts : stirs es ≡ false → length b.pieces + transfers (all_asked es) ≤ places_in len
      → (1 ≤ tips (all_asked es) → 1 ≤ places_in len) → numbers es ≡ forecast w (all_asked es)
  -- and so what is refused does not move the weigh book either
  fed : stirs es ≡ false → length b.pieces + transfers (all_asked es) ≤ places_in len
      → (1 ≤ tips (all_asked es) → 1 ≤ places_in len) → feed w (answered es) ≡ feed w (all_asked es)

module _ (len : ℕ) where
  abbrev Followed : Book → List Entry → Book → Type 0
  Followed b es z = (w : WeighBook) → Beside b w → Follows len b w es z

  none : (b : Book) → Followed b [] b
  unfolding follow feed forecast
  none b w r =
      record { in_turn = refl; beside = r; tally = omega arith; count = λ u. omega arith; forecasts = λ u h k. refl; fed = λ u h k. refl }

  more : (b : Book) (c : Call) (es : List Entry) (z : Book) → SoundBook len b → Followed (step len b c) es z
      → Followed b (entry len b c ∷ es) z
  unfolding follow feed forecast
  more b c es z o rest w r = go (number len b c) refl
    where
      s : Walks len b w c
      s = walks len b w c r

      go : (n : ℕ) → number len b c ≡ n → Follows len b w (entry len b c ∷ es) z
      go zero e =
          let k = keeps len b c o e in
          let a = s.accepts e in
          let next : Followed ((meaning c).next b) es z = rw e at rest in
          let i = next ((weighing c).next w) a.beside in
          let count : stirs (entry len b c ∷ es) ≡ false
          → length ((meaning c).next b).pieces + (meaning c).even b ≡ length b.pieces + (meaning c).counts =
          λ q. count_kept len b c (grind (arith, e)) in
          record {
            in_turn = rw e i.in_turn;
            beside = rw (e, feed, a.weighs, feed) i.beside;
            tally = rw e (omega (arith, i.tally, k.tally));
            count = λ q. rw e (let u = i.count (grind arith) in let v = count q in omega (arith, u, v, k.tally));
            forecasts =
                λ q h f. rw (e, a.weighs, i.forecasts (grind arith) (let v = count q in omega arith) (λ u. f (omega arith)));
            fed =
                λ q h f. rw (e, feed, a.weighs) (i.fed (grind arith) (let v = count q in omega arith) (λ u. f (omega arith)));
          }
      go (suc n) e =
          let next : Followed b es z = rw e at rest in
          let i = next w r in
          record {
            in_turn = rw e i.in_turn;
            beside = rw e i.beside;
            tally = rw e i.tally;
            count = λ q. rw e (let u = i.count (grind arith) in omega arith);
            forecasts = λ q h f.
                let z = s.foretells (grind arith) (omega arith) (λ u. f (omega arith)) in
                rw (e, z.stays n e, ← e, z.same (numbers es), i.forecasts (grind arith) (omega arith) (λ u. f (omega arith)));
            fed = λ q h f.
                let z = s.foretells (grind arith) (omega arith) (λ u. f (omega arith)) in
                rw (e, feed, z.stays n e) (i.fed (grind arith) (omega arith) (λ u. f (omega arith)));
          }

-- the theorem, from the fresh head
module _ (rule size : ℕ) (e : (opening rule size).number ≡ 0) (t : List ℕ) (cs : List Call) where
  abbrev journal : Journal
  journal = calls_on (opening rule size).head t cs

  ended : Ends (length t) (Followed (length t)) (opened rule size) cs journal
  ended = from_opening (length t) (Followed (length t)) (none (length t)) (more (length t)) rule size e t refl cs

  followed : Follows (length t) (opened rule size) (blank size) journal.log ended.final
  followed =
      ended.related (blank size) (record { same_size = refl; weights = λ v. refl; births = λ o t. refl; same_last = refl; same_count = refl })

  -- The theorem: for every opening that is accepted, every table and every list of calls.
  pub demand_3 : Demand3 rule size t cs (calls_on (opening rule size).head t cs)
  unfolding places_in
  demand_3 =
      let n = ended in
      let f = followed in
      let k = back (length t) _ _ _ n.on n.sound in
      record {
        in_turn = k ∙ f.in_turn;
        vessel_sums = λ v. rw (ap (λ b. b.pieces) k) (f.beside.weights v);
        birth_sums = λ o m. rw (ap (λ b. b.pieces) k) (f.beside.births o m);
        even_count = λ q. rw n.on.head_is (let u = f.count q in omega (arith, u));
        accepted_count = rw n.on.head_is (omega (arith, f.tally));
        forecasts = λ s h q.
            f.forecasts s (rw n.asked_is (omega arith)) (rw n.asked_is (λ u. let k : 4 ≤ length t = q u in omega arith)) ∙ ap (forecast (blank size)) n.asked_is;
        book_adds_up = adds (length t) _ _ _ n.on n.sound;
      }

  -- Where rule 4 is never used and there are places enough, the weigh book fed every call, the refused ones too, is
  -- what it is fed the accepted ones.
  pub fed_all : stirs journal.log ≡ false → transfers cs ≤ places_of t → (1 ≤ tips cs → 4 ≤ length t)
      → feed (blank size) (answered journal.log) ≡ feed (blank size) cs
  unfolding places_in
  fed_all s h q =
      let n = ended in
      followed.fed s (rw n.asked_is (omega arith)) (rw n.asked_is (λ u. let k : 4 ≤ length t = q u in omega arith)) ∙ ap (feed (blank size)) n.asked_is
