-- Which seats the law speaks of, and how many: those that wait or are owed a wake are seats, each stands once, there are no more than were made, and not all of 64 read while one asks to.
use Rattle.std.proofs.Common.{List, None, [], ap, arith, eqb, false, inl, inr, length, length-append, map, ne_eqb, refl, subst, sym, true, ℕ, ◌++◌, ◌+◌, ◌<◌, ◌∷◌, ◌≡◌, ◌≤◌}
use Rattle.ns_word.proofs.Prelude.{AreApart, Cv, EachFits, Event, IsLawful, IsOrderly, Lists, LockState, NoneIs, SeatView, Standing, Truths, WaitersPlaced, awaits, beside, cases_eq, counts_in, few, is_reading, is_unwoken, length-map, list_any, one_if, one_most, owed_to, readers, standing_after}
use Rattle.ns_word.proofs.Prelude.{times, times_among, times_in, total_amid, waiters_of, walk_at, ◌∙◌}
use Rattle.ns_word.proofs.Bases.{counts_none, counts_there, owed_at, view_with}
use Rattle.ns_word.proofs.Knows.{due_awaits}
use Rattle.std.specs.List.{AllByRecursion, IsDistinct}
use Rattle.std.proofs.lemmas.Map.Steps.{length-le_from_distinct_below}

-- ---- seats that wait

module _ {C : Type 0} {N : ℕ} (truths : Truths C) (seats : ℕ) (now : Standing C) (row : List ℕ) where
  pub waiting_below : (seat : ℕ) (views : List (SeatView C N)) → EachFits truths seats now row views → awaits (walk_at seat views) ≡ true → seat < seats
  waiting_below seat views p a = let view = view_with truths seats now row (λ walk. awaits walk ≡ true) seat views (λ e. absurd (cc)) p a in subst (λ s. s < seats) view.1 view.3.in_range

module _ {C : Type 0} {N : ℕ} (lists : Lists C) (flags : ℕ → ℕ) (views : List (SeatView C N)) where
  -- any other stands nowhere, and is owed nothing
  pub else_not : (seat : ℕ) → WaitersPlaced lists flags views → awaits (walk_at seat views) ≡ false → (times seat lists ≡ 0) × (owed_to seat views ≡ 0)
  else_not seat p a =
      let sum : counts_in seat lists + owed_to seat views ≡ 0 = p.placed seat ∙ rw a refl in (counts_none seat lists (omega (arith, sum)), omega (arith, sum))

  -- so one that stands somewhere or is owed a wake waits
  pub placed_awaits : (seat : ℕ) → WaitersPlaced lists flags views → 1 ≤ counts_in seat lists + owed_to seat views → awaits (walk_at seat views) ≡ true
  placed_awaits seat p some =
      let sum : counts_in seat lists + owed_to seat views ≡ one_if (is_unwoken (walk_at seat views) (flags seat)) = p.placed seat in
      due_awaits (walk_at seat views) (flags seat) (omega (arith, sum, some))

module _ {C : Type 0} {N : ℕ} (truths : Truths C) (seats : ℕ) (h : List (Event C N)) (s : LockState C N) (placed : WaitersPlaced s.lists s.flags s.views) (each : EachFits truths seats (standing_after h) s.row s.views) where
  -- no seat counts twice in the lists
  pub counts_once : (seat : ℕ) → counts_in seat s.lists ≤ 1
  counts_once seat =
      let sum : counts_in seat s.lists + owed_to seat s.views ≡ one_if (is_unwoken (walk_at seat s.views) (s.flags seat)) = placed.placed seat in
      let most = one_most (is_unwoken (walk_at seat s.views) (s.flags seat)) in
      omega (arith, sum, most)

  pub placed_below : (seat : ℕ) → 1 ≤ counts_in seat s.lists + owed_to seat s.views → seat < seats
  placed_below seat some = waiting_below truths seats (standing_after h) s.row seat s.views each (placed_awaits s.lists s.flags s.views seat placed some)

  -- and only seats do
  pub stands_below : (seat : ℕ) → seats ≤ seat → times seat s.lists ≡ 0
  stands_below seat high = counts_none seat s.lists (elim (cases_eq (counts_in seat s.lists) 0) [
    | inl none ↦ none
    | inr some ↦ let low = placed_below seat (omega (arith, some)) in absurd (omega (arith, low, high))
  ])

  -- nor does one stand in the lock list and in that of a variable
  pub beside_once : (seat k : ℕ) → k < 4 → beside s.lists seat k ≤ 1
  beside_once seat k low = elim (cases_eq (times_in seat (waiters_of s.lists (Cv k))) 0) [
    | inl none ↦ omega (arith, none, counts_once seat)
    | inr some ↦ let there = counts_there seat k s.lists placed.four low (omega (arith, some)) in omega (arith, there, counts_once seat, placed.once seat k low)
  ]

  -- so the lists are as they are kept
  pub lists_orderly : seats ≤ 64 → IsOrderly s.lists
  lists_orderly few = record { four = placed.four; once = beside_once; below = λ seat high. stands_below seat (omega (arith, few, high)) }

  -- a seat that a view owes a wake is one
  pub owed_below : (front : List (SeatView C N)) (view : SeatView C N) (back : List (SeatView C N)) → s.views ≡ front ++ view ∷ back → (seat : ℕ) → 1 ≤ times_among seat view.owed → seat < seats
  owed_below front view back split seat some =
      let all : owed_to seat s.views ≡ owed_to seat front + (times_among seat view.owed + owed_to seat back) = ap (owed_to seat) split ∙ owed_at seat front view back in
      placed_below seat (omega (arith, all, some))

-- ---- how many there are

module _ {C : Type 0} {N : ℕ} where
  abbrev numbers : List (SeatView C N) → List ℕ
  numbers views = map (λ (v : SeatView C N). v.seat) views

  apart_from : (seat : ℕ) (views : List (SeatView C N)) → NoneIs seat views → AllByRecursion (λ n. eqb seat n ≡ false) (numbers views)
  apart_from seat [] p = tt
  apart_from seat (u ∷ views) p = (ne_eqb seat u.seat (λ e. p.0 (sym e)), apart_from seat views p.1)

  distinct : (views : List (SeatView C N)) → AreApart views → IsDistinct eqb (numbers views)
  unfolding IsDistinct
  distinct [] p = tt
  distinct (u ∷ views) p = (apart_from u.seat views p.0, distinct views p.1)

  module _ (truths : Truths C) (seats : ℕ) (now : Standing C) (row : List ℕ) where
    below : (seat : ℕ) (views : List (SeatView C N)) → EachFits truths seats now row views → list_any (eqb seat) (numbers views) ≡ true → seat < seats
    below seat [] p is = absurd (cc)
    below seat (u ∷ views) p is = elim (cases_eq seat u.seat) [
      | inl e ↦ omega (arith, p.0.in_range, e)
      | inr ne ↦ below seat views p.1 (rw (ne_eqb seat u.seat ne) at is)
    ]

    -- no more views than seats
    pub seats_most : (views : List (SeatView C N)) → AreApart views → EachFits truths seats now row views → length views ≤ seats
    seats_most views apart p = omega (arith, length-le_from_distinct_below (numbers views) seats (distinct views apart) (λ seat. below seat views p), length-map views (λ (v : SeatView C N). v.seat))

module _ {C : Type 0} {N : ℕ} where
  readers_among : (views : List (SeatView C N)) → readers views ≤ length views
  readers_among [] = omega arith
  readers_among (u ∷ views) = omega (arith, readers_among views, one_most (is_reading u.held))

module _ {C : Type 0} {N : ℕ} (truths : Truths C) (seats : ℕ) (h : List (Event C N)) (s : LockState C N) (p : IsLawful truths seats h s) where
  -- the word counts no more readers than there are seats
  pub readers_most : s.word.readers ≤ seats
  readers_most = omega (arith, p.readers_counted, readers_among s.views, seats_most truths seats (standing_after h) s.row s.views p.apart p.one_history.each)

  -- and fewer where a seat has no section in hand
  pub readers_fewer : (front : List (SeatView C N)) (view : SeatView C N) (back : List (SeatView C N)) → s.views ≡ front ++ view ∷ back → view.held ≡ None → s.word.readers < seats
  readers_fewer front view back split none =
      let count : readers s.views ≡ readers front + (one_if (is_reading view.held) + readers back) = ap (λ vs. readers vs) split ∙ total_amid (λ (u : SeatView C N). one_if (is_reading u.held)) front view back in
      let here : one_if (is_reading view.held) ≡ 0 = ap (λ held. one_if (is_reading held)) none in
      let all : length s.views ≡ length front + length (view ∷ back) = ap length split ∙ length-append front (view ∷ back) in
      omega (arith, p.readers_counted, count, here, all, readers_among front, readers_among back, seats_most truths seats (standing_after h) s.row s.views p.apart p.one_history.each)
