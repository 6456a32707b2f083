-- Which wakes the list of a variable allows.
use Rattle.std.proofs.Common.{Bool, List, [], ap, arith, eqb, eqb-true, false, inl, inr, min, ne_eqb, not, refl, subst, true, ℕ, ◌&&◌, ◌+◌, ◌||◌, ◌∙◌, ◌∷◌, ◌≡◌, ◌≤◌, ◌⊎◌}
use Rattle.ns_queue.proofs.Prelude.{cases_Bool, AreWaiting, Cond, HaveSeats, Idle, IsLegalBroadcast, IsLegalSignal, Left, Mode, Phase, WaitFor, Waiter, Waiting, WaitsAmong, Woken, beq, cases_eq, count_never, count_only, count_same, count_split, filter, has, in_more, is_in, is_waiting, is_waiting_as}
use Rattle.ns_queue.proofs.Prelude.{none_in, one_if, readers_and_a_writer, reads, seats_of, signaled_of, taken_set, times_in, total, waiting_as, woken_as, woken_strangers, writes}
use Rattle.ns_queue.proofs.Seats.{own_times, stands_low, times_in-cons}
use Rattle.ns_queue.proofs.Taken.{in_list, not_in_list, in_stands, once_signaled, below_signaled, every_signaled}

-- ---- tests of seats

and_first : (a b : Bool) → (a && b) ≡ true → a ≡ true
and_first true b e = refl
and_first false b e = e

none_but : (a b : Bool) → (a ≡ true → b ≡ true) → (a && not b) ≡ false
none_but true b f = rw (f refl) refl
none_but false b f = refl

none_other : (a b : Bool) → (b ≡ true → a ≡ true) → (not a && b) ≡ false
none_other a true f = rw (f refl) refl
none_other true false f = refl
none_other false false f = refl

and_kept : (a b : Bool) → (b ≡ true → a ≡ true) → b ≡ (a && b)
and_kept a true f = rw (f refl) refl
and_kept true false f = refl
and_kept false false f = refl

-- a test with one of two others, of which not both are true
one_of_both : (a b t : Bool) → (a ≡ true → b ≡ false) → one_if ((a || b) && t) ≡ one_if (a && t) + one_if (b && t)
one_of_both true b t f = rw (f refl) (omega arith)
one_of_both false b t f = omega arith

-- ---- the tallies of those whom a signal takes

module _ {C : Type 0} where
  -- how many of a list wait to write, or to read
  abbrev tally : Bool → List (Waiter C) → ℕ
  tally kind ws = total (λ w. one_if (beq kind (writes w))) ws

  -- one writer alone; or each reader, and with them one of the writers, if there are any
  abbrev IsFairChoice : List (Waiter C) → List (Waiter C) → Type 0
  IsFairChoice taken ws = ((tally true taken ≡ 1) × (tally false taken ≡ 0)) ⊎ ((tally true taken ≡ min (tally true ws) 1) × (tally false taken ≡ tally false ws))

  -- the readers of a list
  abbrev HasReaders : List (Waiter C) → Type 0
  HasReaders ws = (tally true (filter reads ws) ≡ 0) × (tally false (filter reads ws) ≡ tally false ws)

  only_readers : (ws : List (Waiter C)) → HasReaders ws
  only_readers [] = (refl, refl)
  only_readers (w ∷ ws) = let rest = only_readers ws in elim (cases_Bool (writes w)) [
    | inl alone ↦ rw alone (omega (arith, rest.0), omega (arith, rest.1))
    | inr reader ↦
        let none : ◌≡◌ {A = ℕ} (one_if (beq true (writes w))) 0 = ap (λ b. one_if (beq true b)) reader in
        let one : ◌≡◌ {A = ℕ} (one_if (beq false (writes w))) 1 = ap (λ b. one_if (beq false b)) reader in
        rw reader (omega (arith, rest.0, none), omega (arith, rest.1, one))
  ]

  -- the readers and a writer
  abbrev HasReadersAndWriter : List (Waiter C) → Type 0
  HasReadersAndWriter ws = (tally true (readers_and_a_writer ws) ≡ min (tally true ws) 1) × (tally false (readers_and_a_writer ws) ≡ tally false ws)

  with_a_writer : (ws : List (Waiter C)) → HasReadersAndWriter ws
  with_a_writer [] = (omega arith, refl)
  with_a_writer (w ∷ ws) = elim (cases_Bool (writes w)) [
    | inl alone ↦ let readers = only_readers ws in rw alone (omega (arith, readers.0), omega (arith, readers.1))
    | inr reader ↦ let rest = with_a_writer ws in rw reader (omega (arith, rest.0), omega (arith, rest.1))
  ]

  -- a signal's choice is fair
  fair_choice : (ws : List (Waiter C)) → IsFairChoice (signaled_of ws) ws
  fair_choice [] = inr (omega arith, refl)
  fair_choice (w ∷ ws) = elim (cases_Bool (writes w)) [
    | inl alone ↦ rw alone (inl (omega arith, omega arith))
    | inr reader ↦ let rest = with_a_writer ws in rw reader (inr (omega (arith, rest.0), omega (arith, rest.1)))
  ]

-- ---- the counts over the seats are tallies of the list

module _ {C : Type 0} where
  waits_as_any : (writes : Bool) (k : ℕ) (phase : Phase C) → is_waiting_as writes k phase ≡ true → is_waiting k phase ≡ true
  waits_as_any writes k (Waiting variables mode) e = and_first (has variables k) _ e
  waits_as_any writes k Idle e = absurd (cc)
  waits_as_any writes k (Cond c mode) e = absurd (cc)
  waits_as_any writes k (Woken j mode) e = absurd (cc)
  waits_as_any writes k (Left j mode) e = absurd (cc)

  first_apart : (w : Waiter C) (ws : List (Waiter C)) → times_in w.seat (w ∷ ws) ≤ 1 → (seat : ℕ) → eqb w.seat seat ≡ true → is_in (taken_set ws) seat ≡ false
  first_apart w ws once seat e = not_in_list ws seat (subst (λ s. times_in s ws ≡ 0) (eqb-true w.seat seat e) (omega (arith, own_times w ws, once)))

module _ {C : Type 0} (k : ℕ) (phases : ℕ → Phase C) where
  -- a seat that stands in the list waits
  pub stands_waiting : (ws : List (Waiter C)) (seat : ℕ) → WaitFor k phases ws → 1 ≤ times_in seat ws → (mode : Mode) × WaitsAmong k mode (phases seat)
  stands_waiting [] seat own here = absurd (omega (arith, here))
  stands_waiting (w ∷ ws) seat own here = elim (cases_eq w.seat seat) [
    | inl e ↦ (w.mode, subst (λ s. WaitsAmong k w.mode (phases s)) e own.0)
    | inr ne ↦ stands_waiting ws seat own.1 (let no : ◌≡◌ {A = ℕ} (one_if (eqb w.seat seat)) 0 = ap one_if (ne_eqb w.seat seat ne) in omega (arith, here, no, times_in-cons seat w ws))
  ]

  -- so it is told as waiting
  pub stands_waits : (ws : List (Waiter C)) (seat : ℕ) → WaitFor k phases ws → 1 ≤ times_in seat ws → is_waiting k (phases seat) ≡ true
  stands_waits ws seat own here = let waits = stands_waiting ws seat own here in rw waits.1.1 waits.1.2

  waits_as : (kind : Bool) (w : Waiter C) → WaitsAmong k w.mode (phases w.seat) → is_waiting_as kind k (phases w.seat) ≡ beq kind (writes w)
  waits_as kind w waits = rw (waits.1, waits.2) refl

  -- those of a list who wait to write, or to read
  woken_tally : (kind : Bool) (ws : List (Waiter C)) → WaitFor k phases ws → ((seat : ℕ) → times_in seat ws ≤ 1) → HaveSeats ws → woken_as kind k (taken_set ws) phases ≡ tally kind ws
  woken_tally kind [] own once below = count_never 64 _ (λ seat. rw (none_in seat) refl)
  woken_tally kind (w ∷ ws) own once below =
      let waits : ℕ → Bool = λ seat. is_waiting_as kind k (phases seat) in
      let rest = woken_tally kind ws own.1 (λ seat. omega (arith, once seat, times_in-cons seat w ws)) (λ seat high. omega (arith, below seat high, times_in-cons seat w ws)) in
      let split = count_split 64 (λ seat. is_in (taken_set (w ∷ ws)) seat && waits seat) (λ seat. eqb w.seat seat && waits seat) (λ seat. is_in (taken_set ws) seat && waits seat)
      (λ seat. rw (in_more w.seat (seats_of ws) seat) (one_of_both (eqb w.seat seat) (is_in (taken_set ws) seat) (waits seat) (first_apart w ws (once w.seat) seat))) in
      let first = count_only 64 w.seat waits (stands_low w.seat (w ∷ ws) below (omega (arith, own_times w ws))) ∙ ap one_if (waits_as kind w own.0) in
      split ∙ omega (arith, first, rest)

  -- all who wait to write, or to read
  waiting_tally : (kind : Bool) (ws : List (Waiter C)) → AreWaiting k phases ws → waiting_as kind k phases ≡ tally kind ws
  waiting_tally kind ws are =
      count_same 64 _ _ (λ seat. and_kept (is_in (taken_set ws) seat) (is_waiting_as kind k (phases seat)) (λ waits. in_list ws seat (are.all seat (waits_as_any kind k (phases seat) waits))))
      ∙ woken_tally kind ws are.own are.once are.below

  -- ---- what a wake may be

  no_strangers : (ws : List (Waiter C)) → WaitFor k phases ws → woken_strangers k (taken_set ws) phases ≡ 0
  no_strangers ws own = count_never 64 _ (λ seat. none_but (is_in (taken_set ws) seat) (is_waiting k (phases seat)) (λ is. stands_waits ws seat own (in_stands ws seat is)))

  -- a signal may wake those whom it takes
  pub signal_legal : (ws : List (Waiter C)) → AreWaiting k phases ws → IsLegalSignal k (taken_set (signaled_of ws)) phases
  signal_legal ws are =
      let taken = signaled_of ws in
      let own = every_signaled (λ w. WaitsAmong k w.mode (phases w.seat)) ws are.own in
      let once = once_signaled ws are.once in
      let below = below_signaled ws are.below in
      record {
        no_stranger = no_strangers taken own;
        chosen = rw (woken_tally true taken own once below, woken_tally false taken own once below, waiting_tally true ws are, waiting_tally false ws are) (fair_choice ws);
      }

  -- a broadcast may wake all of them
  pub broadcast_legal : (ws : List (Waiter C)) → AreWaiting k phases ws → IsLegalBroadcast k (taken_set ws) phases
  broadcast_legal ws are = record {
    no_stranger = no_strangers ws are.own;
    nobody_left = count_never 64 _ (λ seat. none_other (is_in (taken_set ws) seat) (is_waiting k (phases seat)) (λ waits. in_list ws seat (are.all seat waits)));
  }
