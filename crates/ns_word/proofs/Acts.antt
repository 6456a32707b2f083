-- The act that a lawful place wants may be made.
use Rattle.std.proofs.Common.{Bool, IsSome, List, None, Option, Some, [], ap, arith, eq-eqb, false, refl, subst, true, ℕ, ◌++◌, ◌+◌, ◌<◌, ◌∷◌, ◌≡◌, ◌≤◌}
use Rattle.ns_word.proofs.Prelude.{AcquireExchange, ActFits, AreApart, Arm, ArmToWait, AwaitWake, AwaitWakeInWait, AwaitWakeToLeave, CanWait, EachFits, Event, GetLoad, HasList, Held, InAcquire, InCells, InLeaving, InQueuing, InRelease, InShow, InSignal, InTry, InWait, IsForCondition, IsInRange}
use Rattle.ns_word.proofs.Prelude.{IsLawful, IsUnmet, Leave, LoadToScan, LockState, OnCondition, OnVariables, Owed, OwesOne, Pay, PayInWait, PayTheWoken, PlaceFits, Queue, QueueToWait, QuietCells, QuietLast, ReleaseExchange, ReturnShown, ScanAndRelease, ScanCells, SeatView, SetLoad, SetStore}
use Rattle.ns_word.proofs.Prelude.{Subject, Take, TakeToLeave, TakeToQueue, TakeToScan, TakeToShow, TakeToWake, TestCells, TestLast, Tests, Truths, TryAcquire, ViewFits, Visit, Wait, WaitFits, WaitPlace, WakeAndReturn, Walk, awaits, every_parts, has_some, judge_of, part_of, pays, standing_after}
use Rattle.ns_word.proofs.Prelude.{times, times_among, walk_at, want_of, want_waiting, ◌∙◌}
use Rattle.ns_word.proofs.Bases.{apart_parts, none_of, walk_here}
use Rattle.ns_word.proofs.Ranges.{else_not, owed_below, readers_fewer}

-- ---- the list of a wait is one that there is

module _ {C : Type 0} where
  condition_in_range : (on : Subject C) → IsForCondition on → IsInRange on
  condition_in_range (OnCondition c) p = tt
  condition_in_range (OnVariables variables) p = absurd p

  unmet_in_range : (truths : Truths C) (on : Subject C) (row : List ℕ) → IsUnmet truths on row → IsInRange on
  unmet_in_range truths (OnCondition c) row p = tt
  unmet_in_range truths (OnVariables variables) row p = p

module _ {C : Type 0} {N : ℕ} (truths : Truths C) where
  pub can_in_range : (wait : Wait C) (again : Bool) (held : Option (Held C N)) → CanWait truths wait again held → IsInRange wait.on
  can_in_range wait again None p = absurd p
  can_in_range wait again (Some held) p = unmet_in_range truths wait.on held.row p.unmet

  wait_in_range : (wait : Wait C) (at_place : WaitPlace) (held : Option (Held C N)) → WaitFits truths wait at_place held → IsInRange wait.on
  wait_in_range wait (TestCells visit i) held p = condition_in_range wait.on p.2
  wait_in_range wait (TestLast visit i) held p = condition_in_range wait.on p.2
  wait_in_range wait (InQueuing again place) held p = can_in_range wait again held p.0
  wait_in_range wait (InLeaving cause place) held p = p.2
  wait_in_range wait other held p = p.1

  list_there : (walk : Walk C) (held : Option (Held C N)) → PlaceFits truths (Some walk) held → HasList walk
  list_there (InWait wait place) held p = wait_in_range wait place held p.0
  list_there (InSignal waking k place) held p = p.1
  list_there other held p = tt

-- ---- each act

module _ {C : Type 0} {N : ℕ} (truths : Truths C) (seats : ℕ) (few : seats ≤ 64) (h : List (Event C N)) (s : LockState C N) (front : List (SeatView C N)) (view : SeatView C N) (back : List (SeatView C N)) (split : s.views ≡ front ++ view ∷ back) (p : IsLawful truths seats h s) where
  -- what the law says of a seat's view
  pub view_fits : ViewFits truths seats (standing_after h) s.row view
  view_fits = (every_parts (ViewFits truths seats (standing_after h) s.row) front view back (subst (λ vs. EachFits truths seats (standing_after h) s.row vs) split p.one_history.each)).1

  pub walk_is : walk_at view.seat s.views ≡ view.walk
  walk_is = ap (walk_at view.seat) split ∙ walk_here front view back (apart_parts front view back (subst (λ vs. AreApart vs) split p.apart)).0

  -- a seat that doesn't wait stands nowhere
  pub stands_nowhere : awaits view.walk ≡ false → times view.seat s.lists ≡ 0
  stands_nowhere a = (else_not s.lists s.flags s.views view.seat p.waiters_placed (ap awaits walk_is ∙ a)).0

  -- a seat that pays owes a wake, to a seat
  owes_one : (owed : List Owed) → view.owed ≡ owed → has_some owed ≡ true → OwesOne seats owed
  owes_one [] e some = absurd (cc)
  owes_one (x ∷ xs) e some =
      let one : times_among x.seat view.owed ≡ 1 + times_among x.seat xs = ap (times_among x.seat) e ∙ rw (eq-eqb x.seat x.seat refl) refl in
      owed_below truths seats h s p.waiters_placed p.one_history.each front view back split x.seat (omega (arith, one))

  -- a section is in hand where a condition is tested
  tests_some : (wait : Wait C) (visit : Visit) (held : Option (Held C N)) → Tests truths wait visit held → IsSome held
  tests_some wait visit None p = absurd p
  tests_some wait visit (Some held) p = refl

  judges : (on : Subject C) (i : ℕ) → IsSome view.held → i < N → ActFits truths seats view.seat (judge_of on i) (part_of s view.held view.owed)
  judges (OnCondition c) i some less = (some, less)
  judges (OnVariables variables) i some less = less

  waiting_at : (wait : Wait C) (at_place : WaitPlace) → view.walk ≡ Some (InWait wait at_place) → WaitFits truths wait at_place view.held → has_some view.owed ≡ pays (Some (InWait wait at_place)) → ActFits truths seats view.seat (want_waiting wait at_place) (part_of s view.held view.owed)
  waiting_at wait (TestCells visit i) e place owes = omega (arith, place.1)
  waiting_at wait (TestLast visit i) e place owes = judges wait.on i (tests_some wait visit view.held place.0) (omega (arith, place.1))
  waiting_at wait (InQueuing again (Take last)) e place owes = place.1
  waiting_at wait (InQueuing again (ArmToWait last)) e place owes = view_fits.in_range
  waiting_at wait (InQueuing again (LoadToScan last i)) e place owes = place.1
  waiting_at wait (InQueuing again (QueueToWait last)) e place owes = (place.0, none_of view.owed owes, view_fits.in_range, stands_nowhere (ap awaits e))
  waiting_at wait PayInWait e place owes = owes_one view.owed refl owes
  waiting_at wait AwaitWakeInWait e place owes = view_fits.in_range
  waiting_at wait (InLeaving cause (TakeToLeave last)) e place owes = place.1
  waiting_at wait (InLeaving cause (Leave last)) e place owes = (view_fits.in_range, tt)
  waiting_at wait (InLeaving cause AwaitWakeToLeave) e place owes = view_fits.in_range
  waiting_at wait other e place owes = tt

  fits_at : (walk : Walk C) → view.walk ≡ Some walk → PlaceFits truths (Some walk) view.held → has_some view.owed ≡ pays (Some walk) → ActFits truths seats view.seat (want_of walk) (part_of s view.held view.owed)
  fits_at (InTry mode (TryAcquire last)) e place owes = (place.0, place.1, omega (arith, readers_fewer truths seats h s p front view back split place.0, few))
  fits_at (InAcquire aim (AcquireExchange arrival last)) e place owes = (place.0, place.1, omega (arith, readers_fewer truths seats h s p front view back split place.0, few))
  fits_at (InAcquire aim (TakeToQueue arrival last)) e place owes = place.1.0
  fits_at (InAcquire aim (Arm arrival last)) e place owes = view_fits.in_range
  fits_at (InAcquire aim (Queue arrival last)) e place owes = (view_fits.in_range, stands_nowhere (ap awaits e))
  fits_at (InAcquire aim (AwaitWake tries)) e place owes = view_fits.in_range
  fits_at (InCells (QuietCells judging i)) e place owes = omega (arith, place.0.1)
  fits_at (InCells (QuietLast judging i)) e place owes = (place.0.0, omega (arith, place.0.1))
  fits_at (InRelease releasing (ReleaseExchange last)) e place owes = place.0
  fits_at (InRelease releasing (TakeToScan last)) e place owes = place.1
  fits_at (InRelease releasing (ScanCells last i)) e place owes = place.1
  fits_at (InRelease releasing (ScanAndRelease last)) e place owes = (place, none_of view.owed owes)
  fits_at (InRelease releasing Pay) e place owes = owes_one view.owed refl owes
  fits_at (InCells (GetLoad i)) e place owes = place.0.1
  fits_at (InCells (SetLoad i v)) e place owes = place.0.1
  fits_at (InCells (SetStore i v)) e place owes = place.0
  fits_at (InWait wait at_place) e place owes = waiting_at wait at_place e place.0 owes
  fits_at (InSignal waking k (TakeToWake last)) e place owes = place.0
  fits_at (InSignal waking k (WakeAndReturn last)) e place owes = (view_fits.in_range, place.1)
  fits_at (InSignal waking k PayTheWoken) e place owes = owes_one view.owed refl owes
  fits_at (InShow (TakeToShow last)) e place owes = place.0
  fits_at (InShow (ReturnShown last)) e place owes = (view_fits.in_range, tt)
  fits_at walk e place owes = tt

  -- The act that the seat's walk wants may be made.
  pub act_fits : (walk : Walk C) → view.walk ≡ Some walk → ActFits truths seats view.seat (want_of walk) (part_of s view.held view.owed)
  act_fits walk e = fits_at walk e (subst (λ w. PlaceFits truths w view.held) e view_fits.place) (view_fits.owes.0 ∙ ap pays e)

  -- The list that it names is one that there is.
  pub has_list : (walk : Walk C) → view.walk ≡ Some walk → HasList walk
  has_list walk e = list_there truths walk view.held (subst (λ w. PlaceFits truths w view.held) e view_fits.place)
