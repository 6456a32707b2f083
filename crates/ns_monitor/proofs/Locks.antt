-- A seat sets its own flag, before it queues, and finds it cleared.
use Rattle.std.proofs.Common.{Bool, None, Some, ap, cond, false, ne_eqb, subst, sym, true, ℕ, ◌∙◌, ◌≡◌, ◌≢◌}
use Rattle.ns_monitor.proofs.Prelude.{AcquireLoad, Aim, ArmFlag, Arrival, AwaitWake, Flag, GateView, HasKeptItsQueues, HasReached, HasSince, HasUnchangedQueues, Idle, InAcquire, IsAtPlace, Made, On, Performed, SeatOf, Truths, Walk, arrival_of, awaits, goes_on, got_of, has_queues, nowhere_now}
use Rattle.ns_monitor.proofs.Prelude.{request_for, since, stays_arming, still_carries, the, times}

-- It has done so with the queues in hand, goes on to this place, and stands in no list.
pub record HasArmed {C : Type 0} {N : ℕ} (truths : Truths C) (place : Walk C) (me now : SeatOf C N) : Type 0 where
  pub at : IsAtPlace truths place now
  pub taken : HasUnchangedQueues now
  pub kept : HasKeptItsQueues me now
  pub nowhere : times (the now.0).at.seat (the now.0).stood ≡ 0
  pub since : HasSince None (the me.0) (the now.0)

pub arms : {C : Type 0} {N : ℕ} (truths : Truths C) (walk place : Walk C) (me now : SeatOf C N) → got_of N walk Made ≡ On place → has_queues (Some walk) ≡ true → has_queues (Some place) ≡ true →
    awaits (Some place) ≡ false → IsAtPlace truths walk me → HasUnchangedQueues me → Performed truths None ArmFlag Made me now → HasArmed truths place me now
arms {C} {N} truths walk place me now goes has stays waits at taken p =
    let s = stays_arming truths me now p (ap has_queues at.walks ∙ has) in
    let there = goes_on truths walk ArmFlag Made (On place) me now at goes (λ e. absurd (let f : true ≡ false = sym stays ∙ e in cc)) p in
    record { at = there; taken = still_carries (λ (v : GateView C N). v.stood) me now s.stood s taken; kept = s; nowhere = nowhere_now truths ArmFlag Made me now p (ap awaits there.walks ∙ waits); since = since truths None ArmFlag Made me now p }

-- One that has queued, and finds its flag cleared, goes to acquire.
pub comes_to_acquire : {C : Type 0} {N : ℕ} (truths : Truths C) (aim : Aim C) (tries flag : ℕ) (arrival : Arrival) (me : SeatOf C N) → flag ≢ 1 → arrival ≡ arrival_of tries flag →
    HasReached truths (request_for aim) (got_of N (InAcquire aim (AwaitWake tries)) (Flag flag)) me → IsAtPlace truths (InAcquire aim (AcquireLoad arrival)) me
comes_to_acquire truths aim tries flag arrival me clear how led =
    subst (λ a. IsAtPlace truths (InAcquire aim (AcquireLoad a)) me) (sym how)
    (subst (λ (b : Bool). HasReached truths (request_for aim) (cond b (Idle (InAcquire aim (AwaitWake tries))) (On (InAcquire aim (AcquireLoad (arrival_of tries flag))))) me) (ne_eqb flag 1 clear) led)
