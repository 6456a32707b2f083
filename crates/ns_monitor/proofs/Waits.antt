-- A wait outside, step by step: it queues, waits to be woken or ended, and may leave its list.
use Rattle.std.proofs.Common.{Bool, None, Option, Some, ap, cond, false, ne_eqb, refl, subst, sym, true, ℕ, ◌∙◌, ◌≡◌, ◌≢◌}
use Rattle.ns_monitor.proofs.Prelude.{AcquireLoad, ArmFlag, ArmToWait, Arrival, AsFresh, Await, AwaitWakeInWait, AwaitWakeToLeave, Cause, Changed, Ended, Flag, ForWait, HasReached, HasTakenAt, Home, Idle, IfEnded, InAcquire, InLeaving, InQueuing, InWait, IsAtPlace, Leave, LeaveLoad, LeaveSelf}
use Rattle.ns_monitor.proofs.Prelude.{Load, LoadFlag, LoadToScan, Look, LookOut, Looked, Made, On, OnCondition, OnVariables, Outcome, Performed, QueueToWait, SeatOf, Subject, Truths, Wait, Word, armed_place, arrival_of, cond_both, found_back, goes, got_of, home_of, is_limited, lacks_row}
use Rattle.ns_monitor.proofs.Prelude.{load_place, outcome_taken, rest_or_look, stands_at, the, wait_has_queues, woken_by}
use Rattle.ns_monitor.proofs.Locks.{HasArmed, arms}
use Rattle.ns_monitor.proofs.Tests.{moves_in}

module _ {C : Type 0} where
  -- where a wait goes that has set its flag: to load the row, where it lacks it
  armed_at : (N : ℕ) (on : Subject C) (last : Word) → armed_place N on last ≡ cond (lacks_row on last) (load_place N last 0) (QueueToWait last)
  armed_at N (OnCondition c) last = refl
  armed_at N (OnVariables variables) last = refl

  -- with the queues in hand, in either case
  armed_has : (N : ℕ) (again : Bool) (on : Subject C) (last : Word) → wait_has_queues (InQueuing again (armed_place N on last)) ≡ true
  armed_has N again (OnCondition c) last = refl
  armed_has N again (OnVariables variables) last = cond_both _ (load_place N last 0) (QueueToWait last) (λ place. wait_has_queues (InQueuing again place) ≡ true)
      (λ _. cond_both _ (LoadToScan last 0) (QueueToWait last) (λ place. wait_has_queues (InQueuing again place) ≡ true) (λ _. refl) (λ _. refl)) (λ _. refl)

  -- one that was taken while it left was ended by this cause, if it was ended
  pub taken_ended : (on : Subject C) (cause : Cause) (flag : ℕ) (outcome : Outcome) → outcome ≡ outcome_taken on cause flag → IfEnded outcome (λ other. other ≡ cause)
  taken_ended on cause flag outcome is = subst (λ o. IfEnded o (λ (other : Cause). other ≡ cause)) (sym is) (by on) where
    by : (on : Subject C) → IfEnded (outcome_taken on cause flag) (λ other. other ≡ cause)
    by (OnCondition c) = refl
    by (OnVariables variables) = tt

module _ {C : Type 0} {N : ℕ} (truths : Truths C) where
  -- ---- it queues

  -- it has set its flag, and is about to load the row, or has it
  pub arms_to_wait : (wait : Wait C) (again : Bool) (last : Word) (start me now : SeatOf C N) → HasTakenAt truths (InWait wait (InQueuing again Load)) last start me → Performed truths None ArmFlag Made me now → HasArmed truths (InWait wait (InQueuing again (armed_place N wait.on last))) me now
  arms_to_wait wait again last start me now took p = arms truths (InWait wait (InQueuing again (ArmToWait last))) (InWait wait (InQueuing again (armed_place N wait.on last))) me now refl refl (armed_has N again wait.on last) refl took.at took.taken p

  pub loads_or_queues : (wait : Wait C) (again : Bool) (last : Word) (lacks : Bool) (me : SeatOf C N) → lacks ≡ lacks_row wait.on last → IsAtPlace truths (InWait wait (InQueuing again (armed_place N wait.on last))) me →
      IsAtPlace truths (cond lacks (InWait wait (InQueuing again (load_place N last 0))) (InWait wait (InQueuing again (QueueToWait last)))) me
  loads_or_queues wait again last lacks me is at = subst (λ w. IsAtPlace truths w me) (ap (λ place. InWait wait (InQueuing again place))
      (armed_at N wait.on last ∙ ap (λ b. cond b (load_place N last 0) (QueueToWait last)) (sym is))
      ∙ moves_in (λ place. InWait wait (InQueuing again place)) lacks (load_place N last 0) (QueueToWait last)) at

  -- ---- it leaves its list

  -- whether it still stood there is what it learned as it took itself out
  pub left_next : (wait : Wait C) (cause : Cause) (word : Word) (home : Home) (stood b : Bool) (me now : SeatOf C N) → home ≡ home_of wait.on → now.0 ≡ me.0 → stood ≡ stands_at (the me.0).at.seat home (the me.0).stood → stood ≡ b
      → got_of N (InWait wait (InLeaving cause (Leave word))) (found_back truths (Changed (LeaveSelf home)) word now) ≡ cond b (On (InAcquire (ForWait wait (Ended cause)) (AcquireLoad AsFresh))) (On (InWait wait (InLeaving cause AwaitWakeToLeave)))
  left_next wait cause word home stood b me now at_home same tells so =
      ap (λ (x : Bool). cond x (On (InAcquire (ForWait wait (Ended cause)) (AcquireLoad AsFresh))) (On (InWait wait (InLeaving cause AwaitWakeToLeave))))
      ((λ i. stands_at (the (same i)).at.seat home (the (same i)).stood) ∙ (sym tells ∙ so))

  -- one that was taken before is woken, and comes back
  pub taken_next : (wait : Wait C) (cause : Cause) (flag : ℕ) (outcome : Outcome) (arrival : Arrival) (me : SeatOf C N) → flag ≢ 1 → outcome ≡ outcome_taken wait.on cause flag → arrival ≡ arrival_of 0 flag →
      HasReached truths (Await wait) (got_of N (InWait wait (InLeaving cause AwaitWakeToLeave)) (Flag flag)) me
      → IsAtPlace truths (InAcquire (ForWait wait outcome) (AcquireLoad arrival)) me
  taken_next wait cause flag outcome arrival me clear is how led =
      subst (λ (x : Outcome × Arrival). IsAtPlace truths (InAcquire (ForWait wait x.0) (AcquireLoad x.1)) me) (λ i. (sym is i, sym how i))
      (subst (λ (b : Bool). HasReached truths (Await wait) (cond b (Idle (InWait wait (InLeaving cause AwaitWakeToLeave))) (On (InAcquire (ForWait wait (outcome_taken wait.on cause flag)) (AcquireLoad (arrival_of 0 flag))))) me) (ne_eqb flag 1 clear) led)

  -- one that finds its flag cleared comes back
  pub woken_next : (wait : Wait C) (flag : ℕ) (outcome : Outcome) (arrival : Arrival) (me : SeatOf C N) → flag ≢ 1 → outcome ≡ woken_by wait.on flag → arrival ≡ arrival_of 0 flag → HasReached truths (Await wait) (got_of N (InWait wait AwaitWakeInWait) (Flag flag)) me
      → IsAtPlace truths (InAcquire (ForWait wait outcome) (AcquireLoad arrival)) me
  woken_next wait flag outcome arrival me clear is how led =
      subst (λ (x : Outcome × Arrival). IsAtPlace truths (InAcquire (ForWait wait x.0) (AcquireLoad x.1)) me) (λ i. (sym is i, sym how i))
      (subst (λ (b : Bool). HasReached truths (Await wait) (cond b (rest_or_look wait) (On (InAcquire (ForWait wait (woken_by wait.on flag)) (AcquireLoad (arrival_of 0 flag))))) me) (ne_eqb flag 1 clear) led)

  -- ---- it looks out

  -- at a flag that is set it looks, where something may end it
  pub looks_out : (wait : Wait C) (value : ℕ) (me now : SeatOf C N) → value ≡ 1 → is_limited wait.limits ≡ true → IsAtPlace truths (InWait wait AwaitWakeInWait) me → Performed truths None LoadFlag (Flag value) me now → IsAtPlace truths (InWait wait LookOut) now
  looks_out wait value me now set limited at p =
      goes truths (InWait wait AwaitWakeInWait) LoadFlag (Flag 1) (On (InWait wait LookOut)) me now at refl (ap (λ (b : Bool). cond b (On (InWait wait LookOut)) (Idle (InWait wait AwaitWakeInWait))) limited) refl (subst (λ n. Performed truths None LoadFlag (Flag n) me now) set p)

  pub waits_on : (wait : Wait C) (shown : Option Cause) (me now : SeatOf C N) → shown ≡ None → IsAtPlace truths (InWait wait LookOut) me → Performed truths None (Look wait.limits false) (Looked shown) me now → IsAtPlace truths (InWait wait AwaitWakeInWait) now
  waits_on wait shown me now none at p = goes truths (InWait wait LookOut) (Look wait.limits false) (Looked None) (Idle (InWait wait AwaitWakeInWait)) me now at refl refl refl (subst (λ o. Performed truths None (Look wait.limits false) (Looked o) me now) none p)

  pub goes_to_leave : (wait : Wait C) (shown : Option Cause) (cause : Cause) (me now : SeatOf C N) → shown ≡ Some cause → IsAtPlace truths (InWait wait LookOut) me → Performed truths None (Look wait.limits false) (Looked shown) me now → IsAtPlace truths (InWait wait (InLeaving cause LeaveLoad)) now
  goes_to_leave wait shown cause me now some at p = goes truths (InWait wait LookOut) (Look wait.limits false) (Looked (Some cause)) (On (InWait wait (InLeaving cause LeaveLoad))) me now at refl refl refl (subst (λ o. Performed truths None (Look wait.limits false) (Looked o) me now) some p)
