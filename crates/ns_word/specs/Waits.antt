-- Waits, for a condition or for condition variables.
use Rattle.std.specs.Prelude.{None, Option, Some, if◌then◌else◌, true, ℕ, ◌≡◌}
use Rattle.ns_word.specs.Names.{Aim, Answer, Arrival, AsFresh, AsWoken, AtLock, AtVariables, Canceled, Cause, Cond, Ended, Expired, ForLock, ForWait, Home, Met, Mode, Notified, OnCondition, OnVariables, Outcome, Phase, Subject, TimedOut, Variables, has}
use Rattle.ns_model.specs.declared.phase.Phase.TheVariants.{Idle, Woken, Left}
use Rattle.ns_word.specs.Owed.{is_from_lock, variable_told}
use Rattle.ns_word.specs.declared.wait.Outcome.TheVariants as TheOutcome

-- what a wait answers that was ended early
abbrev pub answer_of : Cause → Answer
answer_of Expired = TimedOut
answer_of Notified = Canceled

-- what ended a wait early of which this came, if anything did
abbrev pub cause_in : Outcome → Option Cause
cause_in (TheOutcome.Woken by) = None
cause_in (Ended cause) = Some cause

-- the variable whose wake has ended a wait of which this came, if one has
abbrev pub variable_in : Outcome → Option ℕ
variable_in (TheOutcome.Woken by) = by
variable_in (Ended cause) = None

-- what a wait for a variable answers of which this came
abbrev pub answer_of_wait : Outcome → Answer
answer_of_wait (TheOutcome.Woken by) = Met
answer_of_wait (Ended cause) = answer_of cause

-- how one comes to acquire that stood there with so many failed tries, and has found this value in its flag, which tells whether it was taken from the lock list
abbrev pub arrival_of : ℕ → ℕ → Arrival
arrival_of tries flag = if is_from_lock flag then AsWoken tries else AsFresh

-- where such a wait stands
abbrev pub home_of : {C : Type 0} → Subject C → Home
home_of (OnCondition c) = AtLock
home_of (OnVariables variables) = AtVariables variables

-- the variable whose wake such a wait has found by this value in its flag, if it is for variables
abbrev pub variable_by : {C : Type 0} → Subject C → ℕ → Option ℕ
variable_by (OnCondition c) flag = None
variable_by (OnVariables variables) flag = Some (variable_told flag)

-- what came of such a wait that was woken, and has found this value in its flag
abbrev pub woken_by : {C : Type 0} → Subject C → ℕ → Outcome
woken_by on flag = TheOutcome.Woken (variable_by on flag)

-- what came of such a wait that was about to leave for this cause, was taken from its list before, and has found this value in its flag: a wait for variables was woken
abbrev pub outcome_taken : {C : Type 0} → Subject C → Cause → ℕ → Outcome
outcome_taken (OnCondition c) cause flag = Ended cause
outcome_taken {C} (OnVariables variables) cause flag = woken_by {C = C} (OnVariables variables) flag

-- such a wait is woken by a wake of one of its variables, if it is for variables, and else by one of none
abbrev pub IsWokenBy : {C : Type 0} → Subject C → Option ℕ → Type 0
IsWokenBy (OnCondition c) by = by ≡ None
IsWokenBy (OnVariables variables) None = ⊥
IsWokenBy (OnVariables variables) (Some k) = has variables k ≡ true

-- what may come of such a wait: any may be ended early
abbrev pub OutcomeFits : {C : Type 0} → Subject C → Outcome → Type 0
OutcomeFits on (TheOutcome.Woken by) = IsWokenBy on by
OutcomeFits on (Ended cause) = Unit {0}

-- the mode in which the lock is acquired
abbrev pub mode_for : {C : Type 0} → Aim C → Mode
mode_for (ForLock mode) = mode
mode_for (ForWait wait outcome) = wait.mode

-- the phase of a seat whose wait for these variables comes back: this one has woken it, or, where none has, it has left them
abbrev pub phase_by_wake : {C : Type 0} → Variables → Mode → Option ℕ → Phase C
phase_by_wake variables mode None = Left variables mode
phase_by_wake variables mode (Some k) = Woken k mode

-- the phase of a seat whose wait for this comes back, with what came of it
abbrev pub phase_kept : {C : Type 0} → Subject C → Mode → Outcome → Phase C
phase_kept (OnCondition c) mode outcome = Cond c mode
phase_kept (OnVariables variables) mode outcome = phase_by_wake variables mode (variable_in outcome)

-- the phase of a seat that acquires for this
abbrev pub phase_for : {C : Type 0} → Aim C → Phase C
phase_for (ForLock mode) = Idle
phase_for (ForWait wait outcome) = phase_kept wait.on wait.mode outcome
