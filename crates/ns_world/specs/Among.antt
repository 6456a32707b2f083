-- Waits for condition variables among notes and counters. As such a call begins, a round looks at the notes and counters; where that shows nothing, the call leaves its section and waits on the lock for the variables; and whenever that wait looks, another round does so.
use Rattle.std.specs.Prelude.{Bool, IsSome, None, Option, Some, false, if◌then◌else◌, true, unwrap_or, ℕ, ◌≡◌, ◌≤◌}
use Rattle.ns_world.specs.Names.{Any, AnyWait, AreAmong, AreVariables, Cause, Cvs, Every, Expired, Held, InRound, IsLow, Limits, Mode, Next, Number, ObjectReply, ObjectWalk, OnLock, OnVariables, Reply, Request, Round, Seat, Step, Subject, WaitFor as Wait, Went, have_variable, items_of, place_in}
use Rattle.ns_world.specs.Names.{FirstClock, RoundPlace, wait_first}
use Rattle.ns_counters.specs.declared.round.RoundPlace.TheVariants.{AtCounter, AtNote}
use Rattle.ns_world.specs.Calls.{mode_of, mode_waited}
use Rattle.ns_world.specs.Doings.{placed}
use Rattle.ns_counters.specs.declared.reply.ObjectReply.TheVariants as TheObject
use Rattle.ns_word.specs.declared.request.Request.TheVariants as TheRequest
use Rattle.ns_env.specs.declared.next.Next.TheVariants as TheNext

-- ---- the wait on the lock

-- What ends such a wait early is for its caller to say: a deadline that has always come lets each of its looks end it. The round loads the clock by itself. So `WasShown` says nothing of such a look; what its rounds have shown is said of the objects (`AnswersOfWaiting`).
abbrev pub at_will : Limits
at_will = record { deadline = Some 0; note = None }

-- the wait on the lock for any of these variables, from a section in this mode
abbrev pub waits_for_any : {C : Type 0} → Mode → Cvs → Wait C
waits_for_any mode cvs = record { mode = mode; on = OnVariables (Any cvs); limits = at_will }

-- what is waited for is any of a set of variables
abbrev pub is_for_any : {C : Type 0} → Subject C → Bool
is_for_any (OnVariables (Any cvs)) = true
is_for_any on = false

-- whether the call is one on the lock that waits for any of a set of variables
abbrev pub asks_for_any : {C : Type 0} → Request C → Bool
asks_for_any (TheRequest.Await wait) = is_for_any wait.on
asks_for_any request = false

-- ---- what it answers

-- the place that is answered: where a variable has woken the wait, that of the first item that is this one; else what its last round has shown
abbrev pub place_told : AnyWait → Option ℕ → ℕ
place_told wait (Some k) = place_in k (items_of wait.round.items)
place_told wait None = unwrap_or wait.shown 0

-- the variable that has woken a wait on the lock for any of several, by what that answers, or none
abbrev pub woken_by : Reply → Option ℕ
woken_by (Number k) = Some k
woken_by reply = None

-- what the call answers, whose wait on the lock answers this
abbrev pub reply_told : AnyWait → Reply → Reply
reply_told wait reply = Number (place_told wait (woken_by reply))

-- the same where it may be in no such wait
abbrev pub reply_for : Option AnyWait → Reply → Reply
reply_for None reply = reply
reply_for (Some wait) reply = reply_told wait reply

-- there are at most 16 objects
abbrev pub IsFew : AnyWait → Type 0
IsFew wait = wait.round.items.count ≤ 16

-- ---- what a round shows

-- the number of the object that a round looks at; before it has loaded the clock, that of the first
abbrev pub object_at : RoundPlace → ℕ
object_at FirstClock = 0
object_at (AtNote at clock asked note) = at
object_at (AtCounter at clock counter) = at

-- A round that was at the one place looks on from the other: it has loaded the clock, and has gone back to no object.
abbrev pub LooksOn : RoundPlace → RoundPlace → Type 0
LooksOn place FirstClock = ⊥
LooksOn place behind = object_at place ≤ object_at behind

-- what a round has shown, by where its last step leads
abbrev pub shown_by : Next ObjectWalk ObjectReply → Option ℕ
shown_by (TheNext.Done (TheObject.Number place)) = Some place
shown_by next = None

-- what it tells the lock that a round has shown this
abbrev pub cause_of : Option ℕ → Option Cause
cause_of None = None
cause_of (Some place) = Some Expired

-- the round after which the call waits on the lock: it has found nothing, and condition variables are among its objects
abbrev pub waits_then : ObjectWalk → Next ObjectWalk ObjectReply → Option Round
waits_then (InRound round place) (TheNext.Idle walk) = if have_variable round.items then Some round else None
waits_then walk next = None

-- of several objects there are at most 16
abbrev pub NamesFew : ObjectWalk → Type 0
NamesFew (InRound round place) = round.items.count ≤ 16
NamesFew walk = Unit {0}

-- a call that may go on to wait on the lock has a section in hand then, and there are few objects, and each variable that there is
abbrev pub MayGoOn : {C : Type 0} {N : ℕ} → Option (Held C N) → ObjectWalk → Type 0
MayGoOn held (InRound round place) = (round.items.count ≤ 16) × Every IsLow (items_of round.items) × (have_variable round.items ≡ true → IsSome held)
MayGoOn held walk = Unit {0}

-- the call goes on as a wait on the lock for just the variables among the objects of this round
pub record BeginsToWait {C : Type 0} {N : ℕ} (here : Seat C N) (round : Round) (next : Seat C N) (step : Step) : Type 0 where
  pub cvs : Cvs
  pub among : AreAmong cvs (items_of round.items)
  pub variables : AreVariables (Any cvs)
  pub goes : next ≡ placed here (OnLock (wait_first N (waits_for_any (mode_waited (mode_of here.held)) cvs)) (Some (record { round = round; shown = None })))
  pub answers : step ≡ Went
