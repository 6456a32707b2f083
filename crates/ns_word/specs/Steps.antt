-- One atomic step of one seat.
use Rattle.std.specs.Prelude.{Bool, IsSome, List, None, Option, Some, [], false, if◌then◌else◌, not, slice_index, slice_set, true, ℕ, ◌&&◌, ◌++◌, ◌==◌, ◌∷◌, ◌≡◌, ◌≢◌}
use Rattle.ns_word.specs.Names.{Acquire, AcquirePlace, Act, AfterAny, AfterCv, Aim, Any, AnyWait, ArmFlag, AtVariables, Broadcast, Broadcasting, CameBack, Cause, Cell, Change, CondWait, Cv, CvWait, Ended, Entry, Event, Exit, Expired, Flag, ForLock, ForWait, Found, Held, Home, InAcquire, InLeaving}
use Rattle.ns_word.specs.Names.{InQueuing, InRelease, InSignal, InWait, JudgeMet, JudgeQuiet, Leave, LeaveSelf, Left, Limits, Lists, LoadCell, LoadFlag, LoadWord, Locked, Look, Looked, Made, Met, Mode, Nothing, Notified, OnCondition, OnVariables, Only, Opening, Outcome, Owed, Paid, PayWake, Queue}
use Rattle.ns_word.specs.Names.{QueueSelf, QueueToWait, Quiet, Release, ReleasePlace, ReleaseReturning, ReturnQueues, Saw, ScanAndRelease, Scanned, SeatView, Section, Signal, SignalPlace, Signaling, StoreCell, Subject, TakeQueues, Tested, Truths, Variables, Wait, WaitPlace, WaitReturning, Waited}
use Rattle.ns_word.specs.Names.{Waiter, WakeAndReturn, WakeWaiters, Waking, Walk, Woke, Woken, Word, Write, cvs_without, has_some, left_of, place_after, signaled_of, taken_set, tests_of, unsignaled_of, waiters_of, with_each, with_waiters, without, woken_of}
use Rattle.ns_model.specs.declared.event.Entry.TheVariants.{Plain}
use Rattle.ns_word.specs.Owed.{called_of, wakes_of}
use Rattle.ns_word.specs.Words.{is_held, is_woken, may_acquire, mode_released, releasing_of, tries_of, word_acquired, word_released, word_released_returning, word_returned, word_taken}
use Rattle.ns_word.specs.Waits.{answer_of, answer_of_wait, home_of, mode_for, variable_in}
use Rattle.ns_word.specs.Lists.{bits_of, queued, stands_at}
use Rattle.ns_word.specs.Walks.{got_of, want_of}
use Rattle.ns_model.specs.declared.event.Exit.TheVariants as TheExit
use Rattle.ns_model.specs.declared.event.Event.TheVariants as TheEvent

-- the lock word, the row's cells, the lists as they last stood at home, each seat's flag, and each seat's view
pub record LockState (C : Type 0) (N : ℕ) : Type 0 where
  pub word : Word
  pub row : List ℕ
  pub lists : Lists C
  pub flags : ℕ → ℕ
  pub views : List (SeatView C N)

-- what one seat's step reads and writes: beside the lock's, its own section and the wakes that it owes
pub record Part (C : Type 0) (N : ℕ) : Type 0 where
  pub word : Word
  pub row : List ℕ
  pub lists : Lists C
  pub flags : ℕ → ℕ
  pub held : Option (Held C N)
  pub owed : List Owed

-- how a section is said to begin that came back from a wait for these variables: one for a variable says what it was ended by, or that it was woken; one for any of a set, which of them has woken it, or none
abbrev pub entry_for : {C : Type 0} → Variables → Outcome → Entry C
entry_for (Only k) outcome = AfterCv k (answer_of_wait outcome)
entry_for (Any cvs) outcome = AfterAny (variable_in outcome)

-- How a section is said to begin in the history. A wait for a condition that came back is said to have met it where it is true of the row that the section began at, or where nothing has ended the wait; else it is said to have been ended by its cause.
abbrev pub entry_of : {C : Type 0} → (C → List ℕ → Bool) → List ℕ → Opening C → Entry C
entry_of holds before Locked = Plain
entry_of holds before (CameBack (OnCondition c) (Woken by)) = Waited c Met
entry_of holds before (CameBack (OnCondition c) (Ended cause)) = Waited c (if holds c before then Met else answer_of cause)
entry_of holds before (CameBack (OnVariables variables) outcome) = entry_for variables outcome

-- the event that a section is, where it ends so
abbrev pub section_of : {C : Type 0} {N : ℕ} → (C → List ℕ → Bool) → ℕ → Held C N → Exit C → Event C N
section_of holds seat held exit = Section seat held.mode (entry_of holds held.before held.entry) held.before held.row exit

-- how a section begins that is acquired for this
abbrev pub opening_for : {C : Type 0} → Aim C → Opening C
opening_for (ForLock mode) = Locked
opening_for (ForWait wait outcome) = CameBack wait.on outcome

-- a section as it begins at a row
abbrev pub newly_held : {C : Type 0} {N : ℕ} → Aim C → List ℕ → Held C N
newly_held aim row = record { mode = mode_for aim; entry = opening_for aim; before = row; row = row }

-- a section that came back from a wait, once it is known what ended that
abbrev pub opening_by : {C : Type 0} → Cause → Opening C → Opening C
opening_by cause Locked = Locked
opening_by cause (CameBack on was) = CameBack on (Ended cause)

-- the section in hand, once it is known what ended its wait
abbrev pub held_by : {C : Type 0} {N : ℕ} → Cause → Option (Held C N) → Option (Held C N)
held_by cause None = None
held_by cause (Some held) = Some (record held { entry = opening_by cause held.entry })

-- What a look that shows this leaves of the section in hand: one that has come back from the wait goes by what is shown.
abbrev pub held_after : {C : Type 0} {N : ℕ} → Bool → Option Cause → Option (Held C N) → Option (Held C N)
held_after again None held = held
held_after again (Some cause) held = if again then held_by cause held else held

-- a look may show this: the deadline or the note, if it is given
abbrev pub MayShow : Limits → Option Cause → Type 0
MayShow limits None = Unit {0}
MayShow limits (Some Expired) = IsSome limits.deadline
MayShow limits (Some Notified) = IsSome limits.note

-- the flags with one set to a value
abbrev pub flags_with : (ℕ → ℕ) → ℕ → ℕ → ℕ → ℕ
flags_with flags who value seat = if who == seat then value else flags seat

-- where a condition is true of a row
abbrev pub meets_at : {C : Type 0} → Truths C → List ℕ → C → Bool
meets_at truths row c = truths.holds c row

-- the lists with another lock list
abbrev pub with_lock : {C : Type 0} → Lists C → List (Waiter C) → Lists C
with_lock lists lock = record { lock = lock; cvs = lists.cvs }

-- those whom a call takes from the list of its variable, and those who stay there
abbrev pub taken_by : {C : Type 0} → Waking → List (Waiter C) → List (Waiter C)
taken_by Signaling ws = signaled_of ws
taken_by Broadcasting ws = ws

abbrev pub kept_by : {C : Type 0} → Waking → List (Waiter C) → List (Waiter C)
kept_by Signaling ws = unsignaled_of ws
kept_by Broadcasting ws = []

-- where they go: to the back of the lock list if the lock is held
abbrev pub moved_to : {C : Type 0} → Bool → List (Waiter C) → Lists C → Lists C
moved_to held taken lists = if held then with_lock lists (lists.lock ++ taken) else lists

-- The lists that are put back, where this is the word last seen: one that leaves is out of all lists, if it still stood there; those whom a wake takes are out of all lists of variables.
abbrev pub changed : {C : Type 0} → ℕ → Change → Word → Lists C → Lists C
changed seat (QueueSelf mode arrival) last lists = with_lock lists (queued seat mode None (tries_of arrival) (is_woken arrival) lists.lock)
changed seat (LeaveSelf home) last lists = if stands_at seat home lists then without seat lists else lists
changed seat (WakeWaiters waking k) last lists =
    moved_to (is_held last) (taken_by waking (waiters_of lists (Cv k))) (cvs_without (taken_set (taken_by waking (waiters_of lists (Cv k)))) lists)
changed seat Nothing last lists = lists

-- whether somebody is moved to the lock list
abbrev pub moves : {C : Type 0} → Change → Word → Lists C → Bool
moves (WakeWaiters waking k) last lists = is_held last && has_some (taken_by waking (waiters_of lists (Cv k)))
moves change last lists = false

-- whom the seat owes a wake then: those whom it took and didn't move
abbrev pub owed_after : {C : Type 0} → Change → Word → Lists C → List Owed → List Owed
owed_after (WakeWaiters waking k) last lists owed = if is_held last then [] else wakes_of k (taken_by waking (waiters_of lists (Cv k)))
owed_after change last lists owed = owed

-- what is found where they were put back: one that leaves learns whether it still stood there
abbrev pub change_found : {C : Type 0} → ℕ → Change → Word → Lists C → Found
change_found seat (LeaveSelf home) last lists = Left (stands_at seat home lists)
change_found seat (WakeWaiters waking k) last lists = Woke (not (is_held last) && has_some (taken_by waking (waiters_of lists (Cv k))))
change_found seat (QueueSelf mode arrival) last lists = Made
change_found seat Nothing last lists = Made

-- the event that a call is which wakes these
abbrev pub wake_of : {C : Type 0} {N : ℕ} → ℕ → Waking → ℕ → List (Waiter C) → Event C N
wake_of seat Signaling k taken = Signal seat k (taken_set taken)
wake_of seat Broadcasting k taken = Broadcast seat k (taken_set taken)

-- that a wait for variables was left, if its seat still stood in their lists
abbrev pub leave_of : {C : Type 0} {N : ℕ} → ℕ → Home → Bool → List (Event C N)
leave_of seat (AtVariables (Only k)) true = TheEvent.Leave seat k ∷ []
leave_of seat (AtVariables (Any cvs)) true = TheEvent.LeaveAny seat cvs ∷ []
leave_of seat home stood = []

-- what is committed as they are put back
abbrev pub change_commits : {C : Type 0} {N : ℕ} → ℕ → Change → Lists C → List (Event C N)
change_commits seat (LeaveSelf home) lists = leave_of seat home (stands_at seat home lists)
change_commits seat (WakeWaiters waking k) lists = wake_of seat waking k (taken_by waking (waiters_of lists (Cv k))) ∷ []
change_commits seat (QueueSelf mode arrival) lists = []
change_commits seat Nothing lists = []

-- a waiter of its own list, with its condition if it waits for one; of the list of each variable, if it waits for any of a set
abbrev pub waits_at : {C : Type 0} → Subject C → ℕ → Mode → Bool → Lists C → Lists C
waits_at (OnCondition c) seat mode again lists = with_lock lists (queued seat mode (Some c) 0 again lists.lock)
waits_at (OnVariables (Only k)) seat mode again lists = with_waiters lists (Cv k) (waiters_of lists (Cv k) ++ record { seat = seat; mode = mode; cond = None; tries = 0; via = Some k } ∷ [])
waits_at (OnVariables (Any cvs)) seat mode again lists = with_each 4 cvs (record { seat = seat; mode = mode; cond = None; tries = 0; via = None }) lists

-- the lists that a wait puts back: as a scan leaves them, with itself in its own
abbrev pub waited_in : {C : Type 0} → Truths C → ℕ → Wait C → Bool → List ℕ → Lists C → Lists C
waited_in truths seat wait again row lists = waits_at wait.on seat wait.mode again (with_lock lists (left_of (meets_at truths row) lists.lock))

-- how the section ends that such a wait leaves
abbrev pub exit_for : {C : Type 0} → Subject C → Exit C
exit_for (OnCondition c) = CondWait c
exit_for (OnVariables (Only k)) = CvWait k
exit_for (OnVariables (Any cvs)) = AnyWait cvs

-- the lists in the hand of an acquire: it puts itself in
abbrev pub acquire_hand : {C : Type 0} → ℕ → Aim C → AcquirePlace → Lists C → Lists C
acquire_hand seat aim (Queue arrival last) lists = changed seat (QueueSelf (mode_for aim) arrival) last lists
acquire_hand seat aim place lists = lists

-- in the hand of a release: it takes those out whom a scan wakes
abbrev pub release_hand : {C : Type 0} → Truths C → ReleasePlace → List ℕ → Lists C → Lists C
release_hand truths (ScanAndRelease last) row lists = with_lock lists (left_of (meets_at truths row) lists.lock)
release_hand truths place row lists = lists

-- in the hand of a wait: it does that and puts itself in, or takes itself out
abbrev pub wait_hand : {C : Type 0} → Truths C → ℕ → Wait C → WaitPlace → List ℕ → Lists C → Lists C
wait_hand truths seat wait (InQueuing again (QueueToWait last)) row lists = waited_in truths seat wait again row lists
wait_hand truths seat wait (InLeaving cause (Leave last)) row lists = changed seat (LeaveSelf (home_of wait.on)) last lists
wait_hand truths seat wait place row lists = lists

-- in the hand of a call that wakes: those whom it takes leave all variables' lists, and are moved where the word last seen is held
abbrev pub signal_hand : {C : Type 0} → ℕ → Waking → ℕ → SignalPlace → Lists C → Lists C
signal_hand seat waking k (WakeAndReturn last) lists = changed seat (WakeWaiters waking k) last lists
signal_hand seat waking k place lists = lists

-- The lists as the seat that has the queues has them in hand: what its walk does to them is done as soon as the step before is answered.
abbrev pub in_hand : {C : Type 0} → Truths C → ℕ → Walk C → List ℕ → Lists C → Lists C
in_hand truths seat (InAcquire aim place) row lists = acquire_hand seat aim place lists
in_hand truths seat (InRelease releasing place) row lists = release_hand truths place row lists
in_hand truths seat (InWait wait place) row lists = wait_hand truths seat wait place row lists
in_hand truths seat (InSignal waking k place) row lists = signal_hand seat waking k place lists
in_hand truths seat walk row lists = lists

-- the queues are put back by an exchange that found the word last seen: the lists are changed, and this is found and committed
abbrev Returned : {C : Type 0} {N : ℕ} → ℕ → Change → Word → Part C N → Found → Part C N → List (Event C N) → Type 0
Returned seat change last old found new commits =
    let lists = changed seat change last old.lists in
    (change_found seat change last old.lists ≡ found) × (last ≡ old.word)
    × (new ≡ record old { word = word_returned (moves change last old.lists) (bits_of lists.lock) last; lists = lists; owed = owed_after change last old.lists old.owed })
    × (commits ≡ change_commits seat change old.lists)

-- The act of the seat takes the part old to the part new, finds this, and commits these events. An exchange is refused by a word that differs from the one last seen, and by no other.
abbrev pub Effect : {C : Type 0} {N : ℕ} → Truths C → ℕ → Act C → Part C N → Found → Part C N → List (Event C N) → Type 0
-- a load of the word, and a compare-exchange that failed
Effect truths seat LoadWord old (Saw word) new commits = (word ≡ old.word) × (new ≡ old) × (commits ≡ [])
Effect truths seat (Acquire aim arrival last) old (Saw word) new commits = (word ≡ old.word) × (word ≢ last) × (new ≡ old) × (commits ≡ [])
Effect truths seat (TakeQueues taking last) old (Saw word) new commits = (word ≡ old.word) × (word ≢ last) × (new ≡ old) × (commits ≡ [])
Effect truths seat (ReturnQueues change last) old (Saw word) new commits = (word ≡ old.word) × (word ≢ last) × (new ≡ old) × (commits ≡ [])
Effect truths seat (Release releasing last) old (Saw word) new commits = (word ≡ old.word) × (word ≢ last) × (new ≡ old) × (commits ≡ [])
Effect truths seat (ReleaseReturning releasing last) old (Saw word) new commits = (word ≡ old.word) × (word ≢ last) × (new ≡ old) × (commits ≡ [])
Effect truths seat (WaitReturning wait again last) old (Saw word) new commits = (word ≡ old.word) × (word ≢ last) × (new ≡ old) × (commits ≡ [])
-- an acquire
Effect truths seat (Acquire aim arrival last) old Made new commits =
    (last ≡ old.word) × (may_acquire (mode_for aim) arrival last ≡ true) × (old.held ≡ None)
    × (new ≡ record old { word = word_acquired (mode_for aim) arrival last; held = Some (newly_held aim old.row) })
    × (commits ≡ [])
-- the queues are taken, and put back
Effect truths seat (TakeQueues taking last) old Made new commits =
    (last ≡ old.word) × (last.spin ≡ false) × (new ≡ record old { word = word_taken taking last }) × (commits ≡ [])
Effect truths seat (ReturnQueues change last) old Made new commits = Returned seat change last old Made new commits
Effect truths seat (ReturnQueues change last) old (Left stood) new commits = Returned seat change last old (Left stood) new commits
Effect truths seat (ReturnQueues change last) old (Woke owes) new commits = Returned seat change last old (Woke owes) new commits
-- a release without a scan
Effect {C} {N} truths seat (Release releasing last) old Made new commits =
    (held : Held C N) × (old.held ≡ Some held) × (held.mode ≡ mode_released releasing) × (last ≡ old.word)
    × (new ≡ record old { word = word_released releasing last; held = None })
    × (commits ≡ section_of truths.holds seat held TheExit.Plain ∷ [])
-- a release with the scan of the list: the woken are owed their wakes, the others are put back
Effect {C} {N} truths seat (ReleaseReturning releasing last) old (Scanned owes tests) new commits =
    let woken = woken_of (meets_at truths old.row) old.lists.lock in let stay = left_of (meets_at truths old.row) old.lists.lock in
    (held : Held C N) × (old.held ≡ Some held) × (held.mode ≡ mode_released releasing) × (last ≡ old.word)
    × (new ≡ record old { word = word_released_returning releasing (has_some woken) (bits_of stay) last; lists = with_lock old.lists stay; held = None; owed = called_of woken })
    × (owes ≡ has_some (called_of woken)) × (tests ≡ tests_of truths.same (meets_at truths old.row) old.lists.lock)
    × (commits ≡ section_of truths.holds seat held TheExit.Plain ∷ [])
-- the same by a wait, which puts itself into the list; one that queues again commits nothing
Effect {C} {N} truths seat (WaitReturning wait again last) old (Scanned owes tests) new commits =
    let woken = woken_of (meets_at truths old.row) old.lists.lock in let lists = waited_in truths seat wait again old.row old.lists in
    (held : Held C N) × (old.held ≡ Some held) × (held.mode ≡ wait.mode) × (last ≡ old.word)
    × (new ≡ record old { word = word_released_returning (releasing_of wait.mode) (has_some woken) (bits_of lists.lock) last; lists = lists; held = None; owed = called_of woken })
    × (owes ≡ has_some (called_of woken)) × (tests ≡ tests_of truths.same (meets_at truths old.row) old.lists.lock)
    × (commits ≡ (if again then [] else section_of truths.holds seat held (exit_for wait.on) ∷ []))
-- the cells
Effect truths seat (LoadCell i) old (Cell v) new commits = (v ≡ slice_index old.row i) × (new ≡ old) × (commits ≡ [])
Effect {C} {N} truths seat (JudgeQuiet i) old (Quiet is_quiet) new commits =
    (held : Held C N) × (old.held ≡ Some held) × (is_quiet ≡ truths.quiet held.before held.row) × (new ≡ old) × (commits ≡ [])
Effect {C} {N} truths seat (JudgeMet i c) old (Tested is_met) new commits =
    (held : Held C N) × (old.held ≡ Some held) × (is_met ≡ truths.holds c held.row) × (new ≡ old) × (commits ≡ [])
Effect {C} {N} truths seat (StoreCell i v) old Made new commits =
    (held : Held C N) × (old.held ≡ Some held) × (held.mode ≡ Write)
    × (new ≡ record old { row = slice_set old.row i v; held = Some (record held { row = slice_set held.row i v }) })
    × (commits ≡ [])
-- the flags
Effect truths seat ArmFlag old Made new commits = (new ≡ record old { flags = flags_with old.flags seat 1 }) × (commits ≡ [])
Effect {C} {N} truths seat PayWake old (Paid owes) new commits =
    (wake : Owed) × (rest : List Owed) × (old.owed ≡ wake ∷ rest)
    × (new ≡ record old { flags = flags_with old.flags wake.seat wake.value; owed = rest })
    × (owes ≡ has_some rest) × (commits ≡ [])
Effect truths seat LoadFlag old (Flag v) new commits = (v ≡ old.flags seat) × (new ≡ old) × (commits ≡ [])
-- a look
Effect truths seat (Look limits again) old (Looked cause) new commits = MayShow limits cause × (new ≡ record old { held = held_after again cause old.held }) × (commits ≡ [])
Effect truths seat act old found new commits = ⊥

-- a view's part of a state
abbrev pub part_of : {C : Type 0} {N : ℕ} → LockState C N → Option (Held C N) → List Owed → Part C N
part_of s held owed = record { word = s.word; row = s.row; lists = s.lists; flags = s.flags; held = held; owed = owed }

-- The seat with this view makes the step that its walk wants, and no other view changes.
pub record Step {C : Type 0} {N : ℕ} (truths : Truths C) (old : LockState C N) (view : SeatView C N) (found : Found) (new : LockState C N) (commits : List (Event C N)) : Type 0 where
  pub walk : Walk C
  pub walks : view.walk ≡ Some walk
  pub front : List (SeatView C N)
  pub back : List (SeatView C N)
  pub held : Option (Held C N)
  pub owed : List Owed
  pub was : old.views ≡ front ++ view ∷ back
  pub becomes : new.views ≡ front ++ record { seat = view.seat; walk = place_after (got_of N walk found); held = held; owed = owed } ∷ back
  pub effect : Effect truths view.seat (want_of walk) (part_of old view.held view.owed) found (part_of new held owed) commits
