-- The law: what holds of a lock and its seats between any two steps.
use Rattle.std.specs.Prelude.{Bool, List, None, Option, Some, false, if◌then◌else◌, length, true, ℕ, ◌&&◌, ◌+◌, ◌<◌, ◌==◌, ◌≡◌, ◌≢◌, ◌≤◌, ◌⊎◌}
use Rattle.ns_word.specs.Names.{Bits, CameBack, Cv, Event, Every, Held, IsBySeats, IsLegal, Lists, Locked, Mode, OnCondition, OnVariables, Opening, Owed, Phase, Read, SeatView, Standing, Subject, Truths, Variables, Waiter, Waiting, Walk, Word, has, has_some, is_waiting, standing_after, times_in, waiters_of}
use Rattle.ns_word.specs.Names.{woken_phase}
use Rattle.ns_model.specs.declared.phase.Phase.TheVariants.{Idle, Woken}
use Rattle.ns_word.specs.Lists.{counts_in, has_eligible, bits_of}
use Rattle.ns_word.specs.Owed.{Tells}
use Rattle.ns_word.specs.Walks.{Stance, Expected, calls_from_lock, has_armed, waits_in, awaits, pays, is_on_way, phase_by}
use Rattle.ns_word.specs.Waits.{phase_kept}
use Rattle.ns_word.specs.Views.{writers, readers, takers, queuers, owed_in, owed_to, called_to, walk_at, AreApart}
use Rattle.ns_word.specs.Seen.{HasNumber, word_seen}
use Rattle.ns_word.specs.Places.{PlaceFits}
use Rattle.ns_word.specs.Steps.{LockState}

-- ---- the sections

-- One seat writes where the write bit is set, and none where it isn't; beside a writer nobody reads.
pub record OneWriter {C : Type 0} {N : ℕ} (word : Word) (views : List (SeatView C N)) : Type 0 where
  pub bit : writers views ≡ (if word.write then 1 else 0)
  pub alone : word.write ≡ true → readers views ≡ 0

-- The word's count of readers is the number of seats with a read section in hand.
abbrev pub ReadersCounted : {C : Type 0} {N : ℕ} → Word → List (SeatView C N) → Type 0
ReadersCounted word views = word.readers ≡ readers views

-- the phase that a section comes from
abbrev pub phase_before : {C : Type 0} → Mode → Opening C → Phase C
phase_before mode Locked = Idle
phase_before mode (CameBack on outcome) = phase_kept on mode outcome

-- a section in hand begins where the history has left the row and its seat, its row is the row's cells, and a reader changes nothing
pub record HeldFits {C : Type 0} {N : ℕ} (now : Standing C) (row : List ℕ) (seat : ℕ) (held : Held C N) : Type 0 where
  pub starts : held.before ≡ now.row
  pub enters : now.phases seat ≡ phase_before held.mode held.entry
  pub cells : held.row ≡ row
  pub reads : held.mode ≡ Read → held.row ≡ held.before

-- a phase is the expected one, or what a wake makes of that, by a variable that it waits for, where one may have been woken
abbrev pub IsEither : {C : Type 0} → Bool → Phase C → Phase C → Type 0
IsEither false phase now = now ≡ phase
IsEither true phase now = (now ≡ phase) ⊎ ((k : ℕ) × (is_waiting k phase ≡ true) × (now ≡ woken_phase k phase))

abbrev pub IsExpected : {C : Type 0} → Expected C → Phase C → Type 0
IsExpected expected now = IsEither expected.may_be_woken expected.phase now

-- A seat with no section in hand owes the history nothing, or is in the wait that its place in its call tells of.
abbrev pub SectionFits : {C : Type 0} {N : ℕ} → Standing C → List ℕ → ℕ → Option (Walk C) → Option (Held C N) → Type 0
SectionFits now row seat walk None = IsExpected (phase_by walk) (now.phases seat)
SectionFits now row seat walk (Some held) = HeldFits now row seat held

-- wakes are owed at this place
abbrev pub OwesAs : {C : Type 0} → Option (Walk C) → List Owed → Type 0
OwesAs walk owed = (has_some owed ≡ pays walk) × Every (Tells (calls_from_lock walk)) owed

-- A view of one of so many seats, after a history that left this standing. It owes a wake exactly where it is about to pay one, so none once its call is over; and each tells whether its seat was taken from the lock list.
pub record ViewFits {C : Type 0} {N : ℕ} (truths : Truths C) (seats : ℕ) (now : Standing C) (row : List ℕ) (view : SeatView C N) : Type 0 where
  pub in_range : view.seat < seats
  pub place : PlaceFits truths view.walk view.held
  pub owes : OwesAs view.walk view.owed
  pub section : SectionFits now row view.seat view.walk view.held

-- each view fits
abbrev pub EachFits : {C : Type 0} {N : ℕ} → Truths C → ℕ → Standing C → List ℕ → List (SeatView C N) → Type 0
EachFits truths seats now row views = Every (ViewFits truths seats now row) views

-- The history is legal and by these seats, and the views and the cells are as it leaves them. With no writer the cells are the row after it.
pub record OneHistory {C : Type 0} {N : ℕ} (truths : Truths C) (seats : ℕ) (history : List (Event C N)) (word : Word) (row : List ℕ) (views : List (SeatView C N)) : Type 0 where
  pub legal : IsLegal truths.holds history
  pub by_seats : IsBySeats seats history
  pub each : EachFits truths seats (standing_after history) row views
  pub free : word.write ≡ false → row ≡ (standing_after history).row
  pub cells : length row ≡ N
  pub cells_after : length (standing_after history).row ≡ N

-- ---- the queues

-- One seat has the queues where the spinlock bit is set, and none where it is clear.
abbrev pub SpinHeldOnce : {C : Type 0} {N : ℕ} → Word → List (SeatView C N) → Type 0
SpinHeldOnce word views = takers views ≡ (if word.spin then 1 else 0)

-- the word's own bits of the lock list
abbrev pub bits_in : Word → Bits
bits_in word = record { waiting = word.waiting; conditional = word.cond; writer_waits = word.writer_waits; long = word.long }

-- While the spinlock bit is clear, the word tells what the lock list holds: that somebody waits long exactly where one who stands there has failed 30 times after being woken. While the waiting bit is clear, nobody stands there, and no acquire has the queues.
pub record BitsTell {C : Type 0} {N : ℕ} (word : Word) (lock : List (Waiter C)) (views : List (SeatView C N)) : Type 0 where
  pub at_home : word.spin ≡ false → bits_in word ≡ bits_of lock
  pub nobody : word.waiting ≡ false → (has_some lock ≡ false) × (queuers views ≡ 0)

-- ---- the waiters

-- whether a flag is set, and its seat not woken yet
abbrev pub is_armed : ℕ → Bool
is_armed flag = flag == 1

-- a seat waits, and its flag isn't cleared
abbrev pub is_unwoken : {C : Type 0} → Option (Walk C) → ℕ → Bool
is_unwoken walk flag = awaits walk && is_armed flag

-- Each seat that waits stands once in the lock list, or in lists of variables, in each once, or is owed one wake by one seat, or has its flag cleared and neither; every other seat stands nowhere and is owed nothing. Before it queues, a seat has set its flag. There are four variables.
pub record WaitersPlaced {C : Type 0} {N : ℕ} (lists : Lists C) (flags : ℕ → ℕ) (views : List (SeatView C N)) : Type 0 where
  pub placed : (seat : ℕ) → counts_in seat lists + owed_to seat views ≡ (if is_unwoken (walk_at seat views) (flags seat) then 1 else 0)
  pub once : (seat k : ℕ) → k < 4 → times_in seat (waiters_of lists (Cv k)) ≤ 1
  pub armed : (seat : ℕ) → has_armed (walk_at seat views) ≡ true → flags seat ≡ 1
  pub flag : (seat : ℕ) → flags seat < 10
  pub four : length lists.cvs ≡ 4

-- With which condition one stands in the lock list that waits so: one that waits for variables, and was moved there, with none. The place of a moved waiter still has its variables, and doesn't tell that it was moved.
abbrev pub cond_on : {C : Type 0} → Option (Subject C) → Option C
cond_on (Some (OnCondition c)) = Some c
cond_on on = None

abbrev pub lock_stance : {C : Type 0} → Option (Stance C) → Option (Mode × Option C × ℕ)
lock_stance None = None
lock_stance (Some stance) = Some (stance.mode, cond_on stance.on, stance.tries)

-- A waiter of the lock list is its seat's own: the seat waits in that mode, for that condition, if there is one, and has failed so often.
abbrev pub WaiterFits : {C : Type 0} {N : ℕ} → List (SeatView C N) → Waiter C → Type 0
WaiterFits views w = lock_stance (waits_in (walk_at w.seat views)) ≡ Some (w.mode, w.cond, w.tries)

-- Each waiter of the lock list is its seat's own.
abbrev pub WaitersOwn : {C : Type 0} {N : ℕ} → List (Waiter C) → List (SeatView C N) → Type 0
WaitersOwn lock views = Every (WaiterFits views) lock

-- A waiter of a variable's list is its seat's own, and waits for that variable, or for a set with it, by its place and by the history; it has no condition, and no tries, and names the variable.
pub record VariableWaiterFits {C : Type 0} {N : ℕ} (phases : ℕ → Phase C) (views : List (SeatView C N)) (k : ℕ) (w : Waiter C) : Type 0 where
  pub among : Variables
  pub stands : waits_in (walk_at w.seat views) ≡ Some (record { mode = w.mode; on = Some (OnVariables among); tries = 0 })
  pub waits : phases w.seat ≡ Waiting among w.mode
  pub is_among : has among k ≡ true
  pub plain : w.cond ≡ None
  pub untried : w.tries ≡ 0
  pub names : w.via ≡ Some k

-- The list of each variable has just the seats that wait for it, by the history, in their modes; and whoever waits waits for some variable.
pub record VariablesTell {C : Type 0} {N : ℕ} (phases : ℕ → Phase C) (lists : Lists C) (views : List (SeatView C N)) : Type 0 where
  pub own : (k : ℕ) → k < 4 → Every (VariableWaiterFits phases views k) (waiters_of lists (Cv k))
  pub all : (variables : Variables) (k seat : ℕ) (mode : Mode) → phases seat ≡ Waiting variables mode → has variables k ≡ true → (k < 4) × (1 ≤ times_in seat (waiters_of lists (Cv k)))
  pub some : (variables : Variables) (seat : ℕ) (mode : Mode) → phases seat ≡ Waiting variables mode → (k : ℕ) × (has variables k ≡ true)

-- ---- what the taken are told

-- What a flag of this value tells one that waits so, in this phase, and was taken from a list: one that waits for variables was woken by one of them, and finds its number in one of two values; any
-- other finds 0. Which of the two it is says from where it was taken, and that is said of the wakes that are owed (`OwesAs`).
abbrev pub ToldOn : {C : Type 0} → Option (Subject C) → Mode → Phase C → ℕ → Type 0
ToldOn (Some (OnVariables variables)) mode phase value = (k : ℕ) × (has variables k ≡ true) × (phase ≡ Woken k mode) × (k < 4) × ((value ≡ 2 + k) ⊎ (value ≡ 6 + k))
ToldOn on mode phase value = value ≡ 0

abbrev pub IsToldSo : {C : Type 0} → Option (Stance C) → Phase C → ℕ → Type 0
IsToldSo None phase value = Unit {0}
IsToldSo (Some stance) phase value = ToldOn stance.on stance.mode phase value

-- a wake tells its seat what is so
abbrev pub WakeTells : {C : Type 0} {N : ℕ} → (ℕ → Phase C) → List (SeatView C N) → Owed → Type 0
WakeTells phases views wake = IsToldSo (waits_in (walk_at wake.seat views)) (phases wake.seat) wake.value

-- What one names that stands in the lock list, waits so and is in this phase: one that waits for variables was woken by one of them, which moved it there, and names that; any other names none.
abbrev pub NamesOn : {C : Type 0} → Option (Subject C) → Mode → Phase C → Option ℕ → Type 0
NamesOn (Some (OnVariables variables)) mode phase via = (k : ℕ) × (has variables k ≡ true) × (phase ≡ Woken k mode) × (k < 4) × (via ≡ Some k)
NamesOn on mode phase via = via ≡ None

abbrev pub IsNamed : {C : Type 0} → Option (Stance C) → Phase C → Option ℕ → Type 0
IsNamed None phase via = Unit {0}
IsNamed (Some stance) phase via = NamesOn stance.on stance.mode phase via

abbrev pub WaiterNames : {C : Type 0} {N : ℕ} → (ℕ → Phase C) → List (SeatView C N) → Waiter C → Type 0
WaiterNames phases views w = IsNamed (waits_in (walk_at w.seat views)) (phases w.seat) w.via

-- Who waits and finds its flag cleared is told what is so; and it will be by each wake that is owed. Each in the lock list names the variable that its scan will tell of.
pub record TakenTold {C : Type 0} {N : ℕ} (phases : ℕ → Phase C) (flags : ℕ → ℕ) (lock : List (Waiter C)) (views : List (SeatView C N)) : Type 0 where
  pub flag : (seat : ℕ) → flags seat ≢ 1 → IsToldSo (waits_in (walk_at seat views)) (phases seat) (flags seat)
  pub owed : Every (WakeTells phases views) (owed_in views)
  pub listed : Every (WaiterNames phases views) lock

-- ---- nobody is forgotten

-- Where the `desig` bit is set, some seat is on its way that a scan took from the lock list. Such a seat has neither acquired nor queued since; one that was woken straight from a variable acquires as fresh, and doesn't count.
abbrev pub DesigOnItsWay : {C : Type 0} {N : ℕ} → Word → (ℕ → ℕ) → List (SeatView C N) → Type 0
DesigOnItsWay word flags views = word.desig ≡ true → (seat : ℕ) × (is_on_way (walk_at seat views) (flags seat) (called_to seat views) ≡ true)

-- nobody who stands in the lock list could go on at this row, and no acquire has the queues, to stand there without a condition
abbrev pub NobodyCouldGoOn : {C : Type 0} {N : ℕ} → (C → List ℕ → Bool) → List ℕ → List (Waiter C) → List (SeatView C N) → Type 0
NobodyCouldGoOn holds row lock views = (has_eligible (λ c. holds c row) lock ≡ false) × (queuers views ≡ 0)

-- With no holder and nobody on its way, the waiters are idle: no seat waits that could go on.
abbrev pub IdleWaitersFalse : {C : Type 0} {N : ℕ} → (C → List ℕ → Bool) → List ℕ → Word → List (Waiter C) → List (SeatView C N) → Type 0
IdleWaitersFalse holds row word lock views = word.write ≡ false → word.readers ≡ 0 → word.desig ≡ false → NobodyCouldGoOn holds row lock views

-- Where the word says that all conditions are false, they are, of the row that the history left.
abbrev pub AllFalseTrue : {C : Type 0} {N : ℕ} → (C → List ℕ → Bool) → List ℕ → Word → List (Waiter C) → List (SeatView C N) → Type 0
AllFalseTrue holds row word lock views = word.all_false ≡ true → NobodyCouldGoOn holds row lock views

-- The word that a seat has last seen has a number, so that an exchange can compare it with the lock's.
abbrev pub WordsSeen : {C : Type 0} {N : ℕ} → List (SeatView C N) → Type 0
WordsSeen views = Every (λ view. HasNumber (word_seen view.walk)) views

-- The law, of a lock with so many seats, with this history of all that was committed.
pub record IsLawful {C : Type 0} {N : ℕ} (truths : Truths C) (seats : ℕ) (history : List (Event C N)) (s : LockState C N) : Type 0 where
  pub one_writer : OneWriter s.word s.views
  pub readers_counted : ReadersCounted s.word s.views
  pub one_history : OneHistory truths seats history s.word s.row s.views
  pub spin_held_once : SpinHeldOnce s.word s.views
  pub bits_tell : BitsTell s.word s.lists.lock s.views
  pub waiters_placed : WaitersPlaced s.lists s.flags s.views
  pub waiters_own : WaitersOwn s.lists.lock s.views
  pub variables_tell : VariablesTell (standing_after history).phases s.lists s.views
  pub taken_told : TakenTold (standing_after history).phases s.flags s.lists.lock s.views
  pub desig_on_its_way : DesigOnItsWay s.word s.flags s.views
  pub idle_waiters_false : IdleWaitersFalse truths.holds (standing_after history).row s.word s.lists.lock s.views
  pub all_false_true : AllFalseTrue truths.holds (standing_after history).row s.word s.lists.lock s.views
  pub apart : AreApart s.views
  pub words_seen : WordsSeen s.views
