-- What contracts see of a caller, and how it grows.
use Rattle.std.specs.Prelude.{Bool, List, None, Option, Some, [], not, true, ℕ, ◌++◌, ◌∷◌, ◌≡◌}
use Rattle.ns_monitor.specs.Names.{AreNewBy, AreOfOneHistoryBy, BeginsWith, Event, Held, InHand, IsLawful, IsTrueToHistory, Lists, LockState, Mode, Owed, Releasing, SeatOf, Sight, TableId, Truths, Walk, is_held, new_section, own_of, row_after, section_of, the}
use Rattle.ns_monitor.specs.Walks.{releasing_by}
use Rattle.ns_model.specs.declared.event.Exit.TheVariants as TheExit

-- what contracts see of a seat or a section: its monitor, how many seats that has, its own number, the history that it has seen, its own events, the calls that it has begun, by their first places,
-- the section in hand, the place in the call that is in progress, what it carries of the monitor, by number: the waiter queues, while it has them in hand, and the seats to which it owes wakes
pub record Known (C : Type 0) (N : ℕ) : Type 0 where
  pub monitor : TableId
  pub seat_count : ℕ
  pub seat : ℕ
  pub seen : List (Event C N)
  pub mine : List (Event C N)
  pub begun : List (Walk C)
  pub held : Option (Held C N)
  pub call : Option (Walk C)
  pub carries : List (ℕ × Lists C)
  pub owed : List Owed

-- what a seat of the gate shows of itself
abbrev pub known_of : {C : Type 0} {N : ℕ} → TableId → SeatOf C N → Known C N
known_of monitor me = let view = the me.0 in record { monitor = monitor; seat_count = view.seat_count; seat = view.at.seat; seen = view.told.seen; mine = view.told.mine; begun = view.told.begun; held = view.at.held; call = view.at.walk; carries = me.1; owed = view.at.owed }

-- The same caller behind one call that began so: what it has seen begins with what it had seen, and is a legal history by the seats that there are, in which its own events are just its own; it has begun that call and no other, which is over; and it owes no wake, and carries nothing.
pub record Grows {C : Type 0} {N : ℕ} (truths : Truths C) (call : Walk C) (old new : Known C N) : Type 0 where
  pub monitor : new.monitor ≡ old.monitor
  pub seat_count : new.seat_count ≡ old.seat_count
  pub seat : new.seat ≡ old.seat
  pub begins : BeginsWith new.seen old.seen
  pub begun : new.begun ≡ old.begun ++ call ∷ []
  pub true_to : IsTrueToHistory truths new.seat_count new.seat new.seen new.mine
  pub over : new.call ≡ None
  pub owes : new.owed ≡ []
  pub empty : new.carries ≡ []

-- The same where the call has changed nothing: the caller's own events and its section are as they were.
pub record HasSeenMore {C : Type 0} {N : ℕ} (truths : Truths C) (call : Walk C) (old new : Known C N) : Type 0 where
  pub grows : Grows truths call old new
  pub mine : new.mine ≡ old.mine
  pub held : new.held ≡ old.held

-- The same where the call has acquired the lock: the section in hand is in this mode, said to begin plainly, at the row after all that the caller has seen, with nothing changed in it.
pub record HasLocked {C : Type 0} {N : ℕ} (truths : Truths C) (call : Walk C) (mode : Mode) (old new : Known C N) : Type 0 where
  pub grows : Grows truths call old new
  pub mine : new.mine ≡ old.mine
  pub section : new.held ≡ Some (new_section mode (row_after new.seen))

-- The same where the call has ended the section that was in hand: it is committed as it was, as the last of the caller's own events.
pub record HasUnlocked {C : Type 0} {N : ℕ} (truths : Truths C) (releasing : Releasing) (old new : Known C N) : Type 0 where
  pub grows : Grows truths (releasing_by releasing) old new
  pub mine : InHand old.held (λ section. new.mine ≡ old.mine ++ section_of truths.holds old.seat section TheExit.Plain ∷ [])

-- a seat of a new monitor with so many: it has seen and done nothing, and has nothing in hand
abbrev pub new_seat : {C : Type 0} {N : ℕ} → TableId → ℕ → ℕ → Known C N
new_seat monitor seat_count seat = record { monitor = monitor; seat_count = seat_count; seat = seat; seen = []; mine = []; begun = []; held = None; call = None; carries = []; owed = [] }

-- the seats of a new monitor, from a number on
abbrev pub AreNew : {C : Type 0} {N : ℕ} → ℕ → TableId → ℕ → List (Known C N) → Type 0
AreNew seat_count monitor = AreNewBy (new_seat monitor seat_count)

-- Nothing of the caller has changed but what it has seen: a legal history by the seats that there are, which begins with what it had seen, and in which its own events are just its own. It is in no call, owes no wake, and carries nothing.
pub record HasLearned {C : Type 0} {N : ℕ} (truths : Truths C) (old new : Known C N) : Type 0 where
  pub monitor : new.monitor ≡ old.monitor
  pub seat_count : new.seat_count ≡ old.seat_count
  pub seat : new.seat ≡ old.seat
  pub begins : BeginsWith new.seen old.seen
  pub mine : new.mine ≡ old.mine
  pub begun : new.begun ≡ old.begun
  pub held : new.held ≡ old.held
  pub true_to : IsTrueToHistory truths new.seat_count new.seat new.seen new.mine
  pub over : new.call ≡ None
  pub owes : new.owed ≡ []
  pub empty : new.carries ≡ []

-- what a caller has seen
abbrev pub sight_of : {C : Type 0} {N : ℕ} → Known C N → Sight (Event C N)
sight_of k = record { seat = k.seat; seen = k.seen; mine = k.mine }

-- Of two callers, one has seen all that the other has: a history that begins with what the other has seen, in which the events of both are just their own.
abbrev pub AreOfOneHistory : {C : Type 0} {N : ℕ} → Known C N → Known C N → Type 0
AreOfOneHistory first second = AreOfOneHistoryBy own_of (sight_of first) (sight_of second)

-- The monitor has come to a lawful state, with a history that begins with what the caller has seen and has just the caller's events as its own; the cells are that state's row, and the lock is free or held as is told. Where it is free, they are the row after that history.
pub record EndsAs {C : Type 0} {N : ℕ} (truths : Truths C) (k : Known C N) (row : List ℕ) (free : Bool) : Type 0 where
  pub history : List (Event C N)
  pub state : LockState C N
  pub lawful : IsLawful truths k.seat_count history state
  pub begins : BeginsWith history k.seen
  pub own : own_of history k.seat ≡ k.mine
  pub row_is : row ≡ state.row
  pub free_is : free ≡ not (is_held state.word)
  pub after : free ≡ true → row ≡ row_after history
