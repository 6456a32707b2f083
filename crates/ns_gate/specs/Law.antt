-- The rule of a gate's table: word 0 is the lock word, the cells follow, and then each seat's flag. The slot has the queues.
use Rattle.std.specs.Prelude.{Bool, IfSome, List, None, Some, [], false, length, nat_lt, replicate, slice_get, slice_index, true, ℕ, ◌+◌, ◌<◌, ◌∷◌, ◌≡◌, ◌≤◌}
use Rattle.ns_gate.specs.Names.{Course, Event, Every, Fault, HoldsBy, IsLawful, IsTold, Lists, LockState, OutOfMemory, SeatView, SoFar, TableState, Told, TooManySeats, Truths, ViewsOf, Word, course_from, has_queues, is_numbered, none, nothing_told, number_of, numbered, one_if, some, tally}
use mathlib.Core.Option as TheOption

-- What one seat of a gate knows: how many seats there are, itself as the machine sees it, what it was told, how far the call in progress has come, and how the lists stood at home when it last made a step.
pub record GateView (C : Type 0) (N : ℕ) : Type 0 where
  pub seat_count : ℕ
  pub at : SeatView C N
  pub told : Told C N
  pub course : Course C N
  pub stood : Lists C

-- what all seats know, a list for each seat of the table
abbrev pub Views : Type 0 → ℕ → Type 0
Views C N = ViewsOf (GateView C N)

-- the slot's content, where it is at home
abbrev pub Homes : Type 0 → Type 0
Homes C = List (TheOption.Option (Lists C))

-- the number of a seat
abbrev pub number_of_seat : {C : Type 0} {N : ℕ} → GateView C N → ℕ
number_of_seat view = view.at.seat

-- 1 for the seat of this number
abbrev pub is_seat : {C : Type 0} {N : ℕ} → ℕ → GateView C N → ℕ
is_seat = is_numbered number_of_seat

-- the call that a seat is in has come so far, if it is in one
abbrev pub HasCome : {C : Type 0} {N : ℕ} → Truths C → Course C N → SeatView C N → Type 0
HasCome truths course view = IfSome view.walk (λ walk. SoFar truths view.seat course walk view.held)

-- What one of so many seats knows fits the history and the state: it stands there at its number, was told of that history, and its call has come so far; who has the queues knows how they stood at home.
pub record Fits {C : Type 0} {N : ℕ} (truths : Truths C) (seat_count : ℕ) (history : List (Event C N)) (s : LockState C N) (view : GateView C N) : Type 0 where
  pub limited : view.seat_count ≡ seat_count
  pub stands : slice_get s.views view.at.seat ≡ Some view.at
  pub told : IsTold truths.holds seat_count history view.at.seat view.at.walk view.told
  pub come : HasCome truths view.course view.at
  pub stood : has_queues view.at.walk ≡ true → view.stood ≡ s.lists

-- the table's words show this lock word, these cells and these flags
pub record Shows (N : ℕ) (words : List ℕ) (word : Word) (row : List ℕ) (flags : ℕ → ℕ) : Type 0 where
  pub width : length words ≡ N + 65
  pub word_is : slice_index words 0 ≡ number_of word
  pub cells : (i : ℕ) → i < N → slice_index words (i + 1) ≡ slice_index row i
  pub flags_are : (seat : ℕ) → seat < 64 → slice_index words (seat + (N + 1)) ≡ flags seat

-- the queues are at home while the spinlock bit is clear
abbrev pub AtHome : {C : Type 0} → Bool → Lists C → Homes C → Type 0
AtHome true lists homes = homes ≡ none ∷ []
AtHome false lists homes = homes ≡ some lists ∷ []

-- the state of the machine that a table shows, and the history
pub record Underlying (C : Type 0) (N : ℕ) : Type 0 where
  pub state : LockState C N
  pub history : List (Event C N)

-- The rule: the words, the slot and the views make up a state that is lawful with this history; each of the seats stands in just one view, and no other; and each was told what a seat is told.
pub record IsRuled {C : Type 0} {N : ℕ} (truths : Truths C) (seat_count : ℕ) (words : List ℕ) (homes : Homes C) (views : Views C N) (shown : Underlying C N) : Type 0 where
  pub few : seat_count ≤ 64
  pub lawful : IsLawful truths seat_count shown.history shown.state
  pub shows : Shows N words shown.state.word shown.state.row shown.state.flags
  pub home : AtHome shown.state.word.spin shown.state.lists homes
  pub seats : (seat : ℕ) → tally (is_seat seat) views ≡ one_if (nat_lt seat seat_count)
  pub each : Every (Every (Fits truths seat_count shown.history shown.state)) views

-- The rule of a table with so many seats: there is such a state, and a history.
abbrev pub Holds : {C : Type 0} {N : ℕ} → Truths C → ℕ → TableState (Lists C) (List (GateView C N)) → Type 0
Holds truths seat_count = HoldsBy (IsRuled truths seat_count)

-- nobody waits
abbrev pub no_lists : {C : Type 0} → Lists C
no_lists = record { lock = []; cvs = replicate 4 [] }

-- a seat that has made no step
abbrev pub fresh_seat : {C : Type 0} {N : ℕ} → ℕ → ℕ → GateView C N
fresh_seat seat_count seat = record { seat_count = seat_count; at = record { seat = seat; walk = None; held = None; owed = [] }; told = nothing_told; course = course_from None; stood = no_lists }

-- so many of them, from a number on
abbrev pub fresh : {C : Type 0} {N : ℕ} → ℕ → ℕ → ℕ → List (GateView C N)
fresh seat_count = numbered (fresh_seat seat_count)

-- why no gate is made: more than 64 seats, or want of memory where there are no more
abbrev pub RefusesGate : ℕ → Fault → Type 0
RefusesGate seats TooManySeats = 64 < seats
RefusesGate seats OutOfMemory = seats ≤ 64
