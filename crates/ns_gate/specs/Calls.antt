-- How far a call has come, as its caller follows it from step to step.
use Rattle.std.specs.Prelude.{List, None, Option, Some, [], false, length, ℕ, ◌++◌, ◌<◌, ◌∷◌, ◌≡◌}
use Rattle.ns_gate.specs.Names.{BeginsWith, Event, Held, IsBySeats, IsLegal, IsOne, IsSettled, Lists, Me, Means, Next, NextIs, Owed, PlaceFits, Reply, Request, SoFar, Truths, Walk, calls_of, has_queues, own_of, row_after}
use Rattle.ns_gate.specs.Law.{GateView}
use Rattle.ns_gate.specs.Steps.{the, course_by}

-- what the table says of one of its seats: its view, and the slots that it carries
abbrev pub SeatOf : Type 0 → ℕ → Type 0
SeatOf C N = Me (Lists C) (List (GateView C N))

-- What a seat has seen is a legal history by the seats that there are, and the seat's own events in it are just its own.
pub record IsTrueToHistory {C : Type 0} {N : ℕ} (truths : Truths C) (seat_count seat : ℕ) (seen mine : List (Event C N)) : Type 0 where
  pub legal : IsLegal truths.holds seen
  pub by_seats : IsBySeats seat_count seen
  pub own : own_of seen seat ≡ mine

-- the rows of a section in hand have N cells
abbrev pub IsWide : {C : Type 0} {N : ℕ} → Option (Held C N) → Type 0
IsWide None = Unit {0}
IsWide {C} {N} (Some held) = (length held.before ≡ N) × (length held.row ≡ N)

-- A seat between its calls: it stands for itself alone and carries nothing, is in no call and owes no wake; its section, if it has one in hand, may be left, and its rows are as wide as the lock's.
pub record IsAtRest {C : Type 0} {N : ℕ} (truths : Truths C) (me : SeatOf C N) : Type 0 where
  pub one : IsOne me.0
  pub empty : me.1 ≡ []
  pub over : (the me.0).at.walk ≡ None
  pub owes : (the me.0).at.owed ≡ []
  pub settled : IsSettled truths (the me.0).at.held
  pub wide : IsWide (the me.0).at.held
  pub true_to : IsTrueToHistory truths (the me.0).seat_count (the me.0).at.seat (the me.0).told.seen (the me.0).told.mine

-- The same seat behind some steps of one call, the first of which began it, if the call is named, and else in the midst of it: it has seen more; what the call has committed since stands behind its
-- own events, and behind what the call had committed; and it has begun that call and no other. Where a call stands (`IsAtPlace`, `HasAnswered`, `HasReached`) is said apart from how it came there. So a loop says how far it takes any call, and its caller joins two parts of the way (`since_then`).
pub record HasSince {C : Type 0} {N : ℕ} (begun : Option (Walk C)) (v w : GateView C N) : Type 0 where
  pub seat_count : w.seat_count ≡ v.seat_count
  pub seat : w.at.seat ≡ v.at.seat
  pub begins : BeginsWith w.told.seen v.told.seen
  pub commits : List (Event C N)
  pub mine : w.told.mine ≡ v.told.mine ++ commits
  pub committed : w.course.committed ≡ (course_by begun v).committed ++ commits
  pub began : w.course.began ≡ (course_by begun v).began
  pub calls : w.told.begun ≡ v.told.begun ++ calls_of begun

-- the number of the seat that is owed the next wake is below 64
abbrev pub OwesBelow : List Owed → Type 0
OwesBelow [] = Unit {0}
OwesBelow (wake ∷ others) = wake.seat < 64

-- A seat stands at this place of its call, which has come as far as the place tells, with what the place needs; the rows of its section, if it has one in hand, are as wide as the lock's; it carries nothing, but where the place has the queues.
pub record IsAtPlace {C : Type 0} {N : ℕ} (truths : Truths C) (walk : Walk C) (me : SeatOf C N) : Type 0 where
  pub one : IsOne me.0
  pub empty : has_queues (Some walk) ≡ false → me.1 ≡ []
  pub walks : (the me.0).at.walk ≡ Some walk
  pub so_far : SoFar truths (the me.0).at.seat (the me.0).course walk (the me.0).at.held
  pub owes : OwesBelow (the me.0).at.owed
  pub fits : PlaceFits truths (Some walk) (the me.0).at.held
  pub wide : IsWide (the me.0).at.held

-- A call that was asked to do this is over, and its answer means what it says.
pub record HasAnswered {C : Type 0} {N : ℕ} (truths : Truths C) (request : Request C) (reply : Reply) (me : SeatOf C N) : Type 0 where
  pub rest : IsAtRest truths me
  pub means : Means truths (the me.0).at.seat (row_after (the me.0).told.seen) request (the me.0).course reply (the me.0).at.held

-- where a step leads a call that was asked to do this: to a place of its walk, whether or not the step found what to go on with, or to its answer
abbrev pub HasReached : {C : Type 0} {N : ℕ} → Truths C → Request C → Next (Walk C) Reply → SeatOf C N → Type 0
HasReached truths request next me = NextIs (λ walk. IsAtPlace truths walk me) (λ reply. HasAnswered truths request reply me) next
