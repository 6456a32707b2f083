-- The links of the runs: from each waiter to its run's first, and from that one to the run's last.
use Rattle.std.specs.Prelude.{Bool, List, None, Option, Some, [], drop, false, if◌then◌else◌, length, slice_index, ℕ, ◌<◌, ◌∷◌, ◌≡◌}
use Rattle.ns_queue.specs.Names.{Sought, Waiter}
use Rattle.ns_queue.specs.Waiters.{times_in, without_in}
use Rattle.ns_queue.specs.Scans.{is_alike}
use Rattle.ns_queue.specs.Tests.{in_front, tests_seeking}
use Rattle.ns_queue.specs.Rings.{IsRow, ahead, behind, first_seat, from, last_seat}

-- the place of a run's first, or that behind the list where there is no run
abbrev pub place_of : {C : Type 0} → Option (Waiter C) → ℕ
place_of None = 64
place_of (Some w) = w.seat

-- whether a waiter goes on with the run of this first
abbrev pub joins : {C : Type 0} → (C → C → Bool) → Waiter C → Option (Waiter C) → Bool
joins same w None = false
joins same w (Some first) = is_alike same w.cond first.cond

-- the first of the run that a waiter stands in, behind a run of this first
abbrev pub head_of : {C : Type 0} → (C → C → Bool) → Waiter C → Option (Waiter C) → Option (Waiter C)
head_of same w first = if joins same w first then first else Some w

-- the first of the last run, behind a run of this first
abbrev pub last_run : {C : Type 0} → (C → C → Bool) → Option (Waiter C) → List (Waiter C) → Option (Waiter C)
last_run same first [] = first
last_run same first (w ∷ ws) = last_run same (head_of same w first) ws

-- the links of these waiters, behind a run of this first whose last so far stands at a place: each waiter links to its run's first, and where a waiter begins a run, the first of the run before links to that run's last
abbrev pub RunLinks : {C : Type 0} → (C → C → Bool) → List ℕ → List ℕ → Option (Waiter C) → ℕ → List (Waiter C) → Type 0
RunLinks same heads lasts first before [] = Unit {0}
RunLinks same heads lasts first before (w ∷ ws) =
    (joins same w first ≡ false → slice_index lasts (place_of first) ≡ before) × (slice_index heads w.seat ≡ place_of (head_of same w first)) × RunLinks same heads lasts (head_of same w first) w.seat ws

-- the links of these waiters, and the link of the last run's first to the last waiter
pub record RunsOn {C : Type 0} (same : C → C → Bool) (heads lasts : List ℕ) (first : Option (Waiter C)) (before : ℕ) (ws : List (Waiter C)) : Type 0 where
  pub links : RunLinks same heads lasts first before ws
  pub ended : slice_index lasts (place_of (last_run same first ws)) ≡ last_seat before ws

-- the links of a list's runs
pub record IsRuns {C : Type 0} (same : C → C → Bool) (heads lasts : List ℕ) (ws : List (Waiter C)) : Type 0 where
  pub on : RunsOn same heads lasts None 64 ws
  pub end : slice_index heads 64 ≡ 64
  pub heads_all : length heads ≡ 65
  pub lasts_all : length lasts ≡ 65

-- behind each waiter that links to itself the links are those of a list in which it begins a run
abbrev pub StandRuns : {C : Type 0} → (C → C → Bool) → List ℕ → List ℕ → List (Waiter C) → Type 0
StandRuns same heads lasts [] = Unit {0}
StandRuns same heads lasts (w ∷ ws) = (slice_index heads w.seat ≡ w.seat → RunsOn same heads lasts (Some w) w.seat ws) × StandRuns same heads lasts ws

-- the links are made up to a place: in front of it stands a run of this first whose last so far is the waiter before, and behind it the links stand where a run begins at a waiter that links to itself
pub record MadeUpTo {C : Type 0} (same : C → C → Bool) (heads lasts : List ℕ) (head before at : ℕ) (ws : List (Waiter C)) : Type 0 where
  pub links : RunLinks same heads lasts None 64 (ahead at ws)
  pub head_is : head ≡ place_of (last_run same None (ahead at ws))
  pub before_is : before ≡ last_seat 64 (ahead at ws)
  pub rest : StandRuns same heads lasts (from at ws)
  pub end : slice_index heads 64 ≡ 64
  pub heads_all : length heads ≡ 65
  pub lasts_all : length lasts ≡ 65

-- the seat of the first who is taken, or the place behind the list
abbrev pub sought_seat : {C : Type 0} → (C → Bool) → List (Waiter C) → ℕ
sought_seat meets ws = first_seat 64 (drop (in_front meets ws) ws)

-- what a search of this list finds: that seat, and how many conditions it has tested then
abbrev pub sought_of : {C : Type 0} → (C → C → Bool) → (C → Bool) → List (Waiter C) → Sought
sought_of same meets ws = record { seat = sought_seat meets ws; tests = tests_seeking same meets None ws }

-- a seat was taken out of a list from between two places, and the links of the runs are still those of that list
pub record WereTaken {C : Type 0} (same : C → C → Bool) (heads lasts : List ℕ) (seat before next : ℕ) (ws : List (Waiter C)) : Type 0 where
  pub was : List (Waiter C)
  pub row : IsRow was
  pub stood : 0 < times_in seat was
  pub left : ws ≡ without_in seat was
  pub before_is : before ≡ last_seat 64 (ahead seat was)
  pub next_is : next ≡ first_seat 64 (behind seat was)
  pub runs : IsRuns same heads lasts was
