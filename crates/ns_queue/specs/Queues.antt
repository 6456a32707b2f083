-- The five lists.
use Rattle.std.specs.Prelude.{List, Some, [], if◌then◌else◌, length, map, slice_index_or, slice_set, suc, sum_by, zero, ℕ, ◌++◌, ◌+◌, ◌<◌, ◌∷◌, ◌≡◌, ◌≤◌}
use Rattle.ns_queue.specs.Names.{Cv, Cvs, Lock, Seats, Waiter, Which}
use Rattle.ns_model.specs.Cvs.{is_in}
use Rattle.ns_queue.specs.Waiters.{outside, times_in, without_in}

-- the list of the lock, front first, and those of the condition variables, by their numbers
pub record Lists (C : Type 0) : Type 0 where
  pub lock : List (Waiter C)
  pub cvs : List (List (Waiter C))

-- a list that there is
abbrev pub IsList : Which → Type 0
IsList Lock = Unit {0}
IsList (Cv k) = k < 4

-- the waiters of a list
abbrev pub waiters_of : {C : Type 0} → Lists C → Which → List (Waiter C)
waiters_of lists Lock = lists.lock
waiters_of lists (Cv k) = slice_index_or lists.cvs k []

-- the lists with other waiters in one of them
abbrev pub with_waiters : {C : Type 0} → Lists C → Which → List (Waiter C) → Lists C
with_waiters lists Lock ws = record { lock = ws; cvs = lists.cvs }
with_waiters lists (Cv k) ws = record { lock = lists.lock; cvs = slice_set lists.cvs k ws }

-- the waiter, as it stands in the list of this variable
abbrev pub named_for : {C : Type 0} → ℕ → Waiter C → Waiter C
named_for k w = record w { via = Some k }

-- the lists with a waiter behind the others in each list of those variables of a set whose numbers are below n
abbrev pub with_each : {C : Type 0} → ℕ → Cvs → Waiter C → Lists C → Lists C
with_each zero cvs w lists = lists
with_each (suc n) cvs w lists = if is_in cvs n then with_waiters (with_each n cvs w lists) (Cv n) (waiters_of (with_each n cvs w lists) (Cv n) ++ named_for n w ∷ []) else with_each n cvs w lists

-- how often a seat stands in the lists
abbrev pub times : {C : Type 0} → ℕ → Lists C → ℕ
times seat lists = times_in seat lists.lock + sum_by (times_in seat) lists.cvs

-- the lists without a seat
abbrev pub without : {C : Type 0} → ℕ → Lists C → Lists C
without seat lists = record { lock = without_in seat lists.lock; cvs = map (without_in seat) lists.cvs }

-- the lists, those of variables without the seats of a set
abbrev pub cvs_without : {C : Type 0} → Seats → Lists C → Lists C
cvs_without set lists = record { lock = lists.lock; cvs = map (outside set) lists.cvs }

-- how often a seat stands in the lock's list and in that of a variable
abbrev pub beside : {C : Type 0} → Lists C → ℕ → ℕ → ℕ
beside lists seat k = times_in seat lists.lock + times_in seat (waiters_of lists (Cv k))

-- There are four variables. A seat stands once in the list of the lock, or once in any of those of variables; and each that stands somewhere is below 64.
pub record IsOrderly {C : Type 0} (lists : Lists C) : Type 0 where
  pub four : length lists.cvs ≡ 4
  pub once : (seat k : ℕ) → k < 4 → beside lists seat k ≤ 1
  pub below : (seat : ℕ) → 64 ≤ seat → times seat lists ≡ 0
