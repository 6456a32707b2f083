-- A list of waiters by links: each waiter lies in the entry of its seat, and links go from place to place and back.
use Rattle.std.specs.Prelude.{Bool, List, None, Option, Some, [], count_by, if◌then◌else◌, length, not, slice_index, slice_index_or, suc, zero, ℕ, ◌&&◌, ◌+◌, ◌-◌, ◌==◌, ◌∷◌, ◌≡◌, ◌≤◌}
use Rattle.ns_queue.specs.Names.{Counts, Waiter, one_if}
use Rattle.ns_queue.specs.Waiters.{times_in, without_in, HaveSeats, has_condition, writes, is_long}

-- the waiter of a seat, if it stands in the list
abbrev pub seated : {C : Type 0} → ℕ → List (Waiter C) → Option (Waiter C)
seated seat [] = None
seated seat (w ∷ ws) = if w.seat == seat then Some w else seated seat ws

-- the variable that a waiter names, if there is one and it does
abbrev pub via_in : {C : Type 0} → Option (Waiter C) → Option ℕ
via_in None = None
via_in (Some w) = w.via

-- those in front of a seat, which is everybody where it stands not
abbrev pub ahead : {C : Type 0} → ℕ → List (Waiter C) → List (Waiter C)
ahead seat [] = []
ahead seat (w ∷ ws) = if w.seat == seat then [] else w ∷ ahead seat ws

-- those behind a seat, which is nobody where it stands not
abbrev pub behind : {C : Type 0} → ℕ → List (Waiter C) → List (Waiter C)
behind seat [] = []
behind seat (w ∷ ws) = if w.seat == seat then ws else behind seat ws

-- those from a seat on
abbrev pub from : {C : Type 0} → ℕ → List (Waiter C) → List (Waiter C)
from seat [] = []
from seat (w ∷ ws) = if w.seat == seat then w ∷ ws else from seat ws

-- the place of the first, or this one behind the list
abbrev pub first_seat : {C : Type 0} → ℕ → List (Waiter C) → ℕ
first_seat end [] = end
first_seat end (w ∷ ws) = w.seat

-- the place of the last, or this one in front of the list
abbrev pub last_seat : {C : Type 0} → ℕ → List (Waiter C) → ℕ
last_seat start [] = start
last_seat start (w ∷ ws) = last_seat w.seat ws

-- one place's link leads to the other, and the other's link back leads to it
abbrev pub Hop : List ℕ → List ℕ → ℕ → ℕ → Type 0
Hop next prev a b = (slice_index next a ≡ b) × (slice_index prev b ≡ a)

-- the links lead from a place by the waiters' seats to another place, and back
abbrev pub Hops : {C : Type 0} → List ℕ → List ℕ → ℕ → List (Waiter C) → ℕ → Type 0
Hops next prev a [] b = Hop next prev a b
Hops next prev a (w ∷ ws) b = Hop next prev a w.seat × Hops next prev w.seat ws b

-- a waiter in front of others, if there is one
abbrev pub after_one : {C : Type 0} → Option (Waiter C) → List (Waiter C) → List (Waiter C)
after_one None ws = []
after_one (Some w) ws = w ∷ ws

-- what lies at the places that the links lead to
unfoldable pub gather : {C : Type 0} → List (Option (Waiter C)) → List ℕ → ℕ → ℕ → List (Waiter C)
gather held next zero seat = []
gather held next (suc n) seat = after_one (slice_index_or held seat None) (gather held next n (slice_index next seat))

-- nobody stands in the list twice, and each has a seat below 64
pub record IsRow {C : Type 0} (ws : List (Waiter C)) : Type 0 where
  pub once : (seat : ℕ) → times_in seat ws ≤ 1
  pub below : HaveSeats ws

-- the entries and their links hold this list, and nobody else
pub record IsRing {C : Type 0} (held : List (Option (Waiter C))) (next prev : List ℕ) (ws : List (Waiter C)) : Type 0 where
  pub hops : Hops next prev 64 ws 64
  pub held_by : (seat : ℕ) → slice_index_or held seat None ≡ seated seat ws
  pub once : (seat : ℕ) → times_in seat ws ≤ 1
  pub below : HaveSeats ws
  pub entries : length held ≡ 64
  pub nexts : length next ≡ 65
  pub prevs : length prev ≡ 65

-- whether the waiter waits to write, without a condition
abbrev pub writes_plainly : {C : Type 0} → Waiter C → Bool
writes_plainly w = writes w && not (has_condition w)

-- how many there are, and how many of each kind
abbrev pub counts_of : {C : Type 0} → List (Waiter C) → Counts
counts_of ws = record { len = length ws; conditional = count_by has_condition ws; plain_writers = count_by writes_plainly ws; long = count_by is_long ws }

-- the counts with one waiter more
abbrev pub counts_more : {C : Type 0} → Counts → Waiter C → Counts
counts_more c w = record { len = c.len + 1; conditional = c.conditional + one_if (has_condition w); plain_writers = c.plain_writers + one_if (writes_plainly w); long = c.long + one_if (is_long w) }

-- the counts with one waiter less
abbrev pub counts_less : {C : Type 0} → Counts → Waiter C → Counts
counts_less c w = record { len = c.len - 1; conditional = c.conditional - one_if (has_condition w); plain_writers = c.plain_writers - one_if (writes_plainly w); long = c.long - one_if (is_long w) }

-- no kind has more than there are
pub record AreCounts (c : Counts) : Type 0 where
  pub conditional : c.conditional ≤ c.len
  pub plain_writers : c.plain_writers ≤ c.len
  pub long : c.long ≤ c.len

-- the counts count the waiter
pub record DoCount {C : Type 0} (c : Counts) (w : Waiter C) : Type 0 where
  pub one : 1 ≤ c.len
  pub conditional : one_if (has_condition w) ≤ c.conditional
  pub plain_writers : one_if (writes_plainly w) ≤ c.plain_writers
  pub long : one_if (is_long w) ≤ c.long

-- the entries, links and counts hold this list
pub record Holds {C : Type 0} (held : List (Option (Waiter C))) (next prev : List ℕ) (counts : Counts) (ws : List (Waiter C)) : Type 0 where
  pub ring : IsRing held next prev ws
  pub counted : counts ≡ counts_of ws

-- the list without these seats, of which the last is taken out first
abbrev pub without_all : {C : Type 0} → List ℕ → List (Waiter C) → List (Waiter C)
without_all [] ws = ws
without_all (seat ∷ seats) ws = without_in seat (without_all seats ws)
