-- The five lists and their parts fit in memory, over any condition.
use Rattle.std.proofs.Common.{arith}
use Rattle.std.specs.Mem.{FitsInMemory}
use Rattle.std.specs.Prelude.{ℕ, ◌*◌, ◌+◌, ◌<◌, ◌^◌, ◌≤◌}
use Rattle.std.specs.contracts.option.Option.{the_row as option_row}
use Rattle.ns_queue.specs.Names.{Ghosts, HasRoom, RattleType, Ty, array_at, copied, layout, list_row, number, param, room, room_enough, size, small_by, ty_array, u64, unit, value_of}
use Rattle.ns_queue.specs.contracts.waiter.Waiter.{the_row as waiter_row}
use Rattle.ns_queue.specs.contracts.lock_list.LockList.{the_row as lock_row}
use Rattle.ns_queue.specs.contracts.ring.Ring.{the_row as ring_row}
use Rattle.ns_queue.specs.contracts.queues.Queues.{the_row as queues_row}

below_trans : (n few most : ℕ) → n < few → few < most → n < most
below_trans n few most less small = omega (arith, less, small)

-- 64 entries of a type that takes little, and the links beside them
entries_few : (τ : Ty) → room τ < 2 ^ 40 → (beside : ℕ) → beside < 2 ^ 20 → 2 + 3 * (room (ty_array τ 64) + beside) < 2 ^ 63
entries_few τ few beside small = let one = room_enough τ in omega (arith, one, few, small)

-- 64 entries of a type that takes little, and what stands beside them; of any type, so that no size is worked out
entries_small : (τ : Ty) → room τ < 2 ^ 40 → (beside around : ℕ) → beside < 2 ^ 20 → around < 2 ^ 20 → 2 + 3 * ((2 + 3 * (room (ty_array τ 64) + beside)) + around) < 2 ^ 52
entries_small τ few beside around small near = let one = room_enough τ in omega (arith, one, few, small, near)

-- the lock list takes little by the bound, whatever its conditions mean
lock_room : (C N : RattleType) (means : Ghosts (copied 0 C).Denot (value_of (param 1 N))) → HasRoom (copied 0 C) (param 1 N) → room (layout (lock_row (copied 0 C) (param 1 N) means)) < 2 ^ 52
lock_room C N means small =
    let one = room_enough (layout (waiter_row (copied 0 C))) in
    entries_small (layout (option_row (waiter_row (copied 0 C)))) (omega (arith, one, small.0)) _ _ (omega arith) (omega arith)

-- a variable's list does too
list_room : (C N : RattleType) → HasRoom (copied 0 C) (param 1 N) → room (layout (list_row (waiter_row (copied 0 C)) (number 64) unit)) < 2 ^ 50
list_room C N small = let one = room_enough (layout (waiter_row (copied 0 C))) in omega (arith, one, small.0)

-- so all five do; of any types of list, so that no size is worked out
five_small : (σ τ : Ty) → room σ < 2 ^ 52 → room τ < 2 ^ 50 → 2 + 3 * (room σ + (room (ty_array τ 4) + 0)) < 2 ^ 56
five_small σ τ first few = let one = room_enough τ in omega (arith, one, few, first)

-- how little: so a record with the queues in it fits, too
pub queues_room : (C N : RattleType) (means : Ghosts (copied 0 C).Denot (value_of (param 1 N))) → HasRoom (copied 0 C) (param 1 N) → room (layout (queues_row (copied 0 C) (param 1 N) means)) < 2 ^ 56
queues_room C N means small = five_small (layout (lock_row (copied 0 C) (param 1 N) means)) (layout (list_row (waiter_row (copied 0 C)) (number 64) unit)) (lock_room C N means small) (list_room C N small)

-- they fit where a condition and a row have room
pub queues_fit : (C N : RattleType) → HasRoom (copied 0 C) (param 1 N) → (means : Ghosts (copied 0 C).Denot (value_of (param 1 N))) → FitsInMemory (queues_row (copied 0 C) (param 1 N) means)
queues_fit C N small means =
    small_by (layout (queues_row (copied 0 C) (param 1 N) means)) (below_trans _ (2 ^ 56) _ (queues_room C N means small) (omega arith))

-- so does the lock list alone
pub lock_fits : (C N : RattleType) → HasRoom (copied 0 C) (param 1 N) → (means : Ghosts (copied 0 C).Denot (value_of (param 1 N))) → FitsInMemory (lock_row (copied 0 C) (param 1 N) means)
lock_fits C N small means = small_by (layout (lock_row (copied 0 C) (param 1 N) means)) (below_trans _ (2 ^ 52) _ (lock_room C N means small) (omega arith))

-- and its row of links
pub ring_fits : (C N : RattleType) → HasRoom (copied 0 C) (param 1 N) → FitsInMemory (ring_row (copied 0 C) (param 1 N))
ring_fits C N small =
    let one = room_enough (layout (waiter_row (copied 0 C))) in
    let few : room (layout (ring_row (copied 0 C) (param 1 N))) < 2 ^ 63 = entries_few (layout (option_row (waiter_row (copied 0 C)))) (omega (arith, one, small.0)) _ (omega arith) in
    small_by (layout (ring_row (copied 0 C) (param 1 N))) few

-- a row of cells fits too
pub row_fits : (C N : RattleType) → HasRoom (copied 0 C) (param 1 N) → size (array_at (layout u64) (layout (param 1 N))) < 2 ^ 63
row_fits C N small = let most = room_enough (array_at (layout u64) (layout (param 1 N))) in omega (arith, most, small.1)

-- the same over a plain number, at no cost: a row has at most 16 cells
pub row_small : {n : ℕ} → n ≤ 16 → n * 8 < 9223372036854775808
row_small few = omega (arith, few)

-- What code over any condition knows of the room that the lists and their parts take, each as a call asks for it, so that a search finds it. Of a seat's entry 64 are to fit, of a variable's list four.
pub record PartsFit (C N : RattleType) (means : Ghosts C.Denot (value_of N)) : Type 0 where
  pub queues : FitsInMemory (queues_row C N means)
  pub lock : FitsInMemory (lock_row C N means)
  pub ring : FitsInMemory (ring_row C N)
  pub entry : size (layout (option_row (waiter_row C))) < 2 ^ 50
  pub list : FitsInMemory (list_row (waiter_row C) (number 64) unit)
  pub lists : 4 * size (layout (list_row (waiter_row C) (number 64) unit)) < 2 ^ 63
  pub row : size (array_at (layout u64) (layout N)) < 2 ^ 63

-- they fit where a condition and a row have room
pub parts_fit : (C N : RattleType) → HasRoom (copied 0 C) (param 1 N) → (means : Ghosts (copied 0 C).Denot (value_of (param 1 N))) → PartsFit (copied 0 C) (param 1 N) means
parts_fit C N small means =
    let entry = room_enough (layout (option_row (waiter_row (copied 0 C)))) in
    let few = list_room C N small in
    let most = room_enough (layout (list_row (waiter_row (copied 0 C)) (number 64) unit)) in
    record {
      queues = queues_fit C N small means;
      lock = lock_fits C N small means;
      ring = ring_fits C N small;
      entry = omega (arith, entry, small.0);
      list = omega (arith, few, most);
      lists = omega (arith, few, most);
      row = row_fits C N small;
    }
