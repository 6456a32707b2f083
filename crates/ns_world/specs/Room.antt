-- A section in hand, a world's seat and its lock fit in memory, over any condition.
use Rattle.std.proofs.Common.{arith}
use Rattle.std.specs.Mem.{FitsInMemory}
use Rattle.std.specs.Prelude.{ℕ, ◌*◌, ◌+◌, ◌<◌, ◌^◌}
use denote.Param.{copied, layout, param, value_of}
use denote.RattleType.{RattleType}
use Rattle.ns_word.specs.contracts.view.Held.{the_row as held_row}
use Rattle.ns_queue.specs.Names.{Ghosts}
use Rattle.ns_queue.specs.Sizes.{queues_room}
use Rattle.ns_queue.specs.contracts.queues.Queues.{the_row as queues_row}
use Rattle.ns_world.specs.Names.{HasRoom, room, room_enough, small_by}
use Rattle.ns_world.specs.contracts.lock.Lock.{the_row as lock_row}
use Rattle.ns_world.specs.contracts.seat.Seat.{the_row as seat_row}

-- a section in hand fits where a condition and a row have room
pub held_fits : (C N : RattleType) → HasRoom (copied 0 C) (param 1 N) → FitsInMemory (held_row (copied 0 C) (param 1 N))
held_fits C N small = let most = room_enough (layout (held_row (copied 0 C) (param 1 N))) in omega (arith, most, small.0, small.1)

-- and a seat of a world
pub seat_fits : (C N : RattleType) → HasRoom (copied 0 C) (param 1 N) → FitsInMemory (seat_row (copied 0 C) (param 1 N))
seat_fits C N small =
    let few : room (layout (seat_row (copied 0 C) (param 1 N))) < 2 ^ 63 = omega (arith, small.0, small.1) in
    small_by (layout (seat_row (copied 0 C) (param 1 N))) few

-- what stands beside the lists in a lock takes little; of any sizes, so that none is worked out
beside_small : (word row queues rest : ℕ) → word < 2 ^ 20 → row < 2 ^ 32 → queues < 2 ^ 56 → rest < 2 ^ 20 → 2 + 3 * (word + (row + (queues + rest))) < 2 ^ 58
beside_small word row queues rest a b c d = omega arith

-- how little a lock takes: so a record with a lock in it fits, too
pub lock_room : (C N : RattleType) → HasRoom (copied 0 C) (param 1 N) → (means : Ghosts (copied 0 C).Denot (value_of (param 1 N))) → room (layout (lock_row (copied 0 C) (param 1 N) means)) < 2 ^ 58
lock_room C N small means = beside_small _ _ (room (layout (queues_row (copied 0 C) (param 1 N) means))) _ (omega arith) small.1 (queues_room C N means small) (omega arith)

-- a lock fits where a condition and a row have room
pub lock_fits : (C N : RattleType) → HasRoom (copied 0 C) (param 1 N) → (means : Ghosts (copied 0 C).Denot (value_of (param 1 N))) → FitsInMemory (lock_row (copied 0 C) (param 1 N) means)
lock_fits C N small means = let few = lock_room C N small means in small_by (layout (lock_row (copied 0 C) (param 1 N) means)) (omega (arith, few))
