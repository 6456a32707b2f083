-- A waiter and the lists fit in memory, over any condition.
use Rattle.std.proofs.Common.{arith}
use Rattle.std.specs.Mem.{FitsInMemory}
use Rattle.std.specs.Prelude.{◌<◌, ◌^◌}
use Rattle.ns_queue.specs.Names.{HasRoom, RattleType, copied, layout, list_row, number, param, room_enough, size, unit}
use Rattle.ns_queue.specs.contracts.waiter.Waiter.{the_row as waiter_row}

-- a waiter with such a condition fits in memory
abbrev pub WaiterFits : (C : RattleType) → Type 0
WaiterFits C = FitsInMemory (waiter_row C)

-- a waiter fits where the condition has room
pub waiter_fits : (C N : RattleType) → HasRoom (copied 0 C) (param 1 N) → WaiterFits (copied 0 C)
waiter_fits C N small = let most = room_enough (layout (waiter_row (copied 0 C))) in omega (arith, most, small.0, small.1)

-- a list of 64 waiters, of which four are to fit
abbrev pub ListFits : (C : RattleType) → Type 0
ListFits C = size (layout (list_row (waiter_row C) (number 64) unit)) < 2 ^ 60

-- a list of waiters fits where the condition has room
pub list_fits : (C N : RattleType) → HasRoom (copied 0 C) (param 1 N) → ListFits (copied 0 C)
list_fits C N small =
    let one = room_enough (layout (waiter_row (copied 0 C))) in
    let most = room_enough (layout (list_row (waiter_row (copied 0 C)) (number 64) unit)) in omega (arith, one, most, small.0)
