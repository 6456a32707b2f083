-- An event fits in memory, over any condition.
use Rattle.std.proofs.Common.{arith, ◌<◌, ◌^◌}
use Rattle.ns_model.proofs.Prelude.{FitsInMemory, HasRoom, RattleType, copied, event_row, layout, param, room, small_by}

-- it fits where a condition and a row have room
pub events_fit : (C N : RattleType) → HasRoom (copied 0 C) (param 1 N) → FitsInMemory (event_row (copied 0 C) (param 1 N))
events_fit C N small =
    let few : room (layout (event_row (copied 0 C) (param 1 N))) < 2 ^ 63 = omega (arith, small.0, small.1) in
    small_by (layout (event_row (copied 0 C) (param 1 N))) few
