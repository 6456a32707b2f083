use Rattle.ns_replay.proofs.Prelude.{arith}
use Rattle.ns_replay.proofs.Plans.{counters_few, few_lists}
use Rattle.ns_replay.proofs.script.script_in.Goals as goal

pub overflow_cast-declared : goal.overflow_cast-declared
overflow_cast-declared c =
    let few = counters_few _ c.in_ok-counters.counters.items c.in_ok-counters.ensures in
    omega (arith, few, c.len.ensures)

pub overflow_cast-len : goal.overflow_cast-len
overflow_cast-len c =
    let few = few_lists _ _ c.in_ok-threads.threads.items c.in_ok-threads.ensures in
    omega (arith, few, c.len-2.ensures)
