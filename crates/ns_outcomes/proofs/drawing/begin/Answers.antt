use Rattle.ns_outcomes.proofs.Prelude.{arith, idle_world, length, lists_fit, map, progress, refl, rules, script_truths, start_counted, whole_of, world_is}
use Rattle.ns_outcomes.proofs.Begun.{begun_own, own_stops, standings_many}
use Rattle.ns_outcomes.proofs.drawing.begin.Goals as goal

pub follow-requires : goal.follow-requires
follow-requires c =
    let counted = start_counted (whole_of script_truths c.in_ok-world.world) (λ seat. idle_world _ seat _ _ _ c.in_ok-world.ensures.made.0) in
    (search rules, (rw c.as_slice-threads.ensures.value (lists_fit c.args.script.now.threads.items c.requires.short), (rw c.new-tally.ensures.over counted, omega (arith, c.new-tally.ensures.turns))))

pub returns-in-Err-clause-err : goal.returns-in-Err-clause-err
returns-in-Err-clause-err c =
    let script = c.args.script.now in
    let old = whole_of script_truths c.in_ok-world.world in
    let first = world_is script (length script.threads.items) old refl (rw (c.as_slice-threads.ensures.value, c.deref.ensures.value) at c.in_ok-world.ensures.made.0) in
    rw c.fault_of.ensures (own_stops c.args.limit script old c.new-tally.result.over c.new-tally.result.lines.items c.new-tally.result.turns (progress (whole_of script_truths c.follow.new.self) c.follow.new.tally.over c.follow.new.tally.lines.items) c.follow.new.tally.turns c.in-Err.refused
    first c.new-tally.ensures.over c.new-tally.ensures.lines c.new-tally.ensures.turns (rw (c.as_slice-threads.ensures.value, c.deref-2.ensures.value) at c.in-Err.ensures.err))

pub returns-clause-few : goal.returns-clause-few
returns-clause-few c =
    let script = c.args.script.now in
    let lists = map (λ calls. calls.items) script.threads.items in
    let many = standings_many lists (progress (whole_of script_truths c.follow.new.self) c.follow.new.tally.over c.follow.new.tally.lines.items) c.in_ok-standings.standings.items (rw c.as_slice-threads.ensures.value at c.in_ok-standings.ensures) in
    let short = c.requires.short in
    omega (arith, many, short)

pub returns-clause-ok : goal.returns-clause-ok
returns-clause-ok c =
    let script = c.args.script.now in
    let old = whole_of script_truths c.in_ok-world.world in
    let first = world_is script (length script.threads.items) old refl (rw (c.as_slice-threads.ensures.value, c.deref.ensures.value) at c.in_ok-world.ensures.made.0) in
    record {
      own = begun_own c.args.limit script old c.new-tally.result.over c.new-tally.result.lines.items c.new-tally.result.turns c.follow.new.tally.turns (progress (whole_of script_truths c.follow.new.self) c.follow.new.tally.over c.follow.new.tally.lines.items)
          first c.new-tally.ensures.over c.new-tally.ensures.lines c.new-tally.ensures.turns (rw (c.as_slice-threads.ensures.value, c.deref-2.ensures.value) at c.in_default.ensures.ok);
      stands = rw c.as_slice-threads.ensures.value at c.in_ok-standings.ensures;
    }
