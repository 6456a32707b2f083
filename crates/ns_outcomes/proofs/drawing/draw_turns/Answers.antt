use Rattle.ns_outcomes.proofs.Prelude.{Turned, map, stage_of}
use Rattle.ns_outcomes.proofs.Draws.{drawing_stops, drew_more}
use Rattle.ns_outcomes.proofs.drawing.draw_turns.Goals as goal

pub returns-in-Err-clause-err : goal.returns-in-Err-clause-err
returns-in-Err-clause-err c =
    let lists = map (λ calls. calls.items) c.args.threads.now in
    let first = stage_of c.args.drawing.now in
    let now = stage_of c.loop-thread.drawing in
    rw c.fault_of.ensures
    (drawing_stops lists c.args.limit c.args.draws.now c.loop-thread.draws c.next_word.result first now c.args.drawing.now.tally.turns c.loop-thread.drawing.tally.turns c.make_turn.new.drawing.tally.turns c.in-Some.thread c.loop-thread.drawing.words.items (stage_of c.make_turn.new.drawing).progress c.in-Err.refused
    c.loop-thread.invariant.drew (rw c.deref.ensures.value at c.in-Some.ensures) c.in-Err.ensures.err)

pub loop-thread-preserved : goal.loop-thread-preserved
loop-thread-preserved c =
    let lists = map (λ calls. calls.items) c.args.threads.now in
    let turned : Turned = record { seat = c.in-Some.thread; step = c.in_default-make_turn.field-0 } in
    let longer = rw c.in_default-make_turn.ensures.unspelled at c.in_ok-push_word.ensures.spelled in
    let fewest = rw c.in_default-make_turn.ensures.unspelled at c.in_ok-push_word.ensures.fewest in
    let pick = rw c.deref.ensures.value at c.in-Some.ensures in
    let turns = c.in_default-make_turn.ensures.turns in
    record {
      drew = drew_more lists c.args.limit c.args.draws.now c.loop-thread.draws c.next_word.new.self c.next_word.result (stage_of c.args.drawing.now) (stage_of c.loop-thread.drawing) (stage_of c.make_turn.new.drawing)
          c.args.drawing.now.tally.turns c.loop-thread.drawing.tally.turns c.make_turn.new.drawing.tally.turns c.loop-thread.drawing.words.items c.push_word.new.words.items turned
          c.loop-thread.invariant.drew c.next_word.ensures pick c.in_default-make_turn.ensures.ok longer fewest turns.0 turns.1;
      counted = c.in_default-make_turn.ensures.counted;
      few = rw c.in_default-make_turn.ensures.many c.loop-thread.invariant.few;
    }
