use Rattle.std.proofs.Common.{arith, falls, length, sym, ℕ, ◌<◌, ◌≤◌}
use Rattle.ns_queue.proofs.Marking.{pushed_on, skipped_on, marked_yes, marked_no}
use Rattle.ns_queue.proofs.marks.marked.Goals.{then-marks-i, else-marks-i}
use Rattle.ns_queue.proofs.Prelude.{at_most, still_in}
use Rattle.ns_queue.proofs.marks.marked.Goals as goal

pub loop-i-preserved : goal.loop-i-preserved
loop-i-preserved g c =
    let within : c.loop-i.i < length c.args.marks.now = omega (arith, c.loop-i-test.true, c.requires.same) in
    elim c.if-marks-i.branch [
      | then-marks-i w ↦ rw w.taken-is (record {
        so_far = pushed_on _ _ _ _ _ w.index-waiters-i.result w.push.ensures.items (marked_yes c.args.marks.now c.args.waiters.now c.loop-i.i _ w.index-waiters-i.result w.index-waiters-i.result within c.loop-i-test.true w.if-marks-i.true (sym w.index-waiters-i.is)) c.loop-i.invariant.so_far;
        few = omega (arith, w.push.ensures.len, c.loop-i.invariant.few);
      })
      | else-marks-i w ↦ rw w.taken-is (record {
        so_far = skipped_on _ _ _ _ (marked_no c.args.marks.now c.args.waiters.now c.loop-i.i _ within c.loop-i-test.true w.if-marks-i.false) c.loop-i.invariant.so_far;
        few = omega (arith, c.loop-i.invariant.few);
      })
    ]

room : (got i n : ℕ) → got ≤ i → i < n → n ≤ 64 → got < 64
room got i n few within most = omega arith

pub push-requires : goal.push-requires
push-requires g c = (g.met.C.Queueable.parts_fit.list, room _ c.loop-i.i _ c.loop-i.invariant.few c.loop-i-test.true c.requires.most)

pub bounds-marks-i : goal.bounds-marks-i
bounds-marks-i g c = still_in c.loop-i.i _ _ c.loop-i-test.true c.requires.same

pub offset_bounds-waiters-i : goal.offset_bounds-waiters-i
offset_bounds-waiters-i g c = at_most c.loop-i.i _ c.loop-i-test.true

pub bounds-waiters-i : goal.bounds-waiters-i
bounds-waiters-i g c = c.loop-i-test.true

pub loop-i-smaller : goal.loop-i-smaller
loop-i-smaller g c = falls (length c.args.waiters.now) c.loop-i.i c.loop-i-test.true
