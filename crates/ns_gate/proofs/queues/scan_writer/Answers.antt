use Rattle.std.proofs.Common.{None, Ok, Some, ap, refl, sym, ◌∙◌}
use Rattle.ns_gate.proofs.Prelude.{Turned, bits_of, left_of, meets_at, sought_at, woken_of}
use Rattle.ns_gate.proofs.Scans.{lists_few, lists_kept, told_nobody, told_reader, told_writer}
use Rattle.ns_gate.proofs.queues.scan_writer.Goals as goal

pub returns-in-Reader : goal.returns-in-Reader
returns-in-Reader g c =
    let t = g.C.Condition.means in
    let row = c.args.row.now in
    let stood = c.args.queues.now in
    let told = sym c.in-Reader.is ∙ c.take_writer.ensures.told in
    record {
      told = told_reader (sought_at t row stood) c.in-Reader.sought (woken_of (meets_at t row) stood.lock) (left_of (meets_at t row) stood.lock) told;
      lists = tt;
      still = lists_kept _ t row _ _ c.take_writer.new.self told refl c.take_writer.ensures.left;
    }

pub returns-in-Nobody : goal.returns-in-Nobody
returns-in-Nobody g c =
    let t = g.C.Condition.means in
    let row = c.args.row.now in
    let stood = c.args.queues.now in
    let told = sym c.in-Nobody.is ∙ c.take_writer.ensures.told in
    let left = lists_few _ t row _ _ c.take_writer.new.self told refl c.take_writer.ensures.left in
    record {
      told = ap (λ (made : Turned). Ok (None, made)) c.turned_with.ensures ∙ told_nobody (sought_at t row stood) (woken_of (meets_at t row) stood.lock) (left_of (meets_at t row) stood.lock) _ told (ap (λ lists. bits_of lists.lock) left);
      lists = left;
      still = tt;
    }

pub returns-in-Writer : goal.returns-in-Writer
returns-in-Writer g c =
    let t = g.C.Condition.means in
    let row = c.args.row.now in
    let stood = c.args.queues.now in
    let told = sym c.in-Writer.is ∙ c.take_writer.ensures.told in
    let left = lists_few _ t row _ _ c.take_writer.new.self told refl c.take_writer.ensures.left in
    record {
      told = ap (λ (made : Turned). Ok (Some c.called_one-wake.result, made)) c.turned_with-in-Writer.ensures
          ∙ told_writer (sought_at t row stood) (woken_of (meets_at t row) stood.lock) (left_of (meets_at t row) stood.lock) c.in-Writer.number c.in-Writer.via c.called_one-wake.result _ told c.called_one-wake.ensures (ap (λ lists. bits_of lists.lock) left);
      lists = left;
      still = tt;
    }
