use Rattle.std.proofs.Common.{Err, IfErr, IfOk, Ok, Result, ap, arith, refl, sym, ◌∙◌}
use Rattle.ns_gate.proofs.Prelude.{TableId, has_slot, lists_scanned, now_in_hand, queues_fit, the, was_in_hand}
use Rattle.ns_gate.specs.Wakes.{scanned_writer}
use Rattle.ns_gate.proofs.bound.Bound.scan_writer_in_hand.Goals as goal

-- what is so where it is told so, tells more
if_ok : {A B P Q : Type 0} (r : Result A B) → IfOk r (λ _. P) → (P → Q) → IfOk r (λ _. Q)
if_ok (Ok a) p so = so p
if_ok (Err b) p so = tt

if_err : {A B P Q : Type 0} (r : Result A B) → IfErr r (λ _. P) → (P → Q) → IfErr r (λ _. Q)
if_err (Ok a) p so = tt
if_err (Err b) p so = so p

pub slot_mut-requires : goal.slot_mut-requires
slot_mut-requires g c = (◌∙◌ {A = TableId} c.self.invariant.0 (sym c.gate.view_is), has_slot _ _ (rw (← c.self.view_is) at c.requires.has))

pub lists-queues-requires : goal.lists-queues-requires
lists-queues-requires g c = (omega arith, queues_fit g.row.C g.row.N g.met.C.Condition.has_room g.C.Condition)

pub scan_writer-requires : goal.scan_writer-requires
scan_writer-requires g c = (queues_fit g.row.C g.row.N g.met.C.Condition.has_room g.C.Condition, omega (arith, g.met.C.Condition.has_cells))

pub returns : goal.returns
returns g c =
    let t = g.C.Condition.means in
    let row = c.args.row.now in
    let me = c.self.inside.seat.now.me in
    let has = rw (← c.self.view_is) at c.requires.has in
    let was = was_in_hand (the me.0).stood _ _ me.1 has c.slot_mut.ensures.value c.lists-queues.ensures.value in
    rw (← c.self.view_is) record {
      worked = record { gate = refl; lent = refl; by = refl };
      told = c.scan_writer.ensures.told ∙ ap (scanned_writer t row) was;
      lists = if_ok c.scan_writer.result c.scan_writer.ensures.lists (λ left. now_in_hand (the me.0).stood _ _ me.1 has (left ∙ ap (lists_scanned t row) was));
      still = if_err c.scan_writer.result c.scan_writer.ensures.still (λ kept. now_in_hand (the me.0).stood _ _ me.1 has (kept ∙ was));
    }
