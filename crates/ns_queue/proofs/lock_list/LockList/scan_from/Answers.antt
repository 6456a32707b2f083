use Rattle.std.proofs.Common.{ap, map, ◌∙◌}
use Rattle.ns_queue.proofs.Prelude.{seated, via_in, without_all}
use Rattle.ns_queue.proofs.RunCounts.{tests_most}
use Rattle.ns_queue.proofs.Leaving.{woken_leave}
use Rattle.ns_queue.proofs.Vias.{vias_woken}
use Rattle.ns_queue.proofs.lock_list.LockList.scan_from.Goals as goal

pub choose-chosen-requires : goal.choose-chosen-requires
choose-chosen-requires g c = (g.met.C.Queueable.parts_fit.ring, (g.met.C.Queueable.parts_fit.row, rw (← c.self.view_is) at c.requires))

pub returns : goal.returns
returns g c =
    let meets = λ (d : g.row.C.Denot). g.C.Condition.means.holds d c.args.row.now in
    let ring = c.self.inside.ring in
    let chosen = c.choose-chosen.ensures in
    rw (← c.self.view_is) (record {
      woken = chosen.woken;
      vias = c.vias_of-vias.ensures ∙ ap (map (λ seat. via_in (seated seat ring))) (c.as_slice.ensures.value ∙ chosen.woken) ∙ vias_woken meets ring chosen.orderly;
      left = (rw (← c.self.view_is) at c.remove_all.ensures) ∙ ap (λ ss. without_all ss ring) (c.as_slice-2.ensures.value ∙ chosen.woken) ∙ woken_leave meets ring chosen.orderly;
      tests = chosen.tests;
      at_most_runs = rw chosen.tests (tests_most g.C.Condition.means.same meets ring);
    })
