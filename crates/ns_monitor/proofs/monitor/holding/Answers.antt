use Rattle.ns_monitor.proofs.Prelude.{the}
use Rattle.ns_monitor.proofs.Returns.{fits_fresh}
use Rattle.ns_monitor.proofs.monitor.holding.Goals as goal

pub invariant_of-result : goal.invariant_of-result
invariant_of-result g c = let held = (the c.args.seat.me.0).at.held in (c.requires.rest.0, c.requires.rest.1, fits_fresh g.row.N g.H.Section.mode held (λ o. g.H.Hand.fits c.begun-hand.result o) c.begun-hand.ensures c.requires.fresh)
