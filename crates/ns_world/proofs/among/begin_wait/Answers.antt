use Rattle.std.proofs.Common.{None, Some, ap, refl, sym, ◌∙◌}
use Rattle.ns_world.proofs.Prelude.{OnLock, are_some, false≢true, items_of, low_if_among, mode_of, mode_waited, placed, some_among, wait_first, waits_for_any}
use Rattle.ns_world.proofs.among.begin_wait.Goals as goal

pub returns : goal.returns
returns g c =
    let items = items_of c.args.round.items in
    let one = some_among items c.requires.some in
    record {
      cvs = c.variables.result;
      among = c.variables.ensures.among;
      variables = are_some c.variables.result one.0 c.variables.ensures.byte (c.variables.ensures.among one.0 ∙ one.1) (λ j is. low_if_among items j c.requires.low (sym (c.variables.ensures.among j) ∙ is));
      goes = c.place.ensures ∙ ap (λ walk. placed c.args.seat.now (OnLock walk (Some (record { round = c.args.round; shown = None })))) (c.wait.ensures.first ∙ ap (λ held. wait_first g.row.N (waits_for_any (mode_waited (mode_of held)) c.variables.result)) (sym c.in-Some.is));
      answers = refl;
    }

pub place-requires : goal.place-requires
place-requires g c = g.met.C.Seated.seat_fits

pub unreachable-requires : goal.unreachable-requires
unreachable-requires g c = absurd (false≢true (rw c.in_default.is at c.requires.holds))

pub variables-requires-clause-few : goal.variables-requires-clause-few
variables-requires-clause-few g c = c.requires.few

pub variables-requires-clause-low : goal.variables-requires-clause-low
variables-requires-clause-low g c = c.requires.low

pub wait-requires : goal.wait-requires
wait-requires g c = c.requires.row
