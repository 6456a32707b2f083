use Rattle.std.proofs.Common.{ap, refl, sym, ◌∙◌}
use Rattle.ns_world.proofs.Prelude.{false, in_call, option_map_or, slice_get_past}
use Rattle.ns_world.proofs.Mapped.{found_at}
use Rattle.ns_world.proofs.world.World.is_busy.Goals as goal

pub returns-in-Some : goal.returns-in-Some
returns-in-Some g c =
    let found = c.in-Some.ensures.lookup in
    let at = rw c.deref.ensures.value at (found_at c.deref.result.now c.args.seat c.in-Some.here.now found.3.0 refl found.1) in
    rw (← c.self.view_is) (c.is_call.ensures ∙ sym (ap (λ o. option_map_or in_call o false) at))

pub returns-in-None : goal.returns-in-None
returns-in-None g c =
    let past = rw c.deref.ensures.value at c.in-None.ensures.lookup.3 in
    rw (← c.self.view_is) (sym (ap (λ o. option_map_or in_call o false) (slice_get_past c.self.inside.seats.items c.args.seat past)))
