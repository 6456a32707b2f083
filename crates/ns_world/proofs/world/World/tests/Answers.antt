use Rattle.std.proofs.Common.{ap, length, refl, sym, ◌<◌}
use Rattle.ns_world.proofs.Prelude.{option_map_or}
use Rattle.ns_world.proofs.Mapped.{found_at}
use Rattle.ns_world.proofs.world.World.tests.Goals as goal

pub index-requires : goal.index-requires
index-requires g c = rw (c.self.inside.seats.ok.0) (rw (← c.self.view_is) at c.requires)

pub returns : goal.returns
returns g c =
    let seats = c.self.inside.seats.items in
    let inside : c.args.seat < length seats = rw (← c.self.view_is) at c.requires in
    rw (← c.self.view_is) (ap (λ o. option_map_or (λ s. s.tests) o 0) (sym (found_at seats c.args.seat c.index.result.now inside refl c.index.ensures)))
