use Rattle.std.proofs.Common.{Some}
use Rattle.ns_world.proofs.Prelude.{object_place}
use Rattle.ns_world.proofs.operate.operate.Goals as goal

pub returns : goal.returns
returns c = λ seat.
    let made = c.perform-found.ensures.effect seat (object_place (Some c.args.walk)) in
    record { found = c.perform-found.result; events = made.0; effect = rw c.want.ensures at made.1; becomes = c.perform-found.ensures.kept; leads = c.got.ensures }
