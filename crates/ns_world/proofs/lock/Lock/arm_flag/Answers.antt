use Rattle.std.proofs.Common.{length, rules, ◌<◌}
use Rattle.ns_world.proofs.Prelude.{[], append-nil, lock_part, refl, sym}
use Rattle.ns_world.proofs.Exchanged.{set_flag}
use Rattle.ns_world.proofs.lock.Lock.arm_flag.Goals as goal

pub returns : goal.returns
returns g c =
    let low : c.args.seat.now.number < length c.args.self.now.flags = search rules in record { commits = []; effect = (λ i. record (lock_part c.args.self.now c.args.seat.now) { flags = set_flag c.args.self.now.flags c.args.seat.now.number 1 low i }, refl); grows = sym (append-nil c.args.self.now.history.items); stays = refl }
