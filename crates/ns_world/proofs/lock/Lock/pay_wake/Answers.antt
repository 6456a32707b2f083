use Rattle.std.proofs.Common.{arith, ap, length, not, rules, ◌<◌, ◌∙◌, ◌≡◌}
use Rattle.ns_world.proofs.Prelude.{[], append-nil, lock_part, refl, some_there, sym}
use Rattle.ns_world.proofs.Exchanged.{owes_some, pays_first, set_flag}
use Rattle.ns_world.proofs.lock.Lock.pay_wake.Goals as goal

pub remove-wake-requires : goal.remove-wake-requires
remove-wake-requires g c = (omega arith, owes_some c.args.seat.now.owed.items c.requires)

pub bounds-self-wake : goal.bounds-self-wake
bounds-self-wake g c = (pays_first c.args.seat.now.owed.items c.remove-wake.new.self.items c.remove-wake.result c.requires c.remove-wake.ensures.value c.remove-wake.ensures.items).1

pub returns : goal.returns
returns g c =
    let paid = pays_first c.args.seat.now.owed.items c.remove-wake.new.self.items c.remove-wake.result c.requires c.remove-wake.ensures.value c.remove-wake.ensures.items in
    let wake = c.remove-wake.result in
    let many : length c.args.self.now.flags ≡ 64 = search rules in
    let low : wake.seat < length c.args.self.now.flags = rw many paid.1 in record {
      commits = [];
      effect = (
        wake,
        c.remove-wake.new.self.items,
        paid.0,
        λ i. record (lock_part c.args.self.now c.args.seat.now) { flags = set_flag c.args.self.now.flags wake.seat wake.value low i; owed = c.remove-wake.new.self.items },
        ap not c.is_empty.ensures ∙ some_there c.remove-wake.new.self.items,
        refl,
      );
      grows = sym (append-nil c.args.self.now.history.items);
      stays = refl;
    }
