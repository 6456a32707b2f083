use Rattle.ns_world.proofs.Prelude.{[], append-nil, refl, sym}
use Rattle.ns_world.proofs.lock.Lock.store.Goals as goal

pub returns : goal.returns
returns g c = record { commits = []; effect = (c.in-Some.section, c.in-Some.is, rw c.in-Some.is at c.requires.0, refl, refl); grows = sym (append-nil c.args.self.now.history.items); stays = refl }

pub bounds-self-i : goal.bounds-self-i
bounds-self-i g c = c.requires.1

pub bounds-section-i : goal.bounds-section-i
bounds-section-i g c = c.requires.1
