use Rattle.ns_world.proofs.Prelude.{[], append-nil, refl, sym}
use Rattle.ns_world.proofs.lock.Lock.acquire.Goals as goal

pub returns : goal.returns
returns g c = record { commits = []; effect = (refl, c.requires.1, c.requires.0, rw (c.acquired-self.ensures, c.mode-mode.ensures, c.opening_for.ensures) refl, refl); grows = sym (append-nil c.args.self.now.history.items); stays = refl }
