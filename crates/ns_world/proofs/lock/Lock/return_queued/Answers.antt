use Rattle.ns_world.proofs.Prelude.{[], append-nil, refl, sym}
use Rattle.ns_world.proofs.lock.Lock.return_queued.Goals as goal

pub returns : goal.returns
returns g c = record { commits = []; effect = (refl, refl, rw (c.returned-self.ensures, c.bits.ensures, c.queue_self.ensures c.args.self.now.word) refl, refl); grows = sym (append-nil c.args.self.now.history.items); stays = refl }

pub queue_self-requires : goal.queue_self-requires
queue_self-requires g c = (g.met.C.Queueable.parts_fit.queues, (c.requires.0, c.requires.1))

pub bits-requires : goal.bits-requires
bits-requires g c = g.met.C.Queueable.parts_fit.queues
