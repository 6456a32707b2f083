use Rattle.std.proofs.Common.{[], ap, ◌++◌, ◌∙◌, ◌∷◌}
use Rattle.ns_model.specs.declared.event.Event.TheVariants.{Signal, Broadcast}
use Rattle.ns_world.proofs.exchanges.commit_wake.Goals.{in-Signaling, in-Broadcasting}
use Rattle.ns_world.proofs.exchanges.commit_wake.Goals as goal

pub returns : goal.returns
returns g c = elim c.match-waking.branch [
  | in-Signaling w ↦ rw w.in-Signaling.is (c.in_ok-push.ensures.items ∙ ap (λ e. c.args.history.now.items ++ e ∷ []) (w.event-is ∙ ap (λ s. Signal c.args.seat c.args.k s) w.signaled_set.ensures))
  | in-Broadcasting w ↦ rw w.in-Broadcasting.is (c.in_ok-push.ensures.items ∙ ap (λ e. c.args.history.now.items ++ e ∷ []) (w.event-is ∙ ap (λ s. Broadcast c.args.seat c.args.k s) w.waiting_set.ensures))
]

pub signaled_set-requires : goal.signaled_set-requires
signaled_set-requires g c = (g.met.C.Queueable.parts_fit.queues, c.requires)

pub waiting_set-requires : goal.waiting_set-requires
waiting_set-requires g c = (g.met.C.Queueable.parts_fit.queues, c.requires)
