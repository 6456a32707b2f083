use Rattle.std.proofs.Common.{[], ap, sym, ◌∙◌, ◌∷◌}
use Rattle.ns_gate.proofs.Prelude.{bits_of}
use Rattle.ns_gate.proofs.Wakes.{left_sole, made_sole, may_move, takes_sole, woken_by_sole}
use Rattle.ns_gate.proofs.waking.wake_sole.Goals as goal

pub move_if-requires : goal.move_if-requires
move_if-requires g c = let waking = c.args._waking in let k = c.args.k in let lists = c.args.queues.now in let w = c.in_ok-waiter.waiter in let sole = sym c.in_ok-waiter.ensures.sole in (
  g.met.C.Queueable.parts_fit.queues,
  may_move waking k lists c.take_sole.new.self (w ∷ []) c.take_sole.ensures.orderly c.requires (sym (takes_sole waking k lists w sole)) (c.in_ok-waiter.ensures.left ∙ left_sole waking k lists w sole),
)

pub returns-clause-sole : goal.returns-clause-sole
returns-clause-sole g c = let waking = c.args._waking in let k = c.args.k in let held = c.args.held in let lists = c.args.queues.now in let sole = sym c.in_ok-waiter.ensures.sole in
    let put = woken_by_sole waking k held lists c.take_sole.new.self c.move_if.new.queues c.in_ok-waiter.waiter sole c.in_ok-waiter.ensures.left c.move_if.ensures in
    made_sole waking k held lists c.in_ok-waiter.waiter c.turned_by.result sole (λ i. (c.turned_by.ensures i).some) ((λ i. (c.turned_by.ensures i).bits) ∙ ap (λ queues. bits_of queues.lock) put)

pub returns-clause-lists : goal.returns-clause-lists
returns-clause-lists g c = woken_by_sole c.args._waking c.args.k c.args.held c.args.queues.now c.take_sole.new.self c.move_if.new.queues c.in_ok-waiter.waiter (sym c.in_ok-waiter.ensures.sole) c.in_ok-waiter.ensures.left c.move_if.ensures
