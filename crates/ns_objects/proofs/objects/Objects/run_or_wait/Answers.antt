use Rattle.std.proofs.Common.{[], subst, ◌++◌, ◌∙◌, ◌∷◌, ◌≡◌}
use Rattle.ns_objects.proofs.Prelude.{Began, Free, ObjectsKnown, OnOnce, Ran, Running, known_of, the}
use Rattle.ns_objects.proofs.Rests.{grew, come_grows, comes_with}
use Rattle.ns_objects.proofs.objects.Objects.run_or_wait.Goals as goal

pub function-given-requires : goal.function-given-requires
function-given-requires g c = let me = c.seat.inside.seat.me in let now = c.begin_or_wait.new.seat.me in
    let began = c.begin_or_wait.ensures.begins c.if-begin_or_wait.true in
    c.requires.function (known_of c.begin_or_wait.new.seat.table_id (the now.0))
    (grew c.args.seat.now _ _ (the me.0) (the now.0) c.seat.view_is c.begin_or_wait.ensures.seat (come_grows _ (Running c.args.once) (the me.0) (the now.0) c.seat.invariant.true_to.room began.2))
    (subst (λ (k : ObjectsKnown). (the now.0).mine ≡ k.mine ++ OnOnce c.args.once (Began k.seat) ∷ []) c.seat.view_is began.2.mine)

pub returns-then-begin_or_wait-clause-grows : goal.returns-then-begin_or_wait-clause-grows
returns-then-begin_or_wait-clause-grows g c = let me = c.seat.inside.seat.me in let now = c.begin_or_wait.new.seat.me in let next = c.end_once.new.seat.me in
    let began = c.begin_or_wait.ensures.begins c.if-begin_or_wait.true in
    let came = comes_with me now next (OnOnce c.args.once (Began (the me.0).seat) ∷ []) (λ who. OnOnce c.args.once (Ran who)) (Running c.args.once) Free began c.end_once.ensures.ends in
    grew c.args.seat.now _ _ (the me.0) (the next.0) c.seat.view_is (c.end_once.ensures.seat ∙ c.begin_or_wait.ensures.seat) (come_grows _ Free (the me.0) (the next.0) c.seat.invariant.true_to.room came.2)
