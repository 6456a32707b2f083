use Rattle.std.proofs.Common.{Bool, Some, [], ap, false, inl, inr, le-leb, leb, refl, subst, sym, take, true, ◌++◌, ◌∙◌, ◌∷◌}
use Rattle.ns_objects.proofs.Prelude.{AnyItem, BothKnown, InTurn, IsNamed, Setup, WasReady, WasReadyIn, begins_itself, clock_of, is_due, lt-leb, past_of, slice_get-get_or, take_more, turn_more, turn_until}
use Rattle.ns_objects.proofs.Rests.{env_grows_through, grows_through}
use Rattle.ns_objects.proofs.Rounds.{every_get, known_later, whole_round}
use Rattle.ns_objects.proofs.objects.Objects.look_at_any.Goals as goal

pub is_ready-requires-clause-known : goal.is_ready-requires-clause-known
is_ready-requires-clause-known g c = let d = c.index-items-i.result in let known = every_get (λ item. IsNamed c.args.seat.now c.args.watch.now (g.T.Looked.any item)) c.args.items.now c.loop-i.i d c.loop-i-test.true c.requires.known in
    let here = known_later (g.T.Looked.any d) (c.args.seat.now, c.args.watch.now) (c.loop-i.seat, c.loop-i.watch) (c.loop-i.invariant.0, env_grows_through _ _ _ c.now-clock.ensures.grows c.loop-i.invariant.2) (rw (← c.index-items-i.is) at known) in
    subst (IsNamed c.loop-i.seat c.loop-i.watch) (sym c.any.ensures) here

pub returns-then-is_ready-clause-answers : goal.returns-then-is_ready-clause-answers
returns-then-is_ready-clause-answers g c =
    let setup = c.args.seat.now.setup in let d = c.index-items-i.result in let e = c.is_ready.ensures in
    let clock : BothKnown = (c.args.seat.now, c.now-clock.new.seat) in let old : BothKnown = (c.loop-i.seat, c.loop-i.watch) in let new : BothKnown = (c.is_ready.new.seat, c.is_ready.new.watch) in
    let look : WasReadyIn true old new (g.T.Looked.any d) = subst (λ (x : Bool × AnyItem). WasReadyIn x.0 old new x.1) (λ i. (c.if-is_ready.true i, c.any.ensures i)) e.ready in
    inl (record {
      clock = past_of clock;
      begins = record { notes = c.now-clock.ensures.grows.begins; objects = begins_itself c.args.seat.now.seen };
      point = look.0;
      unready = turn_until (λ point item. WasReady setup false point (g.T.Looked.any item)) (past_of clock) (past_of old) look.0 (take c.loop-i.i c.args.items.now) c.loop-i.invariant.4 look.1;
      thing = d;
      is = slice_get-get_or c.args.items.now c.loop-i.i d c.loop-i-test.true ∙ ap Some (sym c.index-items-i.is);
      ready = subst (λ (s : Setup). WasReady s true look.0 (g.T.Looked.any d)) c.loop-i.invariant.0.setup look.3;
      ends = look.2;
    })

pub loop-i-preserved : goal.loop-i-preserved
loop-i-preserved g c =
    let setup = c.args.seat.now.setup in let d = c.index-items-i.result in let e = c.is_ready.ensures in let inv = c.loop-i.invariant in let items = c.args.items.now in
    let clock : BothKnown = (c.args.seat.now, c.now-clock.new.seat) in let old : BothKnown = (c.loop-i.seat, c.loop-i.watch) in let new : BothKnown = (c.is_ready.new.seat, c.is_ready.new.watch) in
    let look : WasReadyIn false old new (g.T.Looked.any d) = subst (λ (x : Bool × AnyItem). WasReadyIn x.0 old new x.1) (λ i. (c.if-is_ready.false i, c.any.ensures i)) e.ready in
    let unready : WasReady setup false look.0 (g.T.Looked.any d) = subst (λ (s : Setup). WasReady s false look.0 (g.T.Looked.any d)) inv.0.setup look.3 in
    let one_more = turn_more (λ point item. WasReady setup false point (g.T.Looked.any item)) (past_of clock) (past_of old) look.0 (past_of new) (take c.loop-i.i items) d inv.4 look.1 unready look.2 in (
      grows_through _ _ _ inv.0 e.grows,
      e.mine ∙ inv.1,
      env_grows_through _ _ _ inv.2 e.watch,
      e.watched ∙ inv.3,
      subst (InTurn (λ point item. WasReady setup false point (g.T.Looked.any item)) (past_of clock) (past_of new)) (ap (λ x. take c.loop-i.i items ++ x ∷ []) c.index-items-i.is ∙ sym (take_more items c.loop-i.i d c.loop-i-test.true)) one_more,
    )

pub returns-in-Some-clause-answers : goal.returns-in-Some-clause-answers
returns-in-Some-clause-answers g c =
    let first : BothKnown = (c.args.seat.now, c.args.watch.now) in let clock : BothKnown = (c.args.seat.now, c.now-clock.new.seat) in
    inr (
      refl,
      whole_round g.T.Looked.any c.args.seat.now.setup c.args.items.now c.args.deadline true first clock (c.loop-i.seat, c.loop-i.watch) c.loop-i.i (record { notes = c.now-clock.ensures.grows.begins; objects = begins_itself c.args.seat.now.seen })
          (ap (is_due (clock_of c.now-clock.new.seat.seen)) c.in-Some.is ∙ (ap (leb c.in-Some.moment) (sym c.now-clock.ensures.clock) ∙ le-leb c.in-Some.moment c.now-clock.result c.if-moment-clock.true)) c.loop-i-test.false c.loop-i.invariant.4,
    )

pub returns-in_default-clause-answers : goal.returns-in_default-clause-answers
returns-in_default-clause-answers g c =
    let first : BothKnown = (c.args.seat.now, c.args.watch.now) in let clock : BothKnown = (c.args.seat.now, c.now-clock.new.seat) in
    whole_round g.T.Looked.any c.args.seat.now.setup c.args.items.now c.args.deadline false first clock (c.loop-i.seat, c.loop-i.watch) c.loop-i.i (record { notes = c.now-clock.ensures.grows.begins; objects = begins_itself c.args.seat.now.seen })
    (ap (is_due (clock_of c.now-clock.new.seat.seen)) c.in-Some.is ∙ (ap (leb c.in-Some.moment) (sym c.now-clock.ensures.clock) ∙ lt-leb c.in-Some.moment c.now-clock.result c.if-moment-clock.false)) c.loop-i-test.false c.loop-i.invariant.4

pub returns-in_default-2-clause-answers : goal.returns-in_default-2-clause-answers
returns-in_default-2-clause-answers g c =
    let first : BothKnown = (c.args.seat.now, c.args.watch.now) in let clock : BothKnown = (c.args.seat.now, c.now-clock.new.seat) in
    whole_round g.T.Looked.any c.args.seat.now.setup c.args.items.now c.args.deadline false first clock (c.loop-i.seat, c.loop-i.watch) c.loop-i.i (record { notes = c.now-clock.ensures.grows.begins; objects = begins_itself c.args.seat.now.seen })
    (ap (is_due (clock_of c.now-clock.new.seat.seen)) c.in_default.is) c.loop-i-test.false c.loop-i.invariant.4
