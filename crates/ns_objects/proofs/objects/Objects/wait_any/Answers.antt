use Rattle.std.proofs.Common.{None, Some, ap, subst, suc, sym, ◌∙◌}
use Rattle.ns_objects.proofs.Prelude.{BothKnown, EnvGrows, EnvKnown, HaveShownNothing, RoundAnswers, Setup, WasReady, any_of, past_of}
use Rattle.ns_objects.proofs.Rests.{env_grows_through, grows_through}
use Rattle.ns_objects.proofs.Rounds.{all_known_later}
use Rattle.ns_objects.proofs.objects.Objects.wait_any.Goals as goal

pub look_at_any-requires-clause-known : goal.look_at_any-requires-clause-known
look_at_any-requires-clause-known g c = all_known_later any_of c.args.items.now (c.args.seat.now, c.args.watch.now) (c.loop.seat, c.loop.watch) (c.loop.invariant.2, c.loop.invariant.4) c.requires.known

pub rest_for_any-requires-clause-known : goal.rest_for_any-requires-clause-known
rest_for_any-requires-clause-known g c = let old : BothKnown = (c.loop.seat, c.loop.watch) in let new : BothKnown = (c.look_at_any.new.seat, c.look_at_any.new.watch) in
    all_known_later any_of c.args.items.now old new (c.look_at_any.ensures.grows, c.look_at_any.ensures.watch) (all_known_later any_of c.args.items.now (c.args.seat.now, c.args.watch.now) old (c.loop.invariant.2, c.loop.invariant.4) c.requires.known)

pub returns-in-Some-look_at_any-clause-answers : goal.returns-in-Some-look_at_any-clause-answers
returns-in-Some-look_at_any-clause-answers g c = let old : BothKnown = (c.loop.seat, c.loop.watch) in let new : BothKnown = (c.look_at_any.new.seat, c.look_at_any.new.watch) in
    record {
      rounds = c.loop.invariant.6.0;
      mid = past_of old;
      nothing = c.loop.invariant.6.1;
      last = subst (λ (s : Setup). RoundAnswers any_of s c.args.items.now c.args.deadline (past_of old) (past_of new) (Some c.in-Some-look_at_any.place)) c.loop.invariant.2.setup
          (subst (RoundAnswers any_of old.0.setup c.args.items.now c.args.deadline (past_of old) (past_of new)) c.in-Some-look_at_any.is c.look_at_any.ensures.answers);
    }

-- one round more has shown nothing
pub loop-preserved : goal.loop-preserved
loop-preserved g c =
    let look = c.look_at_any.ensures in let inv = c.loop.invariant in let items = c.args.items.now in let setup = c.args.seat.now.setup in
    let first : BothKnown = (c.args.seat.now, c.args.watch.now) in let old : BothKnown = (c.loop.seat, c.loop.watch) in let new : BothKnown = (c.look_at_any.new.seat, c.look_at_any.new.watch) in
    let rest = c.rest_for_any.ensures.watch in
    let nothing = subst (λ (s : Setup). RoundAnswers any_of s items c.args.deadline (past_of old) (past_of new) None) inv.2.setup (subst (RoundAnswers any_of old.0.setup items c.args.deadline (past_of old) (past_of new)) c.in_default.is look.answers) in (
      tt,
      tt,
      grows_through _ _ _ inv.2 look.grows,
      look.mine ∙ inv.3,
      subst (EnvGrows c.args.watch.now) (sym rest) (env_grows_through _ _ _ inv.4 look.watch),
      ap (λ (w : EnvKnown). w.mine) rest ∙ (look.watched ∙ inv.5),
      (
        suc inv.6.0,
        subst (λ (w : EnvKnown). HaveShownNothing (λ so point item. WasReady setup so point (any_of item)) items c.args.deadline (suc inv.6.0) (past_of first) (past_of (new.0, w))) (sym rest) (past_of old, inv.6.1, nothing),
      ),
    )
