use Rattle.std.proofs.Common.{None, Option, Some, ap, refl, subst, suc, sym, ℕ, ◌∙◌}
use Rattle.ns_objects.proofs.Prelude.{BothKnown, EnvGrows, EnvKnown, HasComeBackFromAny, HaveShownNothing, Known, RoundAnswers, Setup, WaitAnswers, WasReady, later_itself, past_of}
use Rattle.ns_objects.proofs.HeldWaits.{back_from_wait, place_by, waits_on_itself, waits_through}
use Rattle.ns_objects.proofs.Rests.{env_grows_not, env_grows_through, grows_not, grows_through}
use Rattle.ns_objects.proofs.Rounds.{all_known_later}
use Rattle.ns_objects.proofs.objects.Objects.await_any.Goals.{in-Some-by, in-None-by}
use Rattle.ns_objects.proofs.objects.Objects.await_any.Goals as goal

pub returns-in-Woken-clause-answers : goal.returns-in-Woken-clause-answers
returns-in-Woken-clause-answers g c =
    let back = back_from_wait g.C.Condition.means g.H.Section.mode (Some c.in-Woken.k) c.args.waiting c.loop.waiting c.in-Woken.held c.loop.invariant.6 c.in-Woken.ensures.woken in
    (Some c.in-Woken.k, back, place_by c.args.seat.now.setup c.args.items.now c.args.deadline (past_of (c.args.seat.now, c.args.watch.now)) (past_of (c.loop.seat, c.loop.watch)) c.args.waiting.cvs c.in-Woken.k c.place_of.result c.requires.variables back.among c.place_of.ensures)

pub look_at_any-requires-clause-known : goal.look_at_any-requires-clause-known
look_at_any-requires-clause-known g c = all_known_later (λ item. item) c.args.items.now (c.args.seat.now, c.args.watch.now) (c.loop.seat, c.loop.watch) (c.loop.invariant.2, c.loop.invariant.4) c.requires.named

pub returns-in-Some-look_at_any-clause-answers : goal.returns-in-Some-look_at_any-clause-answers
returns-in-Some-look_at_any-clause-answers g c =
    let t = g.C.Condition.means in let mode = g.H.Section.mode in let items = c.args.items.now in let setup = c.args.seat.now.setup in
    let first : BothKnown = (c.args.seat.now, c.args.watch.now) in let old : BothKnown = (c.loop.seat, c.loop.watch) in let new : BothKnown = (c.look_at_any.new.seat, c.look_at_any.new.watch) in
    let on = waits_through t c.args.waiting c.loop.waiting c.in-Still.waiting c.loop.invariant.6 c.in-Still.ensures.still.on in
    let left = c.any_leave-held.result in
    elim c.match-by.branch [
      | in-Some-by w ↦
          let back = back_from_wait t mode (Some w.in-Some-by.k) c.args.waiting c.in-Still.waiting left.0 on (subst (λ (by : Option ℕ). HasComeBackFromAny t mode by c.in-Still.waiting left.0) w.in-Some-by.is c.any_leave-held.ensures) in
          subst (λ (r : Known g.row.C.Denot g.row.N × ℕ). WaitAnswers t mode items c.args.deadline (c.args.waiting, first) (r.0, new) r.1) (sym w.result-is)
          (Some w.in-Some-by.k, back, place_by setup items c.args.deadline (past_of first) (past_of new) c.args.waiting.cvs w.in-Some-by.k w.place_of-in-Some-by.result c.requires.variables back.among w.place_of-in-Some-by.ensures)
      | in-None-by w ↦
          let back = back_from_wait t mode None c.args.waiting c.in-Still.waiting left.0 on (subst (λ (by : Option ℕ). HasComeBackFromAny t mode by c.in-Still.waiting left.0) w.in-None-by.is c.any_leave-held.ensures) in
          subst (λ (r : Known g.row.C.Denot g.row.N × ℕ). WaitAnswers t mode items c.args.deadline (c.args.waiting, first) (r.0, new) r.1) (sym w.result-is) (
            None,
            back,
            record {
              rounds = c.loop.invariant.7.0;
              mid = past_of old;
              nothing = c.loop.invariant.7.1;
              last = subst (λ (s : Setup). RoundAnswers (λ item. item) s items c.args.deadline (past_of old) (past_of new) (Some c.in-Some-look_at_any.place)) c.loop.invariant.2.setup
                  (subst (RoundAnswers (λ item. item) old.0.setup items c.args.deadline (past_of old) (past_of new)) c.in-Some-look_at_any.is c.look_at_any.ensures.answers);
            },
          )
    ]

pub rest_for_any-requires-clause-known : goal.rest_for_any-requires-clause-known
rest_for_any-requires-clause-known g c = let old : BothKnown = (c.loop.seat, c.loop.watch) in let new : BothKnown = (c.look_at_any.new.seat, c.look_at_any.new.watch) in
    all_known_later (λ item. item) c.args.items.now old new (c.look_at_any.ensures.grows, c.look_at_any.ensures.watch) (all_known_later (λ item. item) c.args.items.now (c.args.seat.now, c.args.watch.now) old (c.loop.invariant.2, c.loop.invariant.4) c.requires.named)

-- one round more has shown nothing, and the wait on the monitor has gone on
pub loop-preserved : goal.loop-preserved
loop-preserved g c =
    let look = c.look_at_any.ensures in let inv = c.loop.invariant in let items = c.args.items.now in let setup = c.args.seat.now.setup in
    let first : BothKnown = (c.args.seat.now, c.args.watch.now) in let old : BothKnown = (c.loop.seat, c.loop.watch) in let new : BothKnown = (c.look_at_any.new.seat, c.look_at_any.new.watch) in
    let rest = c.rest_for_any.ensures.watch in
    let nothing = subst (λ (s : Setup). RoundAnswers (λ item. item) s items c.args.deadline (past_of old) (past_of new) None) inv.2.setup (subst (RoundAnswers (λ item. item) old.0.setup items c.args.deadline (past_of old) (past_of new)) c.in_default.is look.answers) in (
      tt,
      tt,
      grows_through _ _ _ inv.2 look.grows,
      look.mine ∙ inv.3,
      subst (EnvGrows c.args.watch.now) (sym rest) (env_grows_through _ _ _ inv.4 look.watch),
      ap (λ (w : EnvKnown). w.mine) rest ∙ (look.watched ∙ inv.5),
      waits_through g.C.Condition.means c.args.waiting c.loop.waiting c.in-Still.waiting inv.6 c.in-Still.ensures.still.on,
      (
        suc inv.7.0,
        subst (λ (w : EnvKnown). HaveShownNothing (λ so point item. WasReady setup so point item) items c.args.deadline (suc inv.7.0) (past_of first) (past_of (new.0, w))) (sym rest) (past_of old, inv.7.1, nothing),
      ),
    )

pub loop-init : goal.loop-init
loop-init g c =
    let seat = c.args.seat.now in let watch = c.args.watch.now in (
      tt,
      tt,
      grows_not seat c.requires.true_to,
      refl,
      env_grows_not watch c.requires.env_true_to,
      refl,
      waits_on_itself g.C.Condition.means c.args.waiting c.requires.seen c.requires.idle.0 c.requires.idle.1,
      (0, later_itself (past_of (seat, watch))),
    )
