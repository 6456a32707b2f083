use Rattle.std.proofs.Common.{arith, inr, map, subst, sym, ◌∙◌, ◌≡◌}
use Rattle.ns_objects.proofs.Prelude.{BothKnown, Cvs, PlaceBy, RoundAnswers, Setup, is_among, is_in, item_of, layout, past_of}
use Rattle.ns_objects.proofs.HeldWaits.{all_low, some_wait, waited, hand_fits}
use Rattle.ns_objects.proofs.Rounds.{all_known_later, further}
use Rattle.ns_objects.proofs.objects.Objects.wait_any_held.Goals as goal

pub variables_in-requires : goal.variables_in-requires
variables_in-requires g c = all_low c.args.items.now (c.args.seat.now, c.args.watch.now) c.requires.named

pub any_begin-waiting-requires : goal.any_begin-waiting-requires
any_begin-waiting-requires g c = let some = some_wait c.variables_in.result (map item_of c.args.items.now) c.requires.variable.0 c.variables_in.ensures.byte c.variables_in.ensures.among (all_low c.args.items.now (c.args.seat.now, c.args.watch.now) c.requires.named) c.requires.variable.1 in
    (omega arith, (hand_fits (layout g.row.H) (g.met.H.Compact.has_room g.met.C.Condition.has_room.1), (omega arith, (c.requires.monitor, some))))

pub await_any-requires : goal.await_any-requires
await_any-requires g c = let look = c.look_at_any.ensures in let begun = c.any_begin-waiting.ensures in let room = g.met.H.Compact.has_room g.met.C.Condition.has_room.1 in (
  omega arith,
  (
    omega arith,
    (
      hand_fits (layout g.row.H) room,
      (
        look.grows.objects ∙ c.requires.objects,
        (
          begun.monitor ∙ c.requires.monitor,
          (
            (begun.owes, begun.empty),
            (
              begun.true_to,
              (
                λ k. subst (λ (cvs : Cvs). is_in cvs k ≡ is_among k (map item_of c.args.items.now)) (sym begun.variables) (c.variables_in.ensures.among k),
                (look.watch.env ∙ c.requires.env, (all_known_later (λ item. item) c.args.items.now (c.args.seat.now, c.args.watch.now) (c.look_at_any.new.seat, c.look_at_any.new.watch) (look.grows, look.watch) c.requires.named, (look.grows.true_to, look.watch.true_to))),
              ),
            ),
          ),
        ),
      ),
    ),
  ),
)

pub returns-clause-answers : goal.returns-clause-answers
returns-clause-answers g c =
    let first : BothKnown = (c.args.seat.now, c.args.watch.now) in let old : BothKnown = (c.look_at_any.new.seat, c.look_at_any.new.watch) in
    let look = c.look_at_any.ensures in let e = c.await_any.ensures in let cvs = c.variables_in.result in
    inr (record {
      mid = past_of old;
      nothing = subst (RoundAnswers (λ item. item) first.0.setup c.args.items.now c.args.deadline (past_of first) (past_of old)) c.in_default.is look.answers;
      until = further old (c.await_any.new.seat, c.await_any.new.watch) (e.grows, e.watch);
      cvs = cvs;
      low = (some_wait cvs (map item_of c.args.items.now) c.requires.variable.0 c.variables_in.ensures.byte c.variables_in.ensures.among (all_low c.args.items.now first c.requires.named) c.requires.variable.1).1;
      among = c.variables_in.ensures.among;
      by = e.answers.0;
      waited = waited g.C.Condition.means g.H.Section.mode e.answers.0 cvs c.args.held c.any_begin-waiting.result c.await_any.result.0 c.any_begin-waiting.ensures e.answers.1;
      place_by = subst (λ (s : Setup). PlaceBy s c.args.items.now c.args.deadline (past_of old) (past_of (c.await_any.new.seat, c.await_any.new.watch)) e.answers.0 c.await_any.result.1) look.grows.setup e.answers.2;
    })
