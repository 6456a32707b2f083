use Rattle.std.proofs.Common.{Some, ap, subst, sym, ◌∙◌}
use Rattle.ns_note.proofs.Prelude.{IsLeftAt, NoteWord, env_after, line_falls, made_below, nearer}
use Rattle.ns_note.proofs.Looks.{goes_above, over_above}
use Rattle.ns_note.proofs.Rests.{grows_through}
use Rattle.ns_note.proofs.env.Env.stops.Goals.{In-Some}
use Rattle.ns_note.proofs.env.Env.stops.Goals as goal

pub word-word-requires-clause-number : goal.word-word-requires-clause-number
word-word-requires-clause-number c = made_below c.args.seat.now.seen c.args.note c.requires.true_to.legal c.requires.made

pub returns-in-None-clause-not_yet : goal.returns-in-None-clause-not_yet
returns-in-None-clause-not_yet c = let seen = c.args.seat.now.seen in let g = c.loop-word.invariant.0 in
    λ _. subst (IsLeftAt seen c.args.note) c.in-None.is
    (goes_above seen c.loop-word.seat.seen g.true_to.legal g.begins c.args.note c.args.clock c.requires.clock c.loop-word.word c.loop-word.invariant.2 (sym c.is_over.ensures ∙ c.loop-word-test.true))

-- the walk goes on to this place
left : (c : In-Some) → IsLeftAt c.args.seat.now.seen c.args.note (Some c.in-Some.number)
left c = let seen = c.args.seat.now.seen in let g = c.loop-word.invariant.0 in
    subst (IsLeftAt seen c.args.note) c.in-Some.is
    (goes_above seen c.loop-word.seat.seen g.true_to.legal g.begins c.args.note c.args.clock c.requires.clock c.loop-word.word c.loop-word.invariant.2 (sym c.is_over.ensures ∙ c.loop-word-test.true))

pub word-word-requires-in-Some-clause-number : goal.word-word-requires-in-Some-clause-number
word-word-requires-in-Some-clause-number c = made_below c.args.seat.now.seen c.in-Some.number c.requires.true_to.legal (left (goal.at.word-word-requires-in-Some-clause-number c).In-Some).0

pub loop-word-smaller : goal.loop-word-smaller
loop-word-smaller c = let now = c.word-word-in-Some.new.seat in let e = c.word-word-in-Some.ensures in
    nearer c.loop-word.word.parent c.word-word-in-Some.result.parent c.in-Some.number ((env_after now.seen).notes c.in-Some.number).parent c.in-Some.is (ap (λ (z : NoteWord). z.parent) e.word) (line_falls now.seen c.in-Some.number e.grows.true_to.legal)

pub loop-word-preserved : goal.loop-word-preserved
loop-word-preserved c = let e = c.word-word-in-Some.ensures in (
  grows_through _ _ c.word-word-in-Some.new.seat c.loop-word.invariant.0 e.grows,
  e.mine ∙ c.loop-word.invariant.1,
  record { place = c.in-Some.number; left = left (goal.at.loop-word-preserved c).In-Some; loaded = e.word },
)

pub returns-clause-over : goal.returns-clause-over
returns-clause-over c = let g = c.loop-word.invariant.0 in
    λ _. over_above c.args.seat.now.seen c.loop-word.seat.seen g.true_to.legal g.begins c.args.note c.args.clock c.requires.clock c.loop-word.word c.loop-word.invariant.2 (sym c.is_over.ensures ∙ c.loop-word-test.false)
