use Rattle.std.proofs.Common.{IfSome, Option, subst, sym, ◌∙◌}
use Rattle.ns_note.proofs.Prelude.{BeginsWith, EnvKnown, IsBetween, IsMade, IsUnnotified, begins_itself, made_begins}
use Rattle.ns_note.proofs.Looks.{expires, shows_nothing}
use Rattle.ns_note.proofs.env.Env.look_for.Goals.{After-is_due, in-Some+else-stops, in_default}
use Rattle.ns_note.proofs.env.Env.look_for.Goals as goal

pub stops-requires-clause-made : goal.stops-requires-clause-made
stops-requires-clause-made c = let g = c.now-clock.ensures.grows in let made = subst (λ (o : Option _). IfSome o (IsMade c.args.seat.now.seen)) c.in-Some.is c.requires.made in
    made_begins _ _ c.in-Some.note g.true_to.legal g.begins made

-- the note that is named, if one is, wasn't notified at the clock loaded
waited : (c : After-is_due) → IsUnnotified c.now-clock.new.seat.seen c.args.limits.note × IsBetween c.args.seat.now.seen c.now-clock.new.seat.seen c.match-limits.seat.seen
waited c = let seen = c.now-clock.new.seat.seen in let before = c.now-clock.ensures.grows.begins in elim c.match-limits.branch [
  | in-Some+else-stops w ↦ (subst (IsUnnotified seen) (sym w.in-Some.is) (w.stops.ensures.not_yet w.if-stops.false), (before, subst (λ (s : EnvKnown). BeginsWith s.seen seen) (sym w.seat-is) w.stops.ensures.grows.begins))
  | in_default w ↦ (subst (IsUnnotified seen) (sym w.in_default.is) tt, (before, subst (λ (s : EnvKnown). BeginsWith s.seen seen) (sym w.seat-is) (begins_itself seen)))
]

pub returns-then-is_due-clause-shows : goal.returns-then-is_due-clause-shows
returns-then-is_due-clause-shows c = let so = waited (goal.at.returns-then-is_due-clause-shows c).After-is_due in
    expires c.args.limits c.args.seat.now.seen c.now-clock.new.seat.seen c.match-limits.seat.seen so.1 c.now-clock.result c.now-clock.ensures.clock (sym c.is_due.ensures ∙ c.if-is_due.true) so.0

pub returns-else-is_due-clause-shows : goal.returns-else-is_due-clause-shows
returns-else-is_due-clause-shows c = let so = waited (goal.at.returns-else-is_due-clause-shows c).After-is_due in
    shows_nothing c.args.limits c.args.seat.now.seen c.now-clock.new.seat.seen c.match-limits.seat.seen so.1 c.now-clock.result c.now-clock.ensures.clock (sym c.is_due.ensures ∙ c.if-is_due.false) so.0
