use Rattle.std.proofs.Common.{Some, ap, ◌∙◌}
use Rattle.ns_note.proofs.Looks.{canceled_since, timed_out_since}
use Rattle.ns_note.proofs.Rests.{made_grows}
use Rattle.ns_note.proofs.env.Env.go_on_waiting.Goals as goal

pub look_or_sleep-requires-clause-made : goal.look_or_sleep-requires-clause-made
look_or_sleep-requires-clause-made g c = made_grows c.args.seat.now c.loop.seat c.args.note.index c.loop.invariant.2 c.requires.made

pub returns-in-Some-Canceled-clause-answers : goal.returns-in-Some-Canceled-clause-answers
returns-in-Some-Canceled-clause-answers g c = let e = c.look_or_sleep.ensures in
    canceled_since c.args.note c.args.deadline c.args.seat.now.seen c.loop.seat.seen c.look_or_sleep.new.seat.seen c.loop.invariant.2.begins c.look_or_sleep.result (c.in-Some-Canceled.is ∙ ap Some c.in-Some-Canceled.field-0-is) e.answers

pub returns-in-Some-TimedOut-clause-answers : goal.returns-in-Some-TimedOut-clause-answers
returns-in-Some-TimedOut-clause-answers g c = let e = c.look_or_sleep.ensures in
    timed_out_since c.args.note c.args.deadline c.args.seat.now.seen c.loop.seat.seen c.look_or_sleep.new.seat.seen c.loop.invariant.2.begins c.look_or_sleep.result (c.in-Some-TimedOut.is ∙ ap Some c.in-Some-TimedOut.field-0-is) e.answers
