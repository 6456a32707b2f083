use Rattle.ns_note.proofs.Looks.{waited_since}
use Rattle.ns_note.proofs.Rests.{made_grows}
use Rattle.ns_note.proofs.env.Env.note_wait.Goals as goal

pub go_on_waiting-requires-clause-made : goal.go_on_waiting-requires-clause-made
go_on_waiting-requires-clause-made g c = made_grows c.args.seat.now c.look.new.seat c.args.note.index c.look.ensures.grows c.requires.made

pub returns-in_default-clause-answers : goal.returns-in_default-clause-answers
returns-in_default-clause-answers g c = waited_since c.args.note c.args.deadline c.args.seat.now.seen c.look.new.seat.seen c.go_on_waiting.new.seat.seen c.look.ensures.grows.begins c.go_on_waiting.result c.go_on_waiting.ensures.answers
