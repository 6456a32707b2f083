use Rattle.ns_note.proofs.Prelude.{EnvKnown, Grows, subst}
use Rattle.ns_note.proofs.Looks.{waited_since}
use Rattle.ns_note.proofs.Rests.{made_grows}
use Rattle.ns_note.proofs.watcher.Watcher.note_wait.Goals as goal

pub go_on_waiting-requires-clause-made : goal.go_on_waiting-requires-clause-made
go_on_waiting-requires-clause-made g c = let grows = subst (λ (k : EnvKnown). Grows k c.look.new.seat) c.self.view_is c.look.ensures.grows in
    made_grows c.args.self.now c.look.new.seat c.args.note.index grows c.requires

pub returns-in_default-clause-answers : goal.returns-in_default-clause-answers
returns-in_default-clause-answers g c = let grows = subst (λ (k : EnvKnown). Grows k c.look.new.seat) c.self.view_is c.look.ensures.grows in
    waited_since c.args.note c.args.deadline c.args.self.now.seen c.look.new.seat.seen c.go_on_waiting.new.seat.seen grows.begins c.go_on_waiting.result c.go_on_waiting.ensures.answers
