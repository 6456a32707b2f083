use Rattle.ns_note.proofs.Prelude.{made_begins}
use Rattle.ns_note.proofs.Looks.{notified_at}
use Rattle.ns_note.proofs.env.Env.is_notified.Goals as goal

pub stops-requires-clause-made : goal.stops-requires-clause-made
stops-requires-clause-made c = let g = c.now-clock.ensures.grows in made_begins _ _ c.args.note.index g.true_to.legal g.begins c.requires.made

pub returns-clause-notified : goal.returns-clause-notified
returns-clause-notified c = let e = c.stops.ensures in notified_at c.stops.result c.args.seat.now.seen c.now-clock.new.seat.seen c.stops.new.seat.seen c.args.note.index c.now-clock.ensures.grows.begins e.grows.begins e.over e.not_yet
