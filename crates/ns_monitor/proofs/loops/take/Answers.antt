use Rattle.std.proofs.Common.{subst, sym, ◌∙◌, ◌≡◌}
use Rattle.ns_monitor.proofs.Prelude.{HasReached, MayGoAlone, Saw, asked_of, got_of, in_room, the}
use Rattle.ns_monitor.proofs.Bounds.{gone_by, gone_then}
use Rattle.ns_monitor.proofs.Standing.{has_loaded, may_load}
use Rattle.ns_monitor.proofs.loops.take.Given.{Over}
use Rattle.ns_monitor.proofs.loops.take.Goals.{After-load-first}
use Rattle.ns_monitor.proofs.loops.take.Goals as goal

pub load-first-requires : goal.load-first-requires
load-first-requires g c = in_room (may_load g.C.Condition.means c.args.begins c.args._walk c.args.seat.now.me c.requires.decides c.requires.stands)

-- the word was loaded
loaded : (g : Over) (c : After-load-first g) → HasReached g.C.Condition.means (asked_of c.args._walk) (got_of g.row.N c.args._walk (Saw c.load-first.result)) c.load-first.new.self.me × ((the c.load-first.new.self.me.0).at.held ≡ (the c.args.seat.now.me.0).at.held)
loaded g c = has_loaded g.C.Condition.means c.args.begins c.args._walk c.load-first.result c.args.seat.now.me c.load-first.new.self.me c.requires.decides c.requires.stands c.load-first.ensures.did.by

pub go_or_take-requires : goal.go_or_take-requires
go_or_take-requires g c = in_room (record { decides = c.requires.decides; is = sym c.requires.going; packs = c.load-first.ensures.word; at = (loaded g (goal.at.go_or_take-requires g c).After-load-first).0 })

pub unreachable-requires : goal.unreachable-requires
unreachable-requires g c = subst MayGoAlone c.requires.going c.in-None.ensures.so.0

pub returns : goal.returns
returns g c = let took = c.in-Some.ensures.so in record {
  since = gone_then c.args.begins _ _ _ (gone_by c.load-first.ensures.did) c.in-Some.ensures.since;
  so = record {
    at = took.at;
    taken = took.taken;
    packs = took.packs;
    held = took.held ∙ (loaded g (goal.at.returns g c).After-load-first).1;
    tells = took.tells;
    orderly = took.orderly;
  };
}
