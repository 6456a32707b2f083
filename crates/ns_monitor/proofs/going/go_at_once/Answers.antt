use Rattle.ns_monitor.proofs.Prelude.{Some, come_by, in_room, refl}
use Rattle.ns_monitor.proofs.Bounds.{gone_then}
use Rattle.ns_monitor.proofs.Standing.{goes_behind, loads_first, may_decide, wants_to_go}
use Rattle.ns_monitor.proofs.going.go_at_once.Goals as goal

pub begin_to_go-requires : goal.begin_to_go-requires
begin_to_go-requires g c =
    let decides = may_decide g.C.Condition.means c.args.walk c.args.seat.now.me c.requires.decides c.requires.stands.2 c.requires.stands.3 c.requires.stands.1 in
    in_room (c.requires.alone, (decides, λ word may. wants_to_go g.C.Condition.means c.args.walk c.args.going word c.requires.decides c.requires.going may))

pub returns-in-Ok : goal.returns-in-Ok
returns-in-Ok g c = let began = c.in-Ok.ensures in
    let gone = goes_behind g.C.Condition.means c.args.walk c.args.going c.args.seat.now.me c.begin_to_go.new.seat.me c.requires.decides c.requires.going c.requires.stands.1 began.by in
    record { since = come_by _ _ began (λ by. gone.0); so = (gone.1, gone.2) }

pub go_by-requires : goal.go_by-requires
go_by-requires g c = let began = c.in-Err.ensures.by in let led = loads_first g.C.Condition.means c.args.walk c.args.walk c.in-Err.word c.args.seat.now.me c.begin_to_go.new.seat.me refl c.requires.stands.1 began.1 in
    in_room (record { decides = c.requires.decides; is = c.requires.going; packs = began.0; at = led.0 })

pub returns-in-Err : goal.returns-in-Err
returns-in-Err g c = let began = c.in-Err.ensures in let led = loads_first g.C.Condition.means c.args.walk c.args.walk c.in-Err.word c.args.seat.now.me c.begin_to_go.new.seat.me refl c.requires.stands.1 began.by.1 in record {
  since = gone_then (Some c.args.walk) _ _ _ (come_by _ _ began (λ by. led.1)) c.go_by.ensures.since;
  so = c.go_by.ensures.so;
}
