use Rattle.ns_monitor.proofs.Prelude.{None, in_room}
use Rattle.ns_monitor.proofs.Bounds.{gone_then}
use Rattle.ns_monitor.proofs.waiting.come_back.Goals as goal

pub acquire-requires : goal.acquire-requires
acquire-requires g c = let came = c.await_in-arrival in
    in_room came.ensures.comes.so

pub returns : goal.returns
returns g c = record {
  looked = c.await_in-arrival.ensures.looked;
  ended = c.await_in-arrival.ensures.ended;
  acquired = record { since = gone_then None _ _ _ c.await_in-arrival.ensures.comes.since c.acquire.ensures.since; so = c.acquire.ensures.so };
}
