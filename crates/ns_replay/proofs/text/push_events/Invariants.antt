use Rattle.std.proofs.Common.{flat_map, string_bytes, take, ◌++◌, ◌≡◌}
use Rattle.ns_replay.proofs.Prelude.{event_text}
use Rattle.ns_replay.proofs.text.push_events.Given as goal

abbrev pub invariant-loop-event : goal.invariant-loop-event
invariant-loop-event l = string_bytes l.out ≡ string_bytes l.fn.out ++ flat_map event_text (take l.event-index l.events)
