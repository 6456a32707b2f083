-- The act that a place wants may be made.
use Rattle.std.proofs.Common.{◌≡◌, ℕ, ◌≤◌, List, length, Some, slice_get, arith}
use Rattle.ns_env.specs.Prelude.{EnvActFits, EnvEvent, EnvState, EnvWalk, ExpiryLoad, IsLawfulEnv, MakeNote, NoteLoad, Notifying, TakeNumber, env_want_of}
use Rattle.ns_model.proofs.Environments.{sound_after, made_below}

pub asks_in_range : (h : List EnvEvent) (state : EnvState) (seat : ℕ) (walk : EnvWalk) → length state.askings ≤ 64 → IsLawfulEnv h state → slice_get state.askings seat ≡ Some (Some walk) → EnvActFits state.plain.next (env_want_of walk)
asks_in_range h state seat (TakeNumber parent deadline) few l at = let room = l.lawful.room in omega (arith, room, few)
asks_in_range h state seat (MakeNote note parent deadline) few l at =
    let s = sound_after h l.lawful.meets.legal in let most = s.few in let low = s.taken note seat (l.making seat (MakeNote note parent deadline) at).0 in omega (arith, most, low)
asks_in_range h state seat (Notifying note) few l at = made_below h note l.lawful.meets.legal (l.each seat (Notifying note) at)
asks_in_range h state seat (NoteLoad chain clock note) few l at = made_below h note l.lawful.meets.legal (l.each seat (NoteLoad chain clock note) at).1
asks_in_range h state seat (ExpiryLoad asked note least) few l at = made_below h note l.lawful.meets.legal (l.each seat (ExpiryLoad asked note least) at).1
asks_in_range h state seat other few l at = tt
