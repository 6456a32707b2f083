-- The names of crates below and of this crate's own types, passed on from one place. Declares nothing.
pub use Rattle.arrayvec.specs.ArrayVec.{ArrayVec}
pub use Rattle.arrayvec.specs.contracts.array_vec.ArrayVec.{the_row as list_row}
pub use Rattle.ns_model.specs.Cvs.{has}
pub use Rattle.ns_model.specs.Phases.{is_waiting, is_waiting_as, is_write, woken_phase}
pub use Rattle.ns_model.specs.Room.{HasRoom, room, room_enough, small_by}
pub use Rattle.ns_model.specs.Seats.{is_in, seats_in}
pub use Rattle.ns_model.specs.Tallies.{Every, one_if, total}
pub use Rattle.ns_model.specs.Wakes.{IsLegalBroadcast, IsLegalSignal, waiting_as, woken_as, woken_strangers}
pub use Rattle.ns_model.specs.declared.condition.Condition.{Ghosts}
pub use Rattle.ns_model.specs.declared.cvs.Cvs.{Cvs}
pub use Rattle.ns_model.specs.declared.cvs.Variables.{Variables}
pub use Rattle.ns_model.specs.declared.event.Mode.{Mode}
pub use Rattle.ns_model.specs.declared.phase.Phase.{Phase}
pub use Rattle.ns_model.specs.declared.phase.Phase.TheVariants.{Cond, Idle, Left, Waiting, Woken}
pub use Rattle.ns_model.specs.declared.seats.Seats.{Seats}
pub use Rattle.ns_queue.specs.declared.counts.Counts.{Counts}
pub use Rattle.ns_queue.specs.declared.scan.Foremost.{Foremost}
pub use Rattle.ns_queue.specs.declared.scan.Foremost.TheVariants.{Reader, Writer}
pub use Rattle.ns_queue.specs.declared.scan.Sought.{Sought}
pub use Rattle.ns_queue.specs.declared.signal.Wanted.{Wanted}
pub use Rattle.ns_queue.specs.declared.signal.Wanted.TheVariants.{Anybody, Nobody, Readers, ReadersAndWriter}
pub use Rattle.ns_queue.specs.declared.waiter.Shown.{Shown}
pub use Rattle.ns_queue.specs.declared.waiter.Waiter.{Waiter}
pub use Rattle.ns_queue.specs.declared.waiter.Which.{Which}
pub use Rattle.ns_queue.specs.declared.waiter.Which.TheVariants.{Cv, Lock}
pub use denote.Builtin.{u64, unit}
pub use denote.Param.{copied, layout, number, param, value_of}
pub use denote.RattleType.{RattleType}
pub use mir.Syntax.{Ty, ty_array}
pub use mir.Table.{array_at}
pub use prog.Memory.{size}
