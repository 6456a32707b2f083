-- What a drawing keeps of the turns of a run.
use Rattle.std.specs.Option.{option_map_or}
use Rattle.std.specs.Prelude.{None, Option, Some, [], false, length, slice_get, ℕ, ◌++◌, ◌<◌, ◌∷◌, ◌≡◌, ◌≤◌, ◌⊎◌}
use Rattle.ns_model.specs.Seats.{is_in}
use Rattle.ns_model.specs.declared.event.Mode.TheVariants.{Read, Write}
use Rattle.ns_replay.specs.Condition.{script_truths}
use Rattle.ns_replay.specs.Replaying.{IsToldTo}
use Rattle.ns_replay.specs.Script.{Plan}
use Rattle.ns_replay.specs.declared.condition.ScriptCondition.{ScriptCondition}
use Rattle.ns_world.specs.Seen.{Seen}
use Rattle.ns_world.specs.Whole.{holds, whole_busy, whole_of}
use Rattle.ns_world.specs.World.{Kept}
use Rattle.ns_world.specs.declared.call.Call.{Call}
use Rattle.ns_world.specs.declared.reply.Reply.{Reply}
use Rattle.ns_world.specs.declared.step.Step.{Step}
use Rattle.ns_world.specs.declared.step.Step.TheVariants.{Finished}
use Rattle.ns_timeline.specs.declared.paper.Change.{Change}
use Rattle.ns_timeline.specs.declared.record.Record.{Record}
use Rattle.ns_timeline.specs.declared.sight.Sight.{Sight}
use Rattle.ns_timeline.specs.declared.stepping.Drawing.{Drawing}

-- who has a section in hand, by mode, and who has a call in progress, is seen just as the world has it
pub record ShowsSections (sight : Sight) (world : Kept ScriptCondition 8) : Type 0 where
  pub writers : (seat : ℕ) → is_in sight.writers seat ≡ option_map_or (holds Write) (slice_get world.seats seat) false
  pub readers : (seat : ℕ) → is_in sight.readers seat ≡ option_map_or (holds Read) (slice_get world.seats seat) false
  pub busy : (seat : ℕ) → is_in sight.busy seat ≡ whole_busy (whole_of script_truths world) seat

-- the answer by which a step has ended its call
abbrev pub reply_in : Step → Option Reply
reply_in (Finished reply) = Some reply
reply_in step = None

-- What is drawn of the turn is what it was: its number, its seat, that seat's call, the row after it, and the answer by which it ended the call.
pub record IsOf (turn : Seen (Kept ScriptCondition 8) (Call ScriptCondition)) (change : Change) : Type 0 where
  pub number : change.turn ≡ turn.turn
  pub thread : change.thread ≡ turn.seat
  pub call : Some change.call ≡ turn.call
  pub row : change.row ≡ turn.after.row
  pub reply : change.reply ≡ reply_in turn.step

-- The drawing was told of the turn, and shows the world after it. It has passed on nothing, or a change that is of the turn, from what was seen before to what is seen now.
pub record Looked {P : Type 0} (keeps : P → Change → P → Type 0) (old : Drawing P) (turn : Seen (Kept ScriptCondition 8) (Call ScriptCondition)) (new : Drawing P) : Type 0 where
  pub shows : ShowsSections new.sight turn.after
  pub drawn : (new.paper ≡ old.paper) ⊎ ((change : Change) × IsOf turn change × (change.before ≡ old.sight) × (change.after ≡ new.sight) × keeps old.paper change new.paper)

-- A drawing has not looked at the turn, and is as it was, or has looked.
abbrev pub Draws : {P : Type 0} → (P → Change → P → Type 0) → Drawing P → Seen (Kept ScriptCondition 8) (Call ScriptCondition) → Drawing P → Type 0
Draws keeps old turn new = (new ≡ old) ⊎ Looked keeps old turn new

-- a record takes a change behind those that it has, while these are fewer than 2,000
pub record Keeps (old : Record) (change : Change) (new : Record) : Type 0 where
  pub some : length old.changes.items < 2000 → new.changes.items ≡ old.changes.items ++ change ∷ []
  pub full : 2000 ≤ length old.changes.items → new.changes.items ≡ old.changes.items

-- The record is what a drawing on an empty one has become that was told of each turn of a run of the script, which ends in this world.
pub record IsRecordOf (limit : ℕ) (plan : Plan) (world : Kept ScriptCondition 8) (kept : Record) : Type 0 where
  pub first : Drawing Record
  pub last : Drawing Record
  pub told : IsToldTo (Draws Keeps) limit plan first world last
  pub empty : first.paper.changes.items ≡ []
  pub is : last.paper ≡ kept
