-- The names of crates below and of this crate's own types, passed on from one place. Declares nothing.
pub use Rattle.ns_outcomes.specs.declared.drawing.Drawing.{Drawing}
pub use Rattle.ns_outcomes.specs.declared.seeds.Seeds.{Seeds}
pub use Rattle.ns_outcomes.specs.declared.standing.Made.{Made}
pub use Rattle.ns_outcomes.specs.declared.standing.Standing.{Standing}
pub use Rattle.ns_outcomes.specs.declared.standing.Standing.TheVariants.{Going, Over, Stuck, Tried, Waiting}
pub use Rattle.ns_outcomes.specs.declared.tallying.Count.{Count}
pub use Rattle.ns_outcomes.specs.declared.tallying.Counts.{Counts}
pub use Rattle.ns_outcomes.specs.declared.tallying.Found.{Found}
pub use Rattle.ns_replay.specs.Prelude.{Call, Data, HasRun, IsRefused, Line, Plan, Runs, Turn, Turned, Whole, WorldFault, get, left_text, max_bytes, read, row_text, script_truths, start, whole_busy, whole_of, world_for}
pub use Rattle.ns_replay.specs.Replaying.{NeedsMore}
pub use Rattle.ns_replay.specs.Text.{reply_text}
pub use Rattle.ns_replay.specs.declared.condition.ScriptCondition.{ScriptCondition}
pub use Rattle.ns_replay.specs.declared.fault.Fault.{Fault}
pub use Rattle.ns_replay.specs.declared.fault.Fault.TheVariants.{BadScript, OutOfMemory, Read, StepLimit, TooMany, Write}
pub use Rattle.ns_world.specs.Prelude.{Advances, Progress, TurnOf, progress}
pub use Rattle.ns_world.specs.Runs.{Item, items_of, next_call}
pub use Rattle.ns_world.specs.declared.step.Step.{Step}
pub use Rattle.ns_world.specs.declared.step.Step.TheVariants.{Finished, Idle, Nothing, Went}
pub use Rattle.rand_pcg.specs.Lcg.{Lcg}
pub use Rattle.rand_pcg.specs.Pcg.{pcg32, pcg32_of_seed}
pub use Rattle.serde_json.specs.Data.{depth}
pub use Rattle.serde_json.specs.Read.{max_depth}
pub use Rattle.serde_json.specs.Written.{IsInOrder, compact_text, has_float}
unfoldable pub use Rattle.ns_replay.specs.Replaying.{plan_from}
unfoldable pub use Rattle.rand_core.specs.Pcg32Seed.{pcg32_seed}
