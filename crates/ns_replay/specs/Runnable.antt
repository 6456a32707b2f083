-- What every script that was read keeps.
use Rattle.std.specs.Prelude.{All, List, length, ◌<◌, ◌≤◌}
use Rattle.ns_replay.specs.Names.{Call, CallInRange, ScriptCondition}
use Rattle.ns_replay.specs.Script.{Plan}

-- a thread has at most 256 calls, of the eight cells, of four condition variables, of 64 notes, and of moments below 2^54
pub record IsShort (calls : List (Call ScriptCondition)) : Type 0 where
  pub few : length calls ≤ 256
  pub in_range : All (CallInRange 8) calls

-- at most 16 counters, 16 once cells, four condition variables and 64 threads, and only those have turns
pub record IsRunnable (plan : Plan) : Type 0 where
  pub counters : length plan.counters ≤ 16
  pub onces : plan.onces ≤ 16
  pub variables : plan.cvs ≤ 4
  pub few : length plan.threads ≤ 64
  pub short : All IsShort plan.threads
  pub in_range : All (λ turn. turn.thread < length plan.threads) plan.schedule
