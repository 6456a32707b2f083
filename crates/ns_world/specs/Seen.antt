-- A turn of a run, as an observer is told of it.
use Rattle.std.specs.Prelude.{Option, ℕ}
use Rattle.ns_world.specs.Names.{Step}

-- which turn of the run it was, from 1, and whose; the call that the seat was in or began, if it had one; the worlds before and after the turn; and what it was
pub record Seen (W K : Type 0) : Type 0 where
  pub turn : ℕ
  pub seat : ℕ
  pub call : Option K
  pub before : W
  pub after : W
  pub step : Step

-- a turn, part by part
abbrev pub seen_as : {W K : Type 0} → ℕ → ℕ → Option K → W → W → Step → Seen W K
seen_as turn seat call before after step = record { turn = turn; seat = seat; call = call; before = before; after = after; step = step }
