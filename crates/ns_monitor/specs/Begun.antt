-- A call that has begun, and has tried to go at once.
use Rattle.std.specs.Prelude.{Some, ℕ, ◌≡◌}
use Rattle.ns_monitor.specs.Names.{HasSince, SeatOf, TableId, Walk, the}
use Rattle.ns_monitor.specs.Known.{Known, known_of}
use Rattle.ns_monitor.specs.Standing.{IsNumberOf}

-- Its caller, of whom this was known, began so, and has come here since, with its number at hand.
pub record HasBegun {C : Type 0} {N : ℕ} (first : Walk C) (old : Known C N) (monitor : TableId) (number : ℕ) (me : SeatOf C N) : Type 0 where
  pub own : IsNumberOf number me
  pub was : SeatOf C N
  pub view : known_of monitor was ≡ old
  pub since : HasSince (Some first) (the was.0) (the me.0)
