-- A section in hand takes little memory, in either mode.
use Rattle.std.proofs.Common.{arith}
use Rattle.ns_monitor.specs.Names.{RattleType, layout}
use Rattle.ns_monitor.specs.Room.{TakesLittle, kept_small}
use Rattle.ns_monitor.specs.contracts.caller.Reading.{the_row as reading_row}
use Rattle.ns_monitor.specs.contracts.caller.Writing.{the_row as writing_row}

pub reading_small : (N : RattleType) → TakesLittle reading_row N
reading_small N few = omega arith

pub writing_small : (N : RattleType) → TakesLittle (writing_row N) N
writing_small N few = omega (arith, kept_small (layout N) few)
