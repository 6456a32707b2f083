-- What the queues are once a borrow of their lists is over.
use Rattle.std.specs.Borrow.{Fml, Lends, MutBor}
use Rattle.ns_gate.specs.Names.{Ghosts, Lists, RattleType, queues_row}
use denote.Param.{value_of}
use Rattle.ns_gate.specs.contracts.boxed.BoxedQueues.{the_row as boxed_row}

-- they are what was last written
abbrev pub lends_lists : (C N : RattleType) → Ghosts C.Denot (value_of N) → MutBor (Lists C.Denot) → MutBor (Lists C.Denot) → Fml
lends_lists C N means s r = Lends (boxed_row C N means) (queues_row C N means) s r (λ lists. lists)
