use Rattle.std.proofs.Common.{[], ◌∷◌}
use Rattle.ns_seats.proofs.saying.exchange_saying.Given as goal

abbrev pub ghosts-exchange_said : goal.ghosts-exchange_said
ghosts-exchange_said g a = record { says = a._said.now ∷ [] }
