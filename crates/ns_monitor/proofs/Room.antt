-- What a call owes of the size of what it is passed: a bound seat is far below what memory can hold.
use Rattle.std.proofs.Common.{arith, ◌≤◌}

-- a bound seat, before what else the call needs
pub in_room : {P : Type 0} → P → (25 ≤ 9223372036854775808) × P
in_room needs = (omega arith, needs)
