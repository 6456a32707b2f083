-- A world fits in memory, over any condition.
use Rattle.std.proofs.Common.{arith, ℕ, ◌*◌, ◌+◌, ◌-◌, ◌<◌, ◌^◌, ◌≡◌}
use Rattle.ns_world.proofs.Prelude.{FitsInMemory, Ghosts, HasRoom, RattleType, copied, layout, number, param, room, small_by, value_of, world_row}
use Rattle.ns_world.specs.Room.{lock_room}
use Rattle.ns_world.specs.contracts.call.Call.{the_row as call_row}
use base.Fml.{Lft}
use contract.BorrowLft.{⊑_meet, ⊑_static, ◌⊑◌}
use Rattle.ns_world.specs.contracts.lock.Lock.{the_row as lock_row}

-- what stands beside the lock in a world takes little; of any sizes, so that none is worked out
beside_small : (lock rest : ℕ) → lock < 2 ^ 58 → rest < 2 ^ 22 → 2 + 3 * (lock + rest) < 2 ^ 63
beside_small lock rest a b = omega (arith, a, b)

-- a world fits where a condition and a row have room
pub world_fits : (C N : RattleType) → HasRoom (copied 0 C) (param 1 N) → (means : Ghosts (copied 0 C).Denot (value_of (param 1 N))) → FitsInMemory (world_row (copied 0 C) (param 1 N) means)
world_fits C N small means =
    let few : room (layout (world_row (copied 0 C) (param 1 N) means)) < 2 ^ 63 = beside_small (room (layout (lock_row (copied 0 C) (param 1 N) means))) _ (lock_room C N small means) (omega arith) in
    small_by (layout (world_row (copied 0 C) (param 1 N) means)) few

-- a loan of a world, or of a call, ends no later than what is borrowed in its condition
pub world_lives : (C : RattleType) (n : ℕ) (means : Ghosts (copied 0 C).Denot (value_of (param 1 (number n)))) (κ : Lft) → κ ⊑ C.lives → κ ⊑ (world_row (copied 0 C) (param 1 (number n)) means).lives
world_lives C n means κ lives = search (⊑_meet, ⊑_static, lives) depth 200 fits 20000

pub call_lives : (C : RattleType) (κ : Lft) → κ ⊑ C.lives → κ ⊑ (call_row (copied 0 C)).lives
call_lives C κ lives = search (⊑_meet, ⊑_static, lives) depth 80 fits 20000

-- who is below a count that answers how many there were is among as many
pub among_as_many : {seat count before after : ℕ} → seat < count → count ≡ before → after ≡ before → seat < after
among_as_many below is same = omega (arith, below, is, same)

-- a step of a loop leaves less to go
pub less_left : {i n : ℕ} → i < n → n - (i + 1) < n - i
less_left below = omega (arith, below)
