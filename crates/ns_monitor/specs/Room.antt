-- How much memory a section in hand takes.
use Rattle.std.proofs.Common.{arith}
use Rattle.std.specs.Prelude.{◌<◌, ◌^◌}
use Rattle.std.specs.contracts.option.Option.{the_row as option_row}
use Rattle.ns_monitor.specs.Names.{RattleType, Ty, array_at, layout, room, ty_array, ty_array_p, ty_bool, ty_const, ty_enum, ty_float, ty_int, ty_named, ty_param, ty_ptr, ty_ref, ty_struct, ty_unit, u64}

-- a section takes little, where a row of so many cells does
abbrev pub TakesLittle : (H N : RattleType) → Type 0
TakesLittle H N = room (array_at (layout u64) (layout N)) < 2 ^ 32 → room (layout H) < 2 ^ 40

-- what is kept for each cell of a row takes little, too
pub kept_small : (υ : Ty) → room (array_at (layout u64) υ) < 2 ^ 32 → room (array_at (layout (option_row u64)) υ) < 2 ^ 36
kept_small (ty_const n) few = omega (arith, few)
kept_small (ty_param j) few = omega arith
kept_small (ty_int w) few = omega arith
kept_small ty_bool few = omega arith
kept_small (ty_float f) few = omega arith
kept_small ty_ptr few = omega arith
kept_small (ty_ref κ μ υ) few = omega arith
kept_small (ty_array υ k) few = omega arith
kept_small ty_unit few = omega arith
kept_small (ty_struct ν υs) few = omega arith
kept_small (ty_enum ν υss) few = omega arith
kept_small (ty_named ν υs) few = omega arith
kept_small (ty_array_p υ k) few = omega arith
