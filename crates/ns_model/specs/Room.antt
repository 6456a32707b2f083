-- How much memory the values of a type may take, at most.
use Rattle.std.specs.Prelude.{ℕ, zero, ◌+◌, ◌*◌, ◌-◌, ◌%◌, ◌≤◌, ◌<◌, ◌^◌}
use Rattle.std.proofs.Common.{arith}
use prog.Memory.{size, align, aligns, alignss, end_of, endss, up}
use denote.RattleType.{RattleType}
use denote.Builtin.{u64}
use denote.Param.{layout}
use mir.Table.{array_at}
use mir.Syntax.{Ty, ty_int, ty_bool, ty_float, ty_ptr, ty_ref, ty_array, ty_unit, ty_struct, ty_enum, ty_named, Tys, tnil, tcons, Tyss, ttnil, ttcons, ty_param, ty_const, ty_array_p}

-- A bound of a type's size and alignment that adds up over its fields, where the size itself is rounded up field by field.
abbrev mutual
  pub room : Ty → ℕ
  room (ty_int w) = size (ty_int w) + align (ty_int w)
  room ty_bool = 2
  room (ty_float f) = size (ty_float f) + align (ty_float f)
  room ty_ptr = 16
  room (ty_ref κ μ τ) = 16
  room (ty_array τ n) = size (ty_array τ n) + align (ty_array τ n)
  room ty_unit = 1
  room (ty_struct ν τs) = 2 + 3 * rooms τs
  room (ty_enum ν τss) = 3 + 3 * roomss τss
  room (ty_param ι) = 1
  room (ty_const ι₁) = 1
  room (ty_array_p υ₁ ι₁) = 1
  room (ty_named ν θ) = 1

  pub rooms : Tys → ℕ
  rooms tnil = 0
  rooms (tcons τ τs) = room τ + rooms τs

  pub roomss : Tyss → ℕ
  roomss ttnil = 0
  roomss (ttcons τs τss) = rooms τs + roomss τss

-- a value of C, and a row of N cells
abbrev pub HasRoom : (C N : RattleType) → Type 0
HasRoom C N = (room (layout C) < 2 ^ 32) × (room (array_at (layout u64) (layout N)) < 2 ^ 32)

mod_most : (a k : ℕ) → a % k ≤ a
mod_most a k = omega arith

up_most : (k e : ℕ) → up k e ≤ e + k
up_most k e = omega (arith, mod_most (k - e % k) k)

mutual
  -- the bound is one
  pub room_enough : (τ : Ty) → size τ + align τ ≤ room τ
  room_enough (ty_int w) = omega arith
  room_enough ty_bool = omega arith
  room_enough (ty_float f) = omega arith
  room_enough ty_ptr = omega arith
  room_enough (ty_ref κ μ τ) = omega arith
  room_enough (ty_array τ n) = omega arith
  room_enough ty_unit = omega arith
  room_enough (ty_struct ν τs) = omega (arith, ends τs 0, aligns_most τs, up_most (aligns τs) (end_of zero τs))
  room_enough (ty_enum ν τss) = omega (arith, endss_most τss, alignss_most τss, up_most (alignss τss) (endss τss))
  room_enough (ty_param ι) = omega arith
  room_enough (ty_const ι₁) = omega arith
  room_enough (ty_array_p υ₁ ι₁) = omega arith
  room_enough (ty_named ν θ) = omega arith

  ends : (τs : Tys) (e : ℕ) → end_of e τs ≤ e + rooms τs
  ends tnil e = omega arith
  ends (tcons τ τs) e = omega (arith, ends τs (up (align τ) e + size τ), up_most (align τ) e, room_enough τ)

  aligns_most : (τs : Tys) → aligns τs ≤ 1 + rooms τs
  aligns_most tnil = omega arith
  aligns_most (tcons τ τs) = omega (arith, aligns_most τs, room_enough τ)

  endss_most : (τss : Tyss) → endss τss ≤ 1 + roomss τss
  endss_most ttnil = omega arith
  endss_most (ttcons τs τss) = omega (arith, endss_most τss, ends τs 1)

  alignss_most : (τss : Tyss) → alignss τss ≤ 1 + roomss τss
  alignss_most ttnil = omega arith
  alignss_most (ttcons τs τss) = omega (arith, alignss_most τss, aligns_most τs)

-- what takes little by the bound is small; of any type, so that no size is worked out
pub small_by : (τ : Ty) → room τ < 2 ^ 63 → size τ < 2 ^ 63
small_by τ few = let most = room_enough τ in omega (arith, most, few)
