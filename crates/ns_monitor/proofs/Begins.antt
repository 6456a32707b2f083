-- What a seat may begin that has a section in hand.
use Rattle.std.proofs.Common.{Bool, List, Option, Some, arith, false, if◌then◌else◌, ltb-false, ltb-true, nat_lt, refl, subst, sym, true, ℕ, ◌-◌, ◌≡◌, ◌≤◌}
use Rattle.ns_monitor.proofs.Prelude.{CellFits, HasMode, Held, InCells, IsAtRest, IsFirst, IsFreshIn, IsWide, Mode, PlaceFits, QuietCells, QuietLast, SeatOf, StandsAt, ToTell, Truths, Walk, Write}
use Rattle.ns_monitor.proofs.Prelude.{new_section, quiet_place, the}

module _ {C : Type 0} {N : ℕ} (truths : Truths C) where
  judges_first : (b : Bool) (held : Option (Held C N)) → nat_lt 0 (N - 1) ≡ b → 1 ≤ N → HasMode Write held →
      IsFirst {C = C} N (InCells (if b then QuietCells ToTell 0 else QuietLast ToTell (N - 1))) × CellFits (if b then QuietCells ToTell 0 else QuietLast ToTell (N - 1)) held
  judges_first true held e some in_mode = let more = ltb-true 0 (N - 1) e in (refl, (in_mode, omega (arith, more)))
  judges_first false held e some in_mode = let none = ltb-false 0 (N - 1) e in (omega (arith, none), (in_mode, omega (arith, none, some)))

  -- to judge it
  pub may_judge : (first : Walk C) (me : SeatOf C N) → 1 ≤ N → first ≡ InCells (quiet_place N ToTell 0) → IsAtRest truths me → HasMode Write (the me.0).at.held → StandsAt truths (Some first) (InCells (quiet_place N ToTell 0)) me
  may_judge first me some is rest in_mode = let so = judges_first (nat_lt 0 (N - 1)) (the me.0).at.held refl some in_mode in
      (is, rest, subst (λ (w : Walk C). IsFirst N w) (sym is) so.0, subst (λ (w : Walk C). PlaceFits truths (Some w) (the me.0).at.held) (sym is) (so.1, rest.settled))

-- and its section has just begun
pub locked_fresh : {C : Type 0} {N : ℕ} (mode : Mode) (row : List ℕ) (held : Option (Held C N)) → held ≡ Some (new_section mode row) → IsWide held → IsFreshIn N mode held
locked_fresh {C} {N} mode row held is wide = subst (λ (h : Option (Held C N)). IsFreshIn N mode h) (sym is) (record { mode_is = refl; width = (subst (λ (h : Option (Held C N)). IsWide h) is wide).0; row_is = refl })
