-- The rule of a table whose seats may be joined, learn of one another and be cut again.
use Rattle.std.specs.Prelude.{◌≡◌, ℕ, List}
use mathlib.Core.Option.{Option}
use Rattle.atomic_table.specs.Table.{State as TableState, Me}
use Rattle.ns_model.specs.Tallies.{Every}
use Rattle.ns_seats.specs.Views.{Views, tally, the_or, the_second_or, ArePair}

-- How a table stands: its words, what lies in its slots, its views, and what lies behind them that is in no word, as a history is.
abbrev pub Ruling : Type 0 → Type 0 → Type 0 → Type 1
Ruling S V B = List ℕ → List (Option S) → Views V → B → Type 0

-- The rule holds of a table: with its words, slots and views as they are, something behind them fits.
abbrev pub Holds : {S V B : Type 0} → Ruling S V B → TableState S (List V) → Type 0
Holds {B = B} Ruled s = (behind : B) × Ruled s.words s.homes s.views behind

-- The rule reads the views by sums over something of each seat, and by what holds of each.
pub record IsBySums {S V B K : Type 0} (key : V → K) (Fits : B → V → Type 0) (Ruled : Ruling S V B) : Type 0 where
  pub each : (words : List ℕ) (homes : List (Option S)) (views : Views V) (behind : B) → Ruled words homes views behind → Every (Every (Fits behind)) views
  pub same : (words : List ℕ) (homes : List (Option S)) (views views' : Views V) (behind : B) → Ruled words homes views behind
      → ((f : K → ℕ) → tally (λ view. f (key view)) views' ≡ tally (λ view. f (key view)) views) → Every (Every (Fits behind)) views' → Ruled words homes views' behind

-- Two seats that stand together have met, and hold the slots that they held.
pub record HaveLearned {S V : Type 0} (none : V) (HaveMet : V → V → V → V → Type 0) (me now : Me S (List V)) : Type 0 where
  pub pair : ArePair now.0
  pub carried : now.1 ≡ me.1
  pub met : HaveMet (the_or none me.0) (the_second_or none me.0) (the_or none now.0) (the_second_or none now.0)
