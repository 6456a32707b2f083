-- Runs of turns, how many of their steps count, what the calls pay that begin in them, and rounds of them.
use Rattle.std.specs.Prelude.{Bool, List, None, Option, Some, [], false, if◌then◌else◌, true, ℕ, ◌==◌, ◌∷◌, ◌≡◌, ◌≤◌, ◌⊎◌}
use Rattle.ns_word.specs.Names.{Event, Every, Found, SeatView, Truths, Walk, one_if, total}
use Rattle.ns_word.specs.Begins.{SeatStep}
use Rattle.ns_word.specs.Progress.{cost_of, counts}
use Rattle.ns_word.specs.Rests.{rests_at}
use Rattle.ns_word.specs.Steps.{LockState}
use Rattle.ns_word.specs.Views.{walk_at}

-- A turn: whose it is, the place from which it makes a step, whether a call begins there with the turn, and what the step finds.
pub record Turn (C : Type 0) : Type 0 where
  pub seat : ℕ
  pub walk : Walk C
  pub begins : Bool
  pub found : Found

-- the call that begins with the turn, if one does
abbrev pub begun_by : {C : Type 0} → Turn C → Option (Walk C)
begun_by turn = if turn.begins then Some turn.walk else None

-- The turn is made: its seat makes a step from old to new, the next of its call in progress or the first of the one that begins.
pub record IsMade {C : Type 0} {N : ℕ} (truths : Truths C) (old : LockState C N) (turn : Turn C) (new : LockState C N) (commits : List (Event C N)) : Type 0 where
  pub view : SeatView C N
  pub whose : view.seat ≡ turn.seat
  pub made : SeatStep truths old view (begun_by turn) turn.found new commits
  pub place : made.step.walk ≡ turn.walk

-- The turns are made one after another, and lead from old to new.
abbrev pub Run : {C : Type 0} {N : ℕ} → Truths C → LockState C N → List (Turn C) → LockState C N → Type 0
Run truths old [] new = new ≡ old
Run {C} {N} truths old (turn ∷ turns) new = (next : LockState C N) × (commits : List (Event C N)) × IsMade truths old turn next commits × Run truths next turns new

-- how many of their steps count
abbrev pub counted : {C : Type 0} → ℕ → List (Turn C) → ℕ
counted N turns = total (λ turn. one_if (counts N turn.walk turn.found)) turns

-- what the call pays that begins with the turn, if one does, and what all pay that begin in them
abbrev pub cost_at : {C : Type 0} → ℕ → Turn C → ℕ
cost_at N turn = if turn.begins then cost_of N turn.walk else 0

abbrev pub paid : {C : Type 0} → ℕ → List (Turn C) → ℕ
paid N turns = total (cost_at N) turns

-- no call begins
abbrev pub BeginsNone : {C : Type 0} → List (Turn C) → Type 0
BeginsNone turns = Every (λ turn. turn.begins ≡ false) turns

-- how many of the turns are a seat's
abbrev pub turns_of : {C : Type 0} → ℕ → List (Turn C) → ℕ
turns_of seat turns = total (λ turn. one_if (turn.seat == seat)) turns

-- Each seat that doesn't rest as the turns begin makes two of them at least, or its call is over when they end.
abbrev pub IsRound : {C : Type 0} {N : ℕ} → LockState C N → List (Turn C) → LockState C N → Type 0
IsRound {C} {N} old turns new = Every (λ view. (rests_at N old.word (old.flags view.seat) view.walk ≡ true) ⊎ (2 ≤ turns_of view.seat turns) ⊎ (walk_at view.seat new.views ≡ None)) old.views

-- The rounds are made one after another, and lead from old to new; no call begins in them.
abbrev pub Rounds : {C : Type 0} {N : ℕ} → Truths C → LockState C N → List (List (Turn C)) → LockState C N → Type 0
Rounds truths old [] new = new ≡ old
Rounds {C} {N} truths old (turns ∷ rounds) new = (next : LockState C N) × Run truths old turns next × BeginsNone turns × IsRound old turns next × Rounds truths next rounds new
