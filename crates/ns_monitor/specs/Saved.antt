-- What a write section keeps of the row that it began at.
use Rattle.std.specs.Prelude.{List, None, Option, Some, if◌then◌else◌, is_none, length, slice_index, slice_index_or, slice_set, true, ℕ, ◌<◌, ◌≡◌}
use Rattle.ns_monitor.specs.Names.{Held, InHand, Mode, QuietWriter, Releasing, Truths}

-- a cell's value as the section began: the one saved, or the one there is where none was
abbrev pub value_before : Option ℕ → ℕ → ℕ
value_before None now = now
value_before (Some value) now = value

-- of each of N cells the value as the section began is saved, or is still there
pub record AreSaved (N : ℕ) (saved : List (Option ℕ)) (before row : List ℕ) : Type 0 where
  pub width : length saved ≡ N
  pub cells : (i : ℕ) → i < N → value_before (slice_index_or saved i None) (slice_index row i) ≡ slice_index before i

-- the same of the section in hand
abbrev pub HasSaved : {C : Type 0} {N : ℕ} → List (Option ℕ) → Option (Held C N) → Type 0
HasSaved saved None = ⊥
HasSaved {C} {N} saved (Some section) = AreSaved N saved section.before section.row

-- what is saved once a cell that held this value is set
abbrev pub saved_after : ℕ → ℕ → List (Option ℕ) → List (Option ℕ)
saved_after i old saved = if is_none (slice_index_or saved i None) then slice_set saved i (Some old) else saved

-- a section in this mode that has just begun, over a row of N cells: nothing has changed in it
pub record IsFresh {C : Type 0} {N : ℕ} (cells : ℕ) (mode : Mode) (held : Held C N) : Type 0 where
  pub mode_is : held.mode ≡ mode
  pub width : length held.before ≡ cells
  pub row_is : held.row ≡ held.before

-- such a section is in hand
abbrev pub IsFreshIn : {C : Type 0} {N : ℕ} → ℕ → Mode → Option (Held C N) → Type 0
IsFreshIn N mode None = ⊥
IsFreshIn N mode (Some held) = IsFresh N mode held

-- a section that is released as a quiet one has changed nothing that would make a false condition true
abbrev pub IsQuietFor : {C : Type 0} {N : ℕ} → Truths C → Releasing → Option (Held C N) → Type 0
IsQuietFor truths QuietWriter held = InHand held (λ section. truths.quiet section.before section.row ≡ true)
IsQuietFor truths releasing held = Unit {0}
