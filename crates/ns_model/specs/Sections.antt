-- Which sections are legal.
use Rattle.std.specs.Prelude.{◌≡◌, ℕ, Bool, true, false, List, None, Some}
use Rattle.ns_model.specs.Cvs.{is_just}
use Rattle.ns_model.specs.declared.cvs.Variables.TheVariants.{Only, Any}
use Rattle.ns_model.specs.declared.event.Mode.{Mode}
use Rattle.ns_model.specs.declared.event.Mode.TheVariants.{Write, Read}
use Rattle.ns_model.specs.declared.event.Answer.{Answer}
use Rattle.ns_model.specs.declared.event.Answer.TheVariants.{Met, TimedOut, Canceled}
use Rattle.ns_model.specs.declared.event.Entry.{Entry}
use Rattle.ns_model.specs.declared.event.Entry.TheVariants.{Plain, Waited, AfterCv, AfterAny}
use Rattle.ns_model.specs.declared.event.Exit.{Exit}
use Rattle.ns_model.specs.declared.event.Exit.TheVariants.{CondWait, CvWait, AnyWait}
use Rattle.ns_model.specs.declared.event.Exit.TheVariants as TheExit
use Rattle.ns_model.specs.declared.phase.Phase.{Phase}
use Rattle.ns_model.specs.declared.phase.Phase.TheVariants.{Idle, Cond, Waiting, Woken, Left}

-- Below, `holds` tells where a condition is true.

-- whether the answer says that the wait was met
abbrev pub is_met : Answer → Bool
is_met Met = true
is_met TimedOut = false
is_met Canceled = false

-- The entry of a section in this mode, which begins at this row, fits the phase of its caller: a return from a wait fits the wait, in its mode, and answers Met exactly where the condition holds.
abbrev pub EntryFits : {C : Type 0} → (C → List ℕ → Bool) → List ℕ → Mode → Entry C → Phase C → Type 0
EntryFits holds before mode Plain Idle = Unit {0}
EntryFits holds before mode (Waited c answer) (Cond d m) = (m ≡ mode) × (holds c before ≡ is_met answer) × (holds d before ≡ is_met answer)
EntryFits holds before mode (AfterCv k answer) (Woken j m) = (m ≡ mode) × (j ≡ k) × (is_met answer ≡ true)
EntryFits holds before mode (AfterCv k answer) (Left variables m) = (m ≡ mode) × (is_just variables k ≡ true) × (is_met answer ≡ false)
EntryFits holds before mode (AfterAny (Some k)) (Woken j m) = (m ≡ mode) × (j ≡ k)
EntryFits holds before mode (AfterAny None) (Left variables m) = m ≡ mode
EntryFits holds before mode _ _ = ⊥

-- a wait for a condition begins where it is false
abbrev pub ExitFits : {C : Type 0} → (C → List ℕ → Bool) → List ℕ → Exit C → Type 0
ExitFits holds after TheExit.Plain = Unit {0}
ExitFits holds after (CondWait c) = holds c after ≡ false
ExitFits holds after (CvWait k) = Unit {0}
ExitFits holds after (AnyWait cvs) = Unit {0}

-- a reader changes nothing
abbrev pub ModeFits : Mode → List ℕ → List ℕ → Type 0
ModeFits Write before after = Unit {0}
ModeFits Read before after = after ≡ before

-- a section where the row is `row`, and the phase of its caller this
pub record IsLegalSection {C : Type 0} (holds : C → List ℕ → Bool) (row : List ℕ) (phase : Phase C) (mode : Mode) (entry : Entry C) (before after : List ℕ) (exit : Exit C) : Type 0 where
  pub starts : before ≡ row
  pub keeps : ModeFits mode before after
  pub enters : EntryFits holds before mode entry phase
  pub leaves : ExitFits holds after exit

-- the phase that the section leaves its caller in
abbrev pub phase_after : {C : Type 0} → Mode → Exit C → Phase C
phase_after mode TheExit.Plain = Idle
phase_after mode (CondWait c) = Cond c mode
phase_after mode (CvWait k) = Waiting (Only k) mode
phase_after mode (AnyWait cvs) = Waiting (Any cvs) mode
