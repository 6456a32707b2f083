-- What a test knows of a seat that it drives by walks as values, over a row of one cell.
use Rattle.std.specs.Prelude.{Bool, List, None, Option, Some, [], false, if◌then◌else◌, not, true, ℕ, ◌&&◌, ◌<◌, ◌∷◌, ◌≡◌}
use Rattle.ns_gate.specs.declared.perform.Beside.{Beside}
use Rattle.ns_gate.specs.Prelude.{Acquire, Act, Cause, Cell, Found, GateView, HasTurned, HasUnchangedQueues, Held, IsAtPlace, IsAtRest, IsNumbered, LoadCell, Made, Owed, PayWake, Release, ReleaseReturning, ReturnQueues, Saw, SeatOf, StoreCell, TakeQueues, Truths, WaitReturning, Walk, has_queues, act_returning, called_of, found_back, meets_at, mode_for, owed_after, row_in, the, times, woken_of, Needs, Word}
use Rattle.ns_gate.specs.declared.queues.Returning.{Returning}
use Rattle.ns_word.specs.Walks.{has_armed}
use Rattle.ns_walk_tests.specs.declared.known.Hand.{Hand}
use Rattle.ns_walk_tests.specs.declared.known.Known.{Known}
use Rattle.ns_walk_tests.specs.declared.known.Rows.TheVariants.{Are, Unknown, Unread}
use Rattle.ns_walk_tests.specs.declared.known.Rows.{Rows}
use Rattle.ns_walk_tests.specs.declared.known.Section.{Section}

-- this is known of a section's rows; before its cell is read, it is known that none was stored
abbrev pub RowsAre : {C : Type 0} → Rows → Held C 1 → Type 0
RowsAre Unread held = held.before ≡ held.row
RowsAre (Are before row) held = (held.before ≡ before ∷ []) × (held.row ≡ row ∷ [])
RowsAre Unknown held = Unit {0}

-- this is known of the section in hand
abbrev pub Knows : {C : Type 0} → Option Section → Option (Held C 1) → Type 0
Knows None None = Unit {0}
Knows None (Some held) = ⊥
Knows (Some section) None = ⊥
Knows (Some section) (Some held) = (held.mode ≡ section.mode) × RowsAre section.rows held

-- the wakes that a seat owes which owes one at most
abbrev pub at_most_one : Option Owed → List Owed
at_most_one None = []
at_most_one (Some wake) = wake ∷ []

-- the seat stands at this place of its call, or is between its calls
abbrev pub Stands : {C : Type 0} → Truths C → Option (Walk C) → SeatOf C 1 → Type 0
Stands truths None me = IsAtRest truths me
Stands truths (Some walk) me = IsAtPlace truths walk me

-- A driven seat stands there, and its test knows its number, its section, and the wake that it owes. With the queues it has them in hand as they stood; and once it has armed its flag it stands in none of them.
pub record IsDriven {C : Type 0} (truths : Truths C) (at : Option (Walk C)) (known : Known) (me : SeatOf C 1) : Type 0 where
  pub stands : Stands truths at me
  pub number : (known.number ≡ (the me.0).at.seat) × (known.number < 64)
  pub knows : Knows known.section (the me.0).at.held
  pub owes : (the me.0).at.owed ≡ at_most_one known.owed
  pub hand : has_queues at ≡ true → HasUnchangedQueues me
  pub nowhere : has_armed at ≡ true → times (the me.0).at.seat (the me.0).stood ≡ 0

-- what is known of the rows once the cell was loaded
abbrev pub loaded : Found → Rows → Rows
loaded (Cell v) Unread = Are v v
loaded found rows = rows

-- what is known of them once this was stored there
abbrev pub stored : ℕ → Rows → Rows
stored v (Are before row) = Are before v
stored v rows = Unknown

-- the exchange was made
abbrev pub is_made : Found → Bool
is_made Made = true
is_made found = false

-- another word was found than the one last seen
abbrev pub is_saw : Found → Bool
is_saw (Saw word) = true
is_saw found = false

-- what is known of the section behind an act that found this; the queues were put back if that was it
abbrev pub section_after : {C : Type 0} → Act C → Found → Option Section → Option Section
section_after (Acquire aim arrival last) found section = if is_made found then Some (record { mode = mode_for aim; rows = Unread }) else section
section_after (Release releasing last) found section = if is_made found then None else section
section_after (ReleaseReturning releasing last) found section = if is_saw found then section else None
section_after (WaitReturning wait again last) found section = if is_saw found then section else None
section_after (LoadCell i) found None = None
section_after (LoadCell i) found (Some section) = Some (record { mode = section.mode; rows = loaded found section.rows })
section_after (StoreCell i v) found None = None
section_after (StoreCell i v) found (Some section) = Some (record { mode = section.mode; rows = stored v section.rows })
section_after act found section = section

-- the act puts the queues back
abbrev pub is_returning : {C : Type 0} → Act C → Bool
is_returning (ReturnQueues change last) = true
is_returning (ReleaseReturning releasing last) = true
is_returning (WaitReturning wait again last) = true
is_returning act = false

-- the act takes the queues
abbrev pub is_taking : {C : Type 0} → Act C → Bool
is_taking (TakeQueues taking last) = true
is_taking act = false

-- The step goes between places that have the queues and that have none as its act does: one that takes them, where it was made; one that puts them back was made; any other leaves them.
abbrev pub goes_between : {C : Type 0} → Act C → Found → Bool → Bool → Bool
goes_between act found had has =
    if is_taking act then not had && (if is_made found then has else not has)
    else (if is_returning act then had && (not has && not (is_saw found)) else (if had then has else not has))

-- the wakes behind the first
abbrev pub behind_first : List Owed → List Owed
behind_first [] = []
behind_first (wake ∷ others) = others

-- the wakes that the seat owes once it has made the act
abbrev pub owed_by : {C : Type 0} → Truths C → Act C → GateView C 1 → List Owed
owed_by truths (ReturnQueues change last) view = owed_after change last view.stood view.at.owed
owed_by truths (ReleaseReturning releasing last) view = called_of (woken_of (meets_at truths (row_in view.at.held)) view.stood.lock)
owed_by truths (WaitReturning wait again last) view = called_of (woken_of (meets_at truths (row_in view.at.held)) view.stood.lock)
owed_by truths PayWake view = behind_first view.at.owed
owed_by truths act view = view.at.owed

-- A seat of a call in progress may make the act with what is told beside it, which has its number, and owes this wake then at most. Where the act puts the queues back, what they become has been made of them in hand; any other act finds the seat as it was.
pub record IsPrepared {C : Type 0} (truths : Truths C) (act : Act C) (beside : Beside 1) (owed : Option Owed) (old me : SeatOf C 1) : Type 0 where
  pub same : me.0 ≡ old.0
  pub number : IsNumbered beside (the me.0)
  pub needs : Needs truths None act beside me
  pub owes : owed_by truths act (the me.0) ≡ at_most_one owed
  pub kept : is_returning act ≡ false → me.1 ≡ old.1

-- the wake that is owed behind an act that puts no queues back, where this one was owed
abbrev pub owed_behind : {C : Type 0} → Act C → Option Owed → Option Owed
owed_behind PayWake owed = None
owed_behind act owed = owed

-- The queues in hand are as they are put back for this, and a test knows what the hand has made of them, what is found once they are back, and the one wake that is owed then.
pub record IsMade {C : Type 0} (truths : Truths C) (returning : Returning C) (last : Word) (made : Hand) (me : SeatOf C 1) : Type 0 where
  pub turned : HasTurned truths returning last made.turned me
  pub finds : made.finds ≡ found_back truths returning last me
  pub owes : owed_by truths (act_returning returning last) (the me.0) ≡ at_most_one made.owed

-- what is known of a new seat of this number, whose looks are to show this
abbrev pub new_known : ℕ → Option Cause → Known
new_known number shown = record { number = number; section = None; owed = None; shown = shown }
