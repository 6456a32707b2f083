-- When nothing is left to a seat but to look again, and why a call is then in progress still.
use Rattle.std.specs.Prelude.{Bool, IsSome, List, None, Option, Some, [], false, true, ℕ, ◌&&◌, ◌≡◌, ◌≢◌, ◌⊎◌}
use Rattle.ns_word.specs.Names.{Act, Event, Every, Found, Idle, InWait, LoadFlag, LoadWord, Look, LookOut, Looked, Next, Reply, Saw, SeatView, Truths, Wait, Walk, Word, standing_after}
use Rattle.ns_word.specs.Lawful.{NobodyCouldGoOn, is_armed}
use Rattle.ns_word.specs.Lists.{HasOne, counts_in}
use Rattle.ns_word.specs.Steps.{LockState}
use Rattle.ns_word.specs.Views.{owed_in}
use Rattle.ns_word.specs.Walks.{awaits, got_of, want_of}
use Rattle.ns_word.specs.Words.{is_held}

-- the call is to repeat from a place, since its step found nothing to go on with
abbrev pub is_idle : {C : Type 0} → Next (Walk C) Reply → Bool
is_idle (Idle next) = true
is_idle next = false

-- Whether a place that wants this act is to look again, where this is the lock word and this its seat's own flag: it loads the word and finds the queues with another; or it waits with its flag set, and loads that, or looks, whatever it will be shown.
abbrev pub rests_by : {C : Type 0} → ℕ → Word → ℕ → Walk C → Act C → Bool
rests_by N word flag walk LoadWord = is_idle (got_of N walk (Saw word))
rests_by N word flag walk LoadFlag = is_armed flag
rests_by N word flag walk (Look limits again) = is_armed flag && is_idle (got_of N walk (Looked None))
rests_by N word flag walk act = false

-- whether nothing is left to a seat but to look again: it has no call in progress, or one at such a place
abbrev pub rests_at : {C : Type 0} → ℕ → Word → ℕ → Option (Walk C) → Bool
rests_at N word flag None = true
rests_at N word flag (Some walk) = rests_by N word flag walk (want_of walk)

-- A look of a wait that stands in its list, or was taken from it, shows nothing, and the flag that the wait loads next is clear.
pub record IsIdleLook {C : Type 0} (walk : Walk C) (found : Found) (flag : ℕ) : Type 0 where
  pub wait : Wait C
  pub place : walk ≡ InWait wait LookOut
  pub nothing : found ≡ Looked None
  pub clear : flag ≢ 1

-- Nothing is left to any seat but to look again.
abbrev pub AllRest : {C : Type 0} {N : ℕ} → LockState C N → Type 0
AllRest {C} {N} s = Every (λ view. rests_at N s.word (s.flags view.seat) view.walk ≡ true) s.views

-- The call in progress waits in a list: in the lock's once, or in those of its variables, with its flag set, and no section in hand.
pub record WaitsInList {C : Type 0} {N : ℕ} (s : LockState C N) (view : SeatView C N) : Type 0 where
  pub waits : awaits view.walk ≡ true
  pub armed : s.flags view.seat ≡ 1
  pub listed : counts_in view.seat s.lists ≡ 1
  pub empty : view.held ≡ None

-- Why calls are in progress. Nobody has the queues, nobody is designated, and no wake is owed: each such call waits in a list. With the lock held, a seat between its calls holds it; with the lock free, nobody in the lock list could go on at the row.
pub record HasReason {C : Type 0} {N : ℕ} (truths : Truths C) (history : List (Event C N)) (s : LockState C N) : Type 0 where
  pub untaken : s.word.spin ≡ false
  pub undesignated : s.word.desig ≡ false
  pub paid : owed_in s.views ≡ []
  pub waits : Every (λ view. (view.walk ≡ None) ⊎ WaitsInList s view) s.views
  pub held : is_held s.word ≡ true → HasOne (λ view. (view.walk ≡ None) × IsSome view.held) s.views
  pub free : is_held s.word ≡ false → NobodyCouldGoOn truths.holds (standing_after history).row s.lists.lock s.views
