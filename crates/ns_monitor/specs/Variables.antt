-- What a wait for a condition variable tells once it is over, and what a signal or a broadcast does, as its caller sees it.
use Rattle.std.specs.Prelude.{[], ℕ, ◌++◌, ◌∷◌, ◌≡◌}
use Rattle.ns_monitor.specs.Names.{AfterCv, Answer, Broadcast, Broadcasting, CvWait, Event, Held, InHand, IsBack, Seats, Signal, Signaling, Truths, Waking, entry_of, is_met, leave_told, row_after, section_of}
use Rattle.ns_monitor.specs.Known.{Known}

-- The section that was in hand was committed, with the wait for the variable as its exit, and behind it, unless the answer says that the caller was woken, that it left the variable; nothing else. A
-- section in the same mode is in hand, at the row after all that the caller has seen, with nothing changed in it, which says just this answer of the wait.
pub record HasComeBackFrom {C : Type 0} {N : ℕ} (truths : Truths C) (k : ℕ) (answer : Answer) (was back : Held C N) (old new : Known C N) : Type 0 where
  pub mine : new.mine ≡ old.mine ++ section_of truths.holds old.seat was (CvWait k) ∷ leave_told old.seat k (is_met answer)
  pub begins : IsBack (row_after new.seen) was.mode back
  pub entry : entry_of truths.holds back.before back.entry ≡ AfterCv k answer

-- the same of the sections in hand before and after
abbrev pub HasWaitedForVariable : {C : Type 0} {N : ℕ} → Truths C → ℕ → Answer → Known C N → Known C N → Type 0
HasWaitedForVariable truths k answer old new = InHand old.held (λ was. InHand new.held (λ back. HasComeBackFrom truths k answer was back old new))

-- ---- signals and broadcasts

-- the event that a signal or a broadcast of a variable by this seat is, which woke these
abbrev pub wake_event : {C : Type 0} {N : ℕ} → Waking → ℕ → ℕ → Seats → Event C N
wake_event Signaling seat k woken = Signal seat k woken
wake_event Broadcasting seat k woken = Broadcast seat k woken

-- One signal, or one broadcast, of the variable stands behind the caller's own events, and nothing else; its section is as it was. That it names just whom the rule wakes of those who wait, the history's legality says.
pub record HasWoken {C : Type 0} {N : ℕ} (waking : Waking) (k : ℕ) (old new : Known C N) : Type 0 where
  pub woken : Seats
  pub mine : new.mine ≡ old.mine ++ wake_event waking old.seat k woken ∷ []
  pub held : new.held ≡ old.held
