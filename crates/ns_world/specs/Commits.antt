-- Which acts commit an event.
use Rattle.std.specs.Prelude.{false, true, ℕ, ◌≡◌}
use Rattle.ns_world.specs.Names.{Acquire, Act, AtVariables, Change, LeaveSelf, Lists, Release, ReleaseReturning, ReturnQueues, TakeQueues, WaitReturning, WakeWaiters, Word, stands_at}

-- the change of the lists by this seat is an event: a signal, a broadcast, or that a wait for variables is left in some list of which the seat still stands
abbrev pub IsEvent : {C : Type 0} → ℕ → Change → Lists C → Type 0
IsEvent seat (LeaveSelf (AtVariables variables)) lists = stands_at seat (AtVariables variables) lists ≡ true
IsEvent seat (WakeWaiters waking k) lists = Unit {0}
IsEvent seat change lists = ⊥

-- the act by this seat commits an event where it finds this word and these lists
abbrev pub Commits : {C : Type 0} → ℕ → Act C → Word → Lists C → Type 0
Commits seat (ReturnQueues change last) word lists = IsEvent seat change lists × (last ≡ word)
Commits seat (Release releasing last) word lists = last ≡ word
Commits seat (ReleaseReturning releasing last) word lists = last ≡ word
Commits seat (WaitReturning wait again last) word lists = (again ≡ false) × (last ≡ word)
Commits seat act word lists = ⊥

-- the word that the act needs to find, where this is the lock's: a compare-exchange the one that its seat has last seen, any other act none in particular
abbrev pub expected : {C : Type 0} → Act C → Word → Word
expected (Acquire aim arrival last) word = last
expected (TakeQueues taking last) word = last
expected (ReturnQueues change last) word = last
expected (Release releasing last) word = last
expected (ReleaseReturning releasing last) word = last
expected (WaitReturning wait again last) word = last
expected act word = word
