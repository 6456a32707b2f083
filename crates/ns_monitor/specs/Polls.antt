-- What came of asking whether a wait was woken.
use Rattle.std.specs.Prelude.{ℕ}
use Rattle.ns_monitor.specs.Names.{AnyPoll, Still}
use Rattle.ns_monitor.specs.declared.several.AnyPoll.TheVariants.{Woken}

-- where it was woken, this holds of the section and of the variable
abbrev pub IfWoken : {S W : Type 0} → AnyPoll S W → (S → ℕ → Type 0) → Type 0
IfWoken (Woken back k) P = P back k
IfWoken (Still wait) P = Unit {0}

-- where it waits still, this holds of the wait
abbrev pub IfStill : {S W : Type 0} → AnyPoll S W → (W → Type 0) → Type 0
IfStill (Woken back k) P = Unit {0}
IfStill (Still wait) P = P wait
