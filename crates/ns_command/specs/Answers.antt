-- What holds by what the words came to: an end, or live threads that are asked for.
use Rattle.std.specs.Prelude.{ℕ}
use Rattle.ns_command.specs.declared.ending.Ending.{Ending}
use Rattle.ns_command.specs.declared.answer.Answer.{Answer}
use Rattle.ns_command.specs.declared.answer.Answer.TheVariants.{Ended, LiveAsked}

-- The one of an end, where there is one, and else the other of so many items.
abbrev pub ByAnswer : Answer → (Ending → Type 0) → (ℕ → Type 0) → Type 0
ByAnswer (Ended ending) ended asked = ended ending
ByAnswer (LiveAsked items) ended asked = asked items
