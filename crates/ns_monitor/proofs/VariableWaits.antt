-- A wait for condition variables: what it has at hand as it leaves its section.
use Rattle.std.proofs.Common.{List, refl, ℕ}
use Rattle.ns_monitor.proofs.Prelude.{HasRow, HasTakenAt, IsForVariables}
use Rattle.ns_monitor.proofs.Prelude.{OnCondition, OnVariables, SeatOf, Subject, Truths, Walk, Word, the}

-- one for variables has no need of a row at hand
pub needs_no_row : {C : Type 0} (on : Subject C) (row held : List ℕ) → IsForVariables on → HasRow on row held
needs_no_row (OnCondition c) row held variables = absurd variables
needs_no_row (OnVariables them) row held variables = tt

-- who has taken the queues has its section as it is
pub taken_now : {C : Type 0} {N : ℕ} (truths : Truths C) (walk : Walk C) (word : Word) (me now : SeatOf C N) → HasTakenAt truths walk word me now → HasTakenAt truths walk word now now
taken_now truths walk word me now took = record { at = took.at; taken = took.taken; packs = took.packs; held = refl; tells = took.tells; orderly = took.orderly }
