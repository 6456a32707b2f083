-- What the calls that look at a note or a deadline answer, of the history that the seat had seen and the one that it has.
use Rattle.std.specs.Prelude.{ℕ, Bool, List, Option, None, Some, option_map}
use Rattle.ns_note.specs.Names.{Answer, AtSomePoint, Canceled, EnvEvent, Expired, HasLooked, HasWaited, Limits, Met, Notified, TimedOut}
use Rattle.ns_note.specs.declared.note.Note.{Note}

-- what a look goes by that is given this note and this deadline
abbrev pub limits_by : Option Note → Option ℕ → Limits
limits_by given deadline = record { deadline = deadline; note = option_map (λ n. n.index) given }

-- What a look at a note and a deadline may answer: what it has found. A note that is notified comes before a deadline that has passed, and a look never meets a condition.
abbrev pub LookAnswers : Option Note → Option ℕ → List EnvEvent → List EnvEvent → Option Answer → Type 0
LookAnswers given deadline old new (Some Met) = ⊥
LookAnswers given deadline old new (Some Canceled) = HasLooked (limits_by given deadline) (Some Notified) old new
LookAnswers given deadline old new (Some TimedOut) = HasLooked (limits_by given deadline) (Some Expired) old new
LookAnswers given deadline old new None = HasLooked (limits_by given deadline) None old new

-- what a wait for a note answers, at some point: whether it is notified, and if not, that the deadline had passed
abbrev pub WaitAnswers : Note → Option ℕ → List EnvEvent → List EnvEvent → Bool → Type 0
WaitAnswers note deadline old new answer = AtSomePoint old new (HasWaited note.index deadline answer)
