-- The looks of a wait at its note and its deadline.
use Rattle.std.proofs.Common.{List, Option, Some, option_map, subst, sym, ℕ, ◌≡◌}
use Rattle.ns_monitor.proofs.Prelude.{Answer, Canceled, EndedBy, EnvEvent, EnvKnown, HasLooked, HasLookedOn, IfAnswered, LookShows, Met, Note, TimedOut, limits_by, made_grows}
use Rattle.ns_note.specs.Known.{Grows}

-- A seat that has looked
pub has_looked : (old new : EnvKnown) → Grows old new → new.mine ≡ old.mine → HasLookedOn old new
has_looked old new grows mine = record { env = grows.env; seat_count = grows.seat_count; seat = grows.seat; begins = grows.begins; mine = mine; makes = λ note. made_grows old new note grows }

-- what ended a wait is what its look has shown, by its answer
pub ended_by : (given : Option Note) (deadline number : Option ℕ) (old new : EnvKnown) (seen : List EnvEvent) (answer : Answer) → seen ≡ new.seen → number ≡ option_map (λ n. n.index) given →
    IfAnswered answer (λ cause. LookShows (record { deadline = deadline; note = number }) old new (Some cause)) → EndedBy given deadline old.seen seen answer
ended_by given deadline number old new seen answer same is shows = by answer (subst (λ (x : List EnvEvent × Option ℕ). IfAnswered answer (λ cause. HasLooked (record { deadline = deadline; note = x.1 }) (Some cause) old.seen x.0)) (λ i. (sym same i, is i)) shows) where
  by : (answer : Answer) → IfAnswered answer (λ cause. HasLooked (limits_by given deadline) (Some cause) old.seen seen) → EndedBy given deadline old.seen seen answer
  by Met shows = tt
  by TimedOut shows = shows
  by Canceled shows = shows
