-- The counters and once cells of a world, and one step of a seat in a call on them, or in the round by which a wait looks.
use Rattle.std.specs.Prelude.{List, None, Option, Some, ℕ, ◌≡◌}
use Rattle.ns_world.specs.Names.{EnvPlain, Finished, Next, ObjectEffect, ObjectEvent, ObjectFound, ObjectReply, ObjectWalk, ObjectWords, OnObjects, Round, Seat, Step, first_words, object_got, object_place, object_want, padded, place_after, setup_of}
use Rattle.ns_world.specs.Among.{BeginsToWait}
use Rattle.ns_world.specs.Doings.{there}
use Rattle.ns_world.specs.Replies.{object_told, step_after}

-- a counter for each of the values, and so many once cells, for so many seats
abbrev pub fresh_words : ℕ → List ℕ → ℕ → ObjectWords
fresh_words seats counters cells = record { setup = setup_of seats counters cells; words = first_words (padded counters) }

-- what a step was, by where it leads
abbrev pub object_step_of : Next ObjectWalk ObjectReply → Step
object_step_of = step_after (λ reply. Finished (object_told reply))

-- the seat's step was made that the walk wants, and it leads there
pub record Operates (env : EnvPlain) (old : ObjectWords) (seat : ℕ) (walk : ObjectWalk) (new : ObjectWords) (next : Next ObjectWalk ObjectReply) : Type 0 where
  pub found : ObjectFound
  pub events : List ObjectEvent
  pub effect : ObjectEffect seat (object_place (Some walk)) (object_want walk) old.words env found new.words events
  pub becomes : new ≡ record old { words = new.words }
  pub leads : next ≡ object_got walk found

-- where it leads the seat: to a wait on the lock, or where the walk goes
abbrev pub ObjectLeads : {C : Type 0} {N : ℕ} → Option Round → Next ObjectWalk ObjectReply → Seat C N → Seat C N → Step → Type 0
ObjectLeads (Some round) next seat seat' step = BeginsToWait seat round seat' step
ObjectLeads None next seat seat' step = (seat' ≡ record seat { doing = there OnObjects (place_after next) }) × (step ≡ object_step_of next)
