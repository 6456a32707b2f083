-- The clock and the notes of a world, and one step on them.
use Rattle.std.specs.Prelude.{List, Option, get_or, ℕ, ◌≡◌}
use Rattle.ns_world.specs.Names.{EnvEffect, EnvEnd, EnvFound, EnvPlain, EnvRequest, EnvState, EnvWalk, Environment, Finished, Idle, LookOver, Next, NextIs, NoteStanding, NoteWord, On, OnNotes, Over, Seat, Step, Went, env_asked_of, env_got_of, env_want_of, no_note, outcome, place_after, standing_of, state_of}
use Rattle.ns_world.specs.Doings.{there}
use Rattle.ns_world.specs.Replies.{env_told}
use Rattle.ns_env.specs.declared.next.Next.TheVariants as TheNext
use Rattle.ns_env.specs.declared.request.EnvRequest.TheVariants as TheEnvRequest

-- the notes of a list
abbrev pub note_at : List NoteWord → ℕ → NoteStanding
note_at notes note = standing_of (get_or notes note (state_of no_note))

-- a world's clock and notes as the machine sees them
abbrev pub plain_of : Environment → EnvPlain
plain_of env = record { clock = env.clock; next = env.next; notes = note_at env.notes }

-- the clock and the notes, with each seat's place in a call on them
abbrev pub env_state : EnvPlain → List (Option EnvWalk) → EnvState
env_state plain askings = record { plain = plain; askings = askings }

-- what was asked is no look, which a wait on the lock makes
abbrev pub IsNoLook : EnvRequest → Type 0
IsNoLook (TheEnvRequest.Look limits) = ⊥
IsNoLook request = Unit {0}

-- it is the end of a call, and not of a look
abbrev pub EndsCall : EnvEnd → Type 0
EndsCall (Over reply) = Unit {0}
EndsCall (LookOver cause) = ⊥

-- a call on them goes on at a place of a call, or it is over
abbrev pub GoesInCall : Next EnvWalk EnvEnd → Type 0
GoesInCall = NextIs (λ walk. IsNoLook (env_asked_of walk)) EndsCall

-- what a step of a call on them was, by where it leads
abbrev pub EnvSays : Next EnvWalk EnvEnd → Step → Type 0
EnvSays (On walk) step = step ≡ Went
EnvSays (TheNext.Idle walk) step = step ≡ Idle
EnvSays (TheNext.Done (Over reply)) step = step ≡ Finished (env_told reply)
EnvSays (TheNext.Done (LookOver cause)) step = ⊥

-- the step of the call was made, and the seat is where it leads
pub record Asked {C : Type 0} {N : ℕ} (old new : EnvPlain) (seat : Seat C N) (walk : EnvWalk) (seat' : Seat C N) (step : Step) : Type 0 where
  pub found : EnvFound
  pub effect : EnvEffect seat.number (env_want_of walk) old found new (outcome seat.number (env_want_of walk) old).events
  pub goes : seat' ≡ record seat { doing = there OnNotes (place_after (env_got_of walk found)) }
  pub answers : EnvSays (env_got_of walk found) step
