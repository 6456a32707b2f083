-- Where a call goes on: its seat may stand there; on the lock, at the beginning of a look or of a round where it is to look.
use Rattle.std.proofs.Common.{IsSome, None, Option, Some, ap, false, nat_lt, refl, slice_get, slice_set, subst, sym, ℕ, ◌∙◌, ◌≡◌}
use Rattle.ns_world.proofs.Prelude.{Act, AnyWait, AtRest, Doing, DoingFits, Fit, Found, Held, IfMade, Limits, Look, LookBy, Next, NoteStanding, ObjectStanding, Seat, Setup, Step, Steps, WaitsFor, Walk, WalkReply, Whole, asked_of, asked_stays, asking_of, doing_after, doing_at, doing_by, got_of}
use Rattle.ns_world.proofs.Prelude.{Advancing, ClockLoad, EnvFound, EnvWalk, ExpiryLoad, ForIsNotified, ForLook, ForNoteWait, GoesInCall, IsNoLook, NextLoad, NoteLoad, Notifying, env_asked_of, env_got_of, is_due, is_over, passed, standing_of, stopped, up_to}
use Rattle.ns_world.proofs.Prelude.{is_call, lock_of, look_in, looks_at, looks_by_asked, note_asked, operating_of, place_after, step_at, view_of, walk_of, want_of}
use Rattle.ns_world.proofs.SeatSet.{reads}
use Rattle.ns_world.proofs.Looking.{Acts, FirstIf}
use Rattle.ns_world.proofs.Mapped.{got-map}
use Rattle.ns_env.proofs.Ways.{either}
use Rattle.ns_env.specs.Prelude.{asked_by, chain_note, earlier, lowered_to}
use Rattle.ns_env.specs.declared.act.EnvFound.TheVariants.{Clock, NextNumber, Note, Stored, Taken}
use Rattle.ns_env.specs.declared.walk.Chain.{Chain}
use Rattle.ns_env.specs.declared.walk.EnvWalk.TheVariants.{MakeNote, TakeNumber}
use Rattle.ns_env.specs.declared.next.Next.TheVariants as TheNext

-- a seat may be doing this, and stands at a beginning on the clock and the notes and at a place that fits on the objects
pub record IsPlace {C : Type 0} {N : ℕ} (setup : Setup) (now : ObjectStanding) (notes : ℕ → NoteStanding) (seat : ℕ) (held : Option (Held C N)) (doing : Doing C) : Type 0 where
  pub fits : DoingFits setup notes held doing
  pub asks : FirstIf notes (asking_of doing)
  pub operates : Fit setup now notes seat (operating_of doing)

module _ {C : Type 0} where
  -- a seat that isn't busy stands in no call
  pub at_rest : (doing : Doing C) → is_call doing ≡ false → doing ≡ AtRest
  at_rest AtRest idle = refl
  at_rest doing idle = absurd (cc)

  pub walk_by : (look : Option LookBy) (wait : Option AnyWait) (walk : Walk C) → walk_of (doing_by look wait walk) ≡ Some walk
  walk_by None wait walk = refl
  walk_by (Some look) None walk = refl
  walk_by (Some look) (Some wait) walk = refl

  pub walk_then : (wait : Option AnyWait) (n : Next (Walk C) WalkReply) → walk_of (doing_after wait n) ≡ place_after n
  walk_then wait (TheNext.On walk) = walk_by (look_in (want_of walk)) wait walk
  walk_then wait (TheNext.Idle walk) = walk_by (look_in (want_of walk)) wait walk
  walk_then wait (TheNext.Done reply) = refl

module _ {C : Type 0} {N : ℕ} (setup : Setup) (now : ObjectStanding) (notes : ℕ → NoteStanding) (seat : ℕ) (held : Option (Held C N)) where
  place_at : (wait : Option AnyWait) (walk : Walk C) → WaitsFor setup notes (asked_of walk) wait → IsPlace setup now notes seat held (doing_at wait walk)
  place_at wait walk p = by (want_of walk) refl wait p where
    by : (act : Act C) → want_of walk ≡ act → (wait : Option AnyWait) → WaitsFor setup notes (asked_of walk) wait → IsPlace setup now notes seat held (doing_by (look_in act) wait walk)
    by (Look limits again) e None p =
        let looks = looks_by_asked limits again walk e in
        record { fits = (p, (limits, ap looks_at e, refl)); asks = subst (λ (l : Limits). IfMade notes l.note) looks.2 (subst (λ asked. IfMade notes (note_asked asked)) looks.1 p.1); operates = tt }
    by (Look limits again) e (Some wait) p = record { fits = (p, refl, subst IsSome (sym (ap looks_at e)) refl); asks = tt; operates = (p.there, tt) }
    by act e wait p = record { fits = (p, ap looks_at e); asks = tt; operates = tt }

  pub placed_after : (wait : Option AnyWait) (walk : Walk C) (found : Found) → WaitsFor setup notes (asked_of walk) wait → IsPlace setup now notes seat held (doing_after wait (got_of N walk found))
  placed_after wait walk found p = by (got_of N walk found) refl where
    on : (next : Walk C) → place_after (got_of N walk found) ≡ Some next → IsPlace setup now notes seat held (doing_at wait next)
    on next is = place_at wait next (subst (λ asked. WaitsFor setup notes asked wait) (sym (asked_stays C N walk found next is)) p)

    by : (n : Next (Walk C) WalkReply) → got_of N walk found ≡ n → IsPlace setup now notes seat held (doing_after wait n)
    by (TheNext.On next) is = on next (ap place_after is)
    by (TheNext.Idle next) is = on next (ap place_after is)
    by (TheNext.Done reply) is = record { fits = tt; asks = tt; operates = tt }

-- ---- a call on the clock and the notes

passed_in_call : (chain : Chain) (clock : ℕ) → IsNoLook (asked_by chain) → GoesInCall (passed chain clock)
passed_in_call (ForLook limits) clock call = absurd call
passed_in_call (ForIsNotified note) clock call = tt
passed_in_call (ForNoteWait note deadline) clock call = either GoesInCall (is_due clock deadline) tt tt

up_in_call : (chain : Chain) (clock : ℕ) (note : Option ℕ) → IsNoLook (asked_by chain) → GoesInCall (up_to chain clock note)
up_in_call chain clock None call = passed_in_call chain clock call
up_in_call chain clock (Some note) call = call

stopped_in_call : (chain : Chain) → IsNoLook (asked_by chain) → GoesInCall (stopped chain)
stopped_in_call (ForLook limits) call = absurd call
stopped_in_call (ForIsNotified note) call = tt
stopped_in_call (ForNoteWait note deadline) call = tt

lowered_in_call : (asked : ℕ) (note least : Option ℕ) → GoesInCall (lowered_to asked note least)
lowered_in_call asked None least = tt
lowered_in_call asked (Some note) least = tt

-- it goes on at a place of a call, or is over
pub goes_in_call : (walk : EnvWalk) (found : EnvFound) → IsNoLook (env_asked_of walk) → GoesInCall (env_got_of walk found)
goes_in_call (NextLoad parent deadline) (NextNumber next) call = either GoesInCall (nat_lt next 64) tt tt
goes_in_call (TakeNumber parent deadline) (Taken number) call = either GoesInCall (nat_lt number 64) tt tt
goes_in_call (MakeNote note parent deadline) Stored call = tt
goes_in_call (Notifying note) Stored call = tt
goes_in_call (Advancing moment) Stored call = tt
goes_in_call (ClockLoad chain) (Clock clock) call = up_in_call chain clock (chain_note chain) call
goes_in_call (NoteLoad chain clock at) (Note note) call = either GoesInCall (is_over clock (standing_of note)) (stopped_in_call chain call) (up_in_call chain clock note.parent call)
goes_in_call (ExpiryLoad asked at least) (Note note) call = lowered_in_call asked note.parent (earlier least note.deadline)
goes_in_call walk found call = call

-- ---- the machine's step

-- a step of the seat on the lock, as the machine has it
abbrev pub act_steps : {C : Type 0} {N : ℕ} (old new : Whole C N) (i : ℕ) (here next : Seat C N) (step : Step) (walk : Walk C) (wait : Option AnyWait) (found : Found) → slice_get old.seats i ≡ Some here → new.seats ≡ slice_set old.seats i next → walk_of here.doing ≡ Some walk →
    (p : Acts old new here next step walk wait found) → Steps old.truths (lock_of old) (view_of here) found (lock_of new) p.commits
act_steps {C} {N} old new i here next step walk wait found at seats walks p =
    step_at old.truths (lock_of old) i (view_of here) (got-map view_of old.seats i here at) walk found (lock_of new) next.held next.owed.items p.commits walks
    (reads old new i here next at seats view_of (λ k. record { seat = (p.goes k).number; walk = (ap (λ (s : Seat C N). walk_of s.doing) p.goes ∙ walk_then wait (got_of N walk found)) k; held = next.held; owed = next.owed.items })) p.effect
