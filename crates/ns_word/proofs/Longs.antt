-- While one waits long, only those acquire who were woken.
use Rattle.std.proofs.Common.{List, None, Some, ap, eqb, false, inl, inr, not, refl, subst, true, ℕ, ◌≡◌}
use Rattle.ns_word.proofs.Prelude.{AcquireExchange, Arrival, AsFresh, Event, Found, Held, InAcquire, InTry, LockState, Mode, Read, SeatView, Step, Truths, TryAcquire, Walk, Word, Write, and_parts, both_ways, is_woken, may_acquire, mode_for, not-true, or_cases, part_of, want_of, was_woken, ◌∙◌}
use Rattle.ns_word.proofs.Effects.{Gains, makes}
use Rattle.ns_word.proofs.Looks.{acquire_in, marks_at}

-- such a word is acquired by one that was woken alone
long_shuts : (mode : Mode) (arrival : Arrival) (word : Word) → word.long ≡ true → may_acquire mode arrival word ≡ true → is_woken arrival ≡ true
long_shuts Write arrival word long e =
    let parts = and_parts (eqb word.readers 0) _ (and_parts (not word.write) _ e).1 in
    elim (or_cases (is_woken arrival) (not word.long) parts.1) [ inl woken ↦ woken | inr short ↦ absurd (both_ways word.long (not-true word.long short) long) ]
long_shuts Read arrival word long e =
    elim (or_cases (is_woken arrival) _ (and_parts (not word.write) _ e).1) [ inl woken ↦ woken | inr short ↦ absurd (both_ways word.long (not-true word.long (and_parts (not word.writer_waits) _ short).1) long) ]

-- nor does a fresh reader acquire such a word that says that a writer waits
writer_shuts : (arrival : Arrival) (word : Word) → word.writer_waits ≡ true → may_acquire Read arrival word ≡ true → is_woken arrival ≡ true
writer_shuts arrival word waits e =
    elim (or_cases (is_woken arrival) _ (and_parts (not word.write) _ e).1) [ inl woken ↦ woken | inr fresh ↦ absurd (both_ways word.writer_waits (not-true word.writer_waits (and_parts (not word.writer_waits) _ fresh).0) waits) ]

-- so one acquires such a word only where it was woken
passes : {C : Type 0} {N : ℕ} (walk : Walk C) (word : Word) (held : Held C N) → word.long ≡ true → Gains (acquire_in walk) word held → was_woken (Some walk) ≡ true
passes (InTry mode (TryAcquire last)) word held long g = absurd (both_ways false refl (long_shuts mode AsFresh last (ap (λ w. w.long) g.0 ∙ long) g.1))
passes (InAcquire aim (AcquireExchange arrival last)) word held long g = long_shuts (mode_for aim) arrival last (ap (λ w. w.long) g.0 ∙ long) g.1
passes walk word held long g = absurd g

-- a reader passes a waiting writer only where it was woken
reads_past : {C : Type 0} {N : ℕ} (walk : Walk C) (word : Word) (held : Held C N) → word.writer_waits ≡ true → held.mode ≡ Read → Gains (acquire_in walk) word held → was_woken (Some walk) ≡ true
reads_past (InTry mode (TryAcquire last)) word held waits reads g =
    absurd (both_ways false refl (writer_shuts AsFresh last (ap (λ w. w.writer_waits) g.0 ∙ waits) (subst (λ m. may_acquire m AsFresh last ≡ true) (g.2 ∙ reads) g.1)))
reads_past (InAcquire aim (AcquireExchange arrival last)) word held waits reads g =
    writer_shuts arrival last (ap (λ w. w.writer_waits) g.0 ∙ waits) (subst (λ m. may_acquire m arrival last ≡ true) (g.2 ∙ reads) g.1)
reads_past walk word held waits reads g = absurd g

module _ {C : Type 0} {N : ℕ} (truths : Truths C) (old : LockState C N) (view : SeatView C N) (found : Found) (new : LockState C N) (commits : List (Event C N)) (held : Held C N) (step : Step truths old view found new commits) where
  -- what comes to hand was acquired
  gained : view.held ≡ None → step.held ≡ Some held → Gains (acquire_in step.walk) old.word held
  gained none some = subst (λ by. Gains by old.word held) (ap (λ marks. marks.2) (marks_at step.walk))
      ((makes truths view.seat (want_of step.walk) (part_of old view.held view.owed) found (part_of new step.held step.owed) commits step.effect).gains held none some)

  pub woken_pass : old.word.long ≡ true → view.held ≡ None → step.held ≡ Some held → was_woken (Some step.walk) ≡ true
  woken_pass long none some = passes step.walk old.word held long (gained none some)

  pub readers_stand_behind : old.word.writer_waits ≡ true → view.held ≡ None → step.held ≡ Some held → held.mode ≡ Read → was_woken (Some step.walk) ≡ true
  readers_stand_behind waits none some reads = reads_past step.walk old.word held waits reads (gained none some)
