use Rattle.std.proofs.Common.{None, Option, Some, refl, sym, true, ℕ, ◌∙◌, ◌≡◌}
use Rattle.ns_world.proofs.Prelude.{Advance, Advancing, ClockLoad, Expiry, ExpiryLoad, ForIsNotified, ForNoteWait, IfMade, IsNotified, NewNote, NextLoad, NoteStanding, NoteWait, Notify, Notifying, OnNotes, note_at, option_map_or}
use Rattle.ns_world.proofs.Places.{begins_where}
use Rattle.ns_world.proofs.call.Call.start_others.Goals as goal

made_from : (notes : ℕ → NoteStanding) (given : Option ℕ) → option_map_or (λ note. (notes note).made) given true ≡ true → IfMade notes given
made_from notes None e = tt
made_from notes (Some note) e = e

made_to : (notes : ℕ → NoteStanding) (given : Option ℕ) → IfMade notes given → option_map_or (λ note. (notes note).made) given true ≡ true
made_to notes None p = refl
made_to notes (Some note) p = p

pub returns-in-NewNote : goal.returns-in-NewNote
returns-in-NewNote g c = λ setup. rw c.in-NewNote.is (begins_where g.row.N setup (note_at c.args.notes.now) (NewNote c.in-NewNote.parent c.in-NewNote.deadline) c.args.mode c.is_made_or_none.result (OnNotes (NextLoad c.in-NewNote.parent c.in-NewNote.deadline)) c.ask.result c.ask.ensures refl
    (λ e. made_from (note_at c.args.notes.now) c.in-NewNote.parent (sym c.is_made_or_none.ensures ∙ e)) (λ p. c.is_made_or_none.ensures ∙ made_to (note_at c.args.notes.now) c.in-NewNote.parent p))

pub returns-in-Notify : goal.returns-in-Notify
returns-in-Notify g c = λ setup. rw c.in-Notify.is (begins_where g.row.N setup (note_at c.args.notes.now) (Notify c.in-Notify.note) c.args.mode c.is_made.result (OnNotes (Notifying c.in-Notify.note)) c.ask-in-Notify.result c.ask-in-Notify.ensures refl (λ e. sym c.is_made.ensures
    ∙ e) (λ p. c.is_made.ensures ∙ p))

pub returns-in-Advance : goal.returns-in-Advance
returns-in-Advance g c = λ setup. rw c.in-Advance.is (begins_where g.row.N setup (note_at c.args.notes.now) (Advance c.in-Advance.moment) c.args.mode true (OnNotes (Advancing c.in-Advance.moment)) c.ask-in-Advance.result c.ask-in-Advance.ensures refl (λ e. tt) (λ p. refl))

pub returns-in-IsNotified : goal.returns-in-IsNotified
returns-in-IsNotified g c = λ setup. rw c.in-IsNotified.is (begins_where g.row.N setup (note_at c.args.notes.now) (IsNotified c.in-IsNotified.note) c.args.mode c.is_made-in-IsNotified.result (OnNotes (ClockLoad (ForIsNotified c.in-IsNotified.note))) c.ask-in-IsNotified.result
    c.ask-in-IsNotified.ensures refl (λ e. sym c.is_made-in-IsNotified.ensures ∙ e) (λ p. c.is_made-in-IsNotified.ensures ∙ p))

pub returns-in-Expiry : goal.returns-in-Expiry
returns-in-Expiry g c = λ setup. rw c.in-Expiry.is (begins_where g.row.N setup (note_at c.args.notes.now) (Expiry c.in-Expiry.note) c.args.mode c.is_made-in-Expiry.result (OnNotes (ExpiryLoad c.in-Expiry.note c.in-Expiry.note None)) c.ask-in-Expiry.result c.ask-in-Expiry.ensures refl (λ e. sym
    c.is_made-in-Expiry.ensures ∙ e) (λ p. c.is_made-in-Expiry.ensures ∙ p))

pub returns-in-NoteWait : goal.returns-in-NoteWait
returns-in-NoteWait g c = λ setup. rw c.in-NoteWait.is (begins_where g.row.N setup (note_at c.args.notes.now) (NoteWait c.in-NoteWait.note c.in-NoteWait.deadline) c.args.mode c.is_made-in-NoteWait.result (OnNotes (ClockLoad (ForNoteWait c.in-NoteWait.note c.in-NoteWait.deadline)))
    c.ask-in-NoteWait.result c.ask-in-NoteWait.ensures refl (λ e. sym c.is_made-in-NoteWait.ensures ∙ e) (λ p. c.is_made-in-NoteWait.ensures ∙ p))

pub is_made-requires : goal.is_made-requires
is_made-requires g c = tt

pub is_made-requires-in-Expiry : goal.is_made-requires-in-Expiry
is_made-requires-in-Expiry g c = tt

pub is_made-requires-in-IsNotified : goal.is_made-requires-in-IsNotified
is_made-requires-in-IsNotified g c = tt

pub is_made-requires-in-NoteWait : goal.is_made-requires-in-NoteWait
is_made-requires-in-NoteWait g c = tt

pub is_made_or_none-met-requires : goal.is_made_or_none-met-requires
is_made_or_none-met-requires g c = tt

pub is_made_or_none-met-requires-in-CvWait : goal.is_made_or_none-met-requires-in-CvWait
is_made_or_none-met-requires-in-CvWait g c = tt

pub is_made_or_none-requires : goal.is_made_or_none-requires
is_made_or_none-requires g c = tt

pub start_lock-requires : goal.start_lock-requires
start_lock-requires g c = c.requires.row

pub wait-requires : goal.wait-requires
wait-requires g c = c.requires.row

pub wait-requires-in-CvWait : goal.wait-requires-in-CvWait
wait-requires-in-CvWait g c = c.requires.row
