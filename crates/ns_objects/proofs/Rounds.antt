-- What a caller has seen, look by look.
use Rattle.std.proofs.Common.{Bool, List, Option, [], ap, arith, eqb, false, get_or, length, subst, suc, sym, take, take_all, zero, ℕ, ◌<◌, ◌∙◌, ◌∷◌, ◌≡◌, ◌≤◌}
use Rattle.ns_objects.proofs.Prelude.{AnyItem, BothKnown, Counter, Cv, EnvEvent, EnvGrows, EnvKnown, Every, Grows, HasShownNone, InTurn, IsBetween, IsLater, IsNamed, Note, NoteOf, ObjectsKnown, Setup, WasReady, WasReadyIn, begins_itself, clock_of, every_map, is_due, is_notified, made_grows}
use Rattle.ns_objects.proofs.Prelude.{objects_after, past_of, standing_of}

-- a caller that knows more of both
abbrev pub BothGrow : BothKnown → BothKnown → Type 0
BothGrow old new = Grows old.0 new.0 × EnvGrows old.1 new.1

-- has come further in both
pub further : (old new : BothKnown) → BothGrow old new → IsLater (past_of old) (past_of new)
further old new grow = record { notes = grow.1.begins; objects = grow.0.begins }

-- ---- one look

pub looked_at_note : (so : Bool) (old : ObjectsKnown) (watch watch' : EnvKnown) (note : NoteOf) → (point : List EnvEvent) × IsBetween watch.seen point watch'.seen × (so ≡ is_notified point note.index) → WasReadyIn so (old, watch) (old, watch') (Note note)
looked_at_note so old watch watch' note at = (record { notes = at.0; objects = old.seen }, record { notes = at.1.0; objects = begins_itself old.seen }, record { notes = at.1.1; objects = begins_itself old.seen }, sym at.2)

pub looked_at_counter : (value : ℕ) (old new : ObjectsKnown) (watch : EnvKnown) (counter : ℕ) → Grows old new → value ≡ ((standing_of new).counters counter).value → WasReadyIn (eqb value 0) (old, watch) (new, watch) (Counter counter)
looked_at_counter value old new watch counter grow is = (
  record { notes = watch.seen; objects = new.seen },
  record { notes = begins_itself watch.seen; objects = grow.begins },
  record { notes = begins_itself watch.seen; objects = begins_itself new.seen },
  ap (λ n. eqb n 0) (ap (λ (s : Setup). ((objects_after s new.seen).counters counter).value) (sym grow.setup) ∙ sym is),
)

pub passed_over : (now : BothKnown) (k : ℕ) → WasReadyIn false now now (Cv k)
passed_over now k = (past_of now, record { notes = begins_itself now.1.seen; objects = begins_itself now.0.seen }, record { notes = begins_itself now.1.seen; objects = begins_itself now.0.seen }, tt)

-- a round that has found no item ready, and whether the deadline had come as it looked at the clock
pub whole_round : {A : Type 0} (as_any : A → AnyItem) (setup : Setup) (items : List A) (deadline : Option ℕ) (come : Bool) (first clock last : BothKnown) (i : ℕ) → IsLater (past_of first) (past_of clock) → is_due (clock_of clock.1.seen) deadline ≡ come → length items ≤ i
    → InTurn (λ point item. WasReady setup false point (as_any item)) (past_of clock) (past_of last) (take i items) → HasShownNone (λ so point item. WasReady setup so point (as_any item)) items deadline come (past_of first) (past_of last)
whole_round as_any setup items deadline come first clock last i begins is all unready =
    record { clock = past_of clock; begins = begins; come_then = is; unready = subst (InTurn (λ point item. WasReady setup false point (as_any item)) (past_of clock) (past_of last)) (take_all i items all) unready }

-- ---- what was known of an item is known later

pub known_later : (item : AnyItem) (old new : BothKnown) → BothGrow old new → IsNamed old.0 old.1 item → IsNamed new.0 new.1 item
known_later (Note note) old new grow known = made_grows old.1 new.1 note.index grow.1 known
known_later (Counter counter) old new grow known = subst (λ (s : Setup). counter < s.counters) (sym grow.0.setup) known
known_later (Cv k) old new grow known = known

pub all_known_later : {A : Type 0} (as_any : A → AnyItem) (items : List A) (old new : BothKnown) → BothGrow old new → Every (λ item. IsNamed old.0 old.1 (as_any item)) items → Every (λ item. IsNamed new.0 new.1 (as_any item)) items
all_known_later as_any items old new grow known = every_map (λ item. IsNamed old.0 old.1 (as_any item)) (λ item. IsNamed new.0 new.1 (as_any item)) (λ item k. known_later (as_any item) old new grow k) items known

-- of each of a list, and of one of them
pub every_get : {A : Type 0} (P : A → Type 0) (l : List A) (i : ℕ) (d : A) → i < length l → Every P l → P (get_or l i d)
every_get P [] i d low each = absurd (omega (arith, low))
every_get P (x ∷ l) zero d low each = each.0
every_get P (x ∷ l) (suc i) d low each = every_get P l i d (omega (arith, low)) each.1
