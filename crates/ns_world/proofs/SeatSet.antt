-- A world with one of its seats set: what each machine sees of it, and the law.
use Rattle.std.proofs.Common.{List, None, Option, Some, ap, drop, inl, inr, length, length-set, map, refl, slice_get, slice_set, subst, suc, sym, take, true, zero-add, ℕ, ◌++◌, ◌<◌, ◌∙◌, ◌∷◌, ◌≡◌, ◌≢◌, ◌≤◌}
use Rattle.ns_world.proofs.Prelude.{AnyWait, AreNumbered, Doing, DoingFits, HasLedTo, Held, IfMade, IsLawful, IsLawfulWhole, IsSettled, LooksByLimits, LooksByRound, NoteStanding, OnLock, Past, PlaceFits, Request, Seat, SeatView, Setup, WaitsFor, Whole, asked_of, cases_eq, kept, lock_of, map-set}
use Rattle.ns_world.proofs.Prelude.{note_asked, number, number_at, numbers_stay, same_Some, set_here, set_same, set_there, slice_get_within, split_at, there_more, view_fits, view_of, walk_of}
use Rattle.ns_world.proofs.Mapped.{got-map}

-- ---- the seats

module _ {C : Type 0} {N : ℕ} (old new : Whole C N) (i : ℕ) (here next : Seat C N) (at : slice_get old.seats i ≡ Some here) (seats : new.seats ≡ slice_set old.seats i next) where
  -- what is read of each of them
  pub reads : {A : Type 0} (f : Seat C N → A) {x : A} → f next ≡ x → map f new.seats ≡ slice_set (map f old.seats) i x
  reads f e = ap (map f) seats ∙ map-set f old.seats i next ∙ ap (slice_set (map f old.seats) i) e

  pub stays : {A : Type 0} (f : Seat C N → A) → f next ≡ f here → map f new.seats ≡ map f old.seats
  stays f same = reads f same ∙ set_same (map f old.seats) i (f here) (got-map f old.seats i here at)

  pub within : i < length old.seats
  within = slice_get_within old.seats i here at

  pub here_then : slice_get new.seats i ≡ Some next
  here_then = ap (λ xs. slice_get xs i) seats ∙ set_here old.seats i next within

  pub others_stay : (other : ℕ) → other ≢ i → slice_get new.seats other ≡ slice_get old.seats other
  others_stay other ne = ap (λ xs. slice_get xs other) seats ∙ set_there old.seats i other next ne

  pub as_many : length new.seats ≡ length old.seats
  as_many = ap length seats ∙ length-set old.seats i next

-- ---- where a seat stands

-- what may end a wait is made, where more notes are
if_more : (notes later : ℕ → NoteStanding) → ((n : ℕ) → (notes n).made ≡ true → (later n).made ≡ true) → (given : Option ℕ) → IfMade notes given → IfMade later given
if_more notes later more None made = tt
if_more notes later more (Some n) made = more n made

module _ {C : Type 0} (setup : Setup) (notes later : ℕ → NoteStanding) (more : (n : ℕ) → (notes n).made ≡ true → (later n).made ≡ true) where
  for_more : (request : Request C) (wait : Option AnyWait) → WaitsFor setup notes request wait → WaitsFor setup later request wait
  for_more request None p = (p.0, if_more notes later more (note_asked request) p.1)
  for_more request (Some wait) p = record { mode = p.mode; cvs = p.cvs; asked = p.asked; among = p.among; there = there_more setup notes later more wait.round.items p.there }

  -- a seat stands as it stood where more notes are made
  pub stands_more : {N : ℕ} (held : Option (Held C N)) (doing : Doing C) → DoingFits setup notes held doing → DoingFits setup later held doing
  stands_more held (OnLock walk wait) p = (for_more (asked_of walk) wait p.0, p.1)
  stands_more held (LooksByLimits walk place) p = (for_more (asked_of walk) None p.0, p.1)
  stands_more held (LooksByRound walk wait round) p = (for_more (asked_of walk) (Some wait) p.0, p.1, p.2)
  stands_more held other p = p

-- ---- the law

module _ {C : Type 0} {N : ℕ} (old : Whole C N) (lawful : IsLawfulWhole old) (i : ℕ) (here : Seat C N) (at : slice_get old.seats i ≡ Some here) where
  abbrev views : List (SeatView C N)
  views = map view_of old.seats

  pub view_at : slice_get views i ≡ Some (view_of here)
  view_at = got-map view_of old.seats i here at

  pub number_here : here.number ≡ i
  number_here = number_at views i (view_of here) view_at lawful.numbered

  pub split_here : views ≡ take i views ++ view_of here ∷ drop (suc i) views
  split_here = split_at views i (view_of here) view_at

  -- what the law says of the seat's place on the lock
  pub place_here : PlaceFits old.truths (walk_of here.doing) here.held
  place_here = (view_fits old.truths (length old.seats) lawful.few old.history (lock_of old) (take i views) (view_of here) (drop (suc i) views) split_here lawful.lawful).place

  -- between calls the section in hand is settled
  pub settled_here : walk_of here.doing ≡ None → IsSettled old.truths here.held
  settled_here over = subst (λ w. PlaceFits old.truths w here.held) over place_here

-- The law holds where the seat stands as it may, and each machine's law does.
pub lawful_set : {C : Type 0} {N : ℕ} (old new : Whole C N) (i : ℕ) (here next : Seat C N) → IsLawfulWhole old → slice_get old.seats i ≡ Some here → new.seats ≡ slice_set old.seats i next → next.number ≡ here.number → new.objects.setup ≡ old.objects.setup →
    ((n : ℕ) → (old.env.notes n).made ≡ true → (new.env.notes n).made ≡ true) → DoingFits old.objects.setup new.env.notes next.held next.doing → IsLawful new.truths (length old.seats) new.history (lock_of new) → (past : Past) → HasLedTo past new → IsLawfulWhole new
lawful_set {C} {N} old new i here next lawful at seats number setup more stands kept past led = record {
  few = subst (λ n. n ≤ 64) (sym long) lawful.few;
  numbered = subst (λ (vs : List (SeatView C N)). AreNumbered 0 vs) (sym (reads old new i here next at seats view_of refl)) (numbers_stay 0 (map view_of old.seats) i (view_of next) (number ∙ number_here old lawful i here at ∙ sym (zero-add i)) lawful.numbered);
  counted = ap (λ (s : Setup). s.seats) setup ∙ lawful.counted ∙ sym long;
  lawful = subst (λ n. IsLawful new.truths n new.history (lock_of new)) (sym long) kept;
  stands = λ other seat is. subst (λ s. DoingFits s new.env.notes seat.held seat.doing) (sym setup) (elim (cases_eq other i) [
    | inl e ↦ subst (λ (s : Seat C N). DoingFits old.objects.setup new.env.notes s.held s.doing) (same_Some _ _ (sym (here_then old new i here next at seats) ∙ ap (slice_get new.seats) (sym e) ∙ is)) stands
    | inr ne ↦ stands_more old.objects.setup old.env.notes new.env.notes more seat.held seat.doing (lawful.stands other seat (sym (others_stay old new i here next at seats other ne) ∙ is))
  ]);
  past = past;
  led = led;
} where
  long : length new.seats ≡ length old.seats
  long = as_many old new i here next at seats
