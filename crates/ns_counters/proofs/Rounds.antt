-- Looks behind one another, and rounds of them, when more has happened.
use Rattle.std.proofs.Common.{Bool, List, None, Option, Some, [], false, inl, inr, suc, true, zero, ℕ, ◌++◌, ◌∷◌}
use Rattle.ns_counters.proofs.Prelude.{AnswersByRounds, HasShownNone, HasShownOne, HaveShownNothing, InTurn, IsLater, Past, RoundShows, begins_itself, begins_through}

pub later_itself : (now : Past) → IsLater now now
later_itself now = record { notes = begins_itself now.notes; objects = begins_itself now.objects }

pub later_through : (earlier mid now : Past) → IsLater earlier mid → IsLater mid now → IsLater earlier now
later_through earlier mid now a b = record {
  notes = begins_through now.notes mid.notes earlier.notes b.notes a.notes;
  objects = begins_through now.objects mid.objects earlier.objects b.objects a.objects;
}

module _ {A : Type 0} (IsSo : Past → A → Type 0) where
  -- looks lie between points that are further apart, too
  pub turn_until : (from to on : Past) (xs : List A) → InTurn IsSo from to xs → IsLater to on → InTurn IsSo from on xs
  turn_until from to on [] turn later = later_through from to on turn later
  turn_until from to on (x ∷ xs) turn later = (turn.0, turn.1, turn.2, turn_until turn.0 to on xs turn.3 later)

  -- whose last is not before their first
  pub turn_later : (from to : Past) (xs : List A) → InTurn IsSo from to xs → IsLater from to
  turn_later from to [] turn = turn
  turn_later from to (x ∷ xs) turn = later_through from turn.0 to turn.1 (turn_later turn.0 to xs turn.3)

  -- one look more, behind the others
  pub turn_more : (from to point on : Past) (xs : List A) (x : A) → InTurn IsSo from to xs → IsLater to point → IsSo point x → IsLater point on → InTurn IsSo from on (xs ++ x ∷ [])
  turn_more from to point on [] x turn later so ends = (point, later_through from to point turn later, so, ends)
  turn_more from to point on (y ∷ xs) x turn later so ends = (turn.0, turn.1, turn.2, turn_more turn.0 to point on xs x turn.3 later so ends)

module _ {A : Type 0} (IsSo : Bool → Past → A → Type 0) (things : List A) (deadline : Option ℕ) where
  pub none_until : (come : Bool) (from to on : Past) → HasShownNone IsSo things deadline come from to → IsLater to on → HasShownNone IsSo things deadline come from on
  none_until come from to on r later = record { clock = r.clock; begins = r.begins; come_then = r.come_then; unready = turn_until (IsSo false) r.clock to on things r.unready later }

  pub one_until : (place : ℕ) (from to on : Past) → HasShownOne IsSo things deadline place from to → IsLater to on → HasShownOne IsSo things deadline place from on
  one_until place from to on r later = record { clock = r.clock; begins = r.begins; point = r.point; unready = r.unready; thing = r.thing; is = r.is; ready = r.ready; ends = later_through r.point to on r.ends later }

  -- what a round has shown it has shown still when more has happened
  pub shows_until : (from to on : Past) (answer : Option ℕ) → RoundShows IsSo things deadline from to answer → IsLater to on → RoundShows IsSo things deadline from on answer
  shows_until from to on None shows later = none_until false from to on shows later
  shows_until from to on (Some place) (inl one) later = inl (one_until place from to on one later)
  shows_until from to on (Some place) (inr (is, none)) later = inr (is, none_until true from to on none later)

  pub nothing_until : (n : ℕ) (from to on : Past) → HaveShownNothing IsSo things deadline n from to → IsLater to on → HaveShownNothing IsSo things deadline n from on
  nothing_until zero from to on nothing later = later_through from to on nothing later
  nothing_until (suc n) from to on nothing later = (nothing.0, nothing.1, none_until false nothing.0 to on nothing.2 later)

  pub answers_until : (from to on : Past) (place : ℕ) → AnswersByRounds IsSo things deadline from to place → IsLater to on → AnswersByRounds IsSo things deadline from on place
  answers_until from to on place a later = record { rounds = a.rounds; mid = a.mid; nothing = a.nothing; last = shows_until a.mid to on (Some place) a.last later }

  -- a round that has begun later has begun since before
  pub none_since : (come : Bool) (since from to : Past) → IsLater since from → HasShownNone IsSo things deadline come from to → HasShownNone IsSo things deadline come since to
  none_since come since from to later r = record { clock = r.clock; begins = later_through since from r.clock later r.begins; come_then = r.come_then; unready = r.unready }

  -- rounds end no earlier than they begin
  pub none_later : (come : Bool) (from to : Past) → HasShownNone IsSo things deadline come from to → IsLater from to
  none_later come from to r = later_through from r.clock to r.begins (turn_later (IsSo false) r.clock to things r.unready)

  pub nothing_later : (n : ℕ) (from to : Past) → HaveShownNothing IsSo things deadline n from to → IsLater from to
  nothing_later zero from to nothing = nothing
  nothing_later (suc n) from to nothing = later_through from nothing.0 to (nothing_later n from nothing.0 nothing.1) (none_later false nothing.0 to nothing.2)

  -- of rounds that have shown nothing the last has
  pub last_nothing : (n : ℕ) (from to : Past) → HaveShownNothing IsSo things deadline (suc n) from to → RoundShows IsSo things deadline from to None
  last_nothing n from to nothing = none_since false from nothing.0 to (nothing_later n from nothing.0 nothing.1) nothing.2
