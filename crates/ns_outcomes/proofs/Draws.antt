-- Turns that were drawn are turns of a run, and follow the words that spell them.
use Rattle.std.proofs.Common.{Bool, List, None, Some, [], ap, arith, cond, eq-eqb, eqb, false, length, length-append, map, not, refl, subst, sym, true, ℕ, ◌++◌, ◌+◌, ◌<◌, ◌∙◌, ◌∷◌, ◌≡◌, ◌≢◌, ◌≤◌, ◌⊎◌}
use Rattle.ns_outcomes.proofs.Prelude.{Advances, AreFewest, Draws, Drew, Finished, GoesBefore, Idle, IsCutShort, IsDrawingFault, IsDrawnWord, IsPick, Item, Lcg, Lists, Nothing, Progress, ScriptCondition, Stage, Step, Stops, StopsFor, Turn, TurnStands, Turned, TurnsOf, Went, WorldFault, drawing_fault}
use Rattle.ns_outcomes.proofs.Prelude.{is_end, items_of, map-append, pcg32, rest_of, turn_item}
use Rattle.ns_world.specs.declared.fault.Fault.TheVariants as world

-- ---- words

last_word : (words : List Turn) (last : Turn) → AreFewest (words ++ last ∷ []) → IsDrawnWord last
last_word [] last h = h
last_word (word ∷ []) last h = h.2
last_word (word ∷ next ∷ words) last h = last_word (next ∷ words) last h.2

longer_last : (words : List Turn) (last longer : Turn) → longer.thread ≡ last.thread → IsDrawnWord longer → AreFewest (words ++ last ∷ []) → AreFewest (words ++ longer ∷ [])
longer_last [] last longer same is h = is
longer_last (word ∷ []) last longer same is h = (h.0, subst (λ (t : ℕ). (word.thread ≢ t) ⊎ (word.times ≡ 1000000)) (sym same) h.1, is)
longer_last (word ∷ next ∷ words) last longer same is h = (h.0, h.1, longer_last (next ∷ words) last longer same is h.2)

next_last : (words : List Turn) (last next : Turn) → GoesBefore last next → IsDrawnWord next → AreFewest (words ++ last ∷ []) → AreFewest ((words ++ last ∷ []) ++ next ∷ [])
next_last [] last next goes is h = (h, goes, is)
next_last (word ∷ []) last next goes is h = (h.0, h.1, (h.2, goes, is))
next_last (word ∷ other ∷ words) last next goes is h = (h.0, h.1, next_last (other ∷ words) last next goes is h.2)

-- one turn more in the last word
pub fewest_longer : (old front new : List Turn) (last longer : Turn) → old ≡ front ++ last ∷ [] → new ≡ front ++ longer ∷ [] → longer.thread ≡ last.thread → longer.whole ≡ false → longer.times ≡ last.times + 1 → last.times < 1000000 → AreFewest old →
    AreFewest new
fewest_longer old front new last longer e₁ e₂ same plain one few h =
    rw e₂ (longer_last front last longer same (record { plain = plain; some = omega (arith, one); few = omega (arith, one, few) }) (rw e₁ at h))

-- a word more, of one turn
pub fewest_next : (old front new : List Turn) (last next : Turn) → old ≡ front ++ last ∷ [] → new ≡ (front ++ last ∷ []) ++ next ∷ [] → next.whole ≡ false → next.times ≡ 1 → (IsDrawnWord last → GoesBefore last next) → AreFewest old → AreFewest new
fewest_next old front new last next e₁ e₂ plain one goes h =
    let all = rw e₁ at h in
    rw e₂ (next_last front last next (goes (last_word front last all)) (record { plain = plain; some = omega (arith, one); few = omega (arith, one) }) all)

-- the first word
pub fewest_first : (new front : List Turn) (first : Turn) → front ≡ [] → new ≡ front ++ first ∷ [] → first.whole ≡ false → first.times ≡ 1 → AreFewest new
fewest_first new front first e₁ e₂ plain one = rw (e₂, e₁) (record { plain = plain; some = omega (arith, one); few = omega (arith, one) })

-- a word isn't whole and plain
pub not_whole : (whole : Bool) → not whole ≡ false → whole ≡ false → ⊥
not_whole true e₁ e₂ = absurd cc
not_whole false e₁ e₂ = absurd cc

-- ---- turns

ends_at_once : (step : Step) → is_end false step ≡ true
ends_at_once Went = refl
ends_at_once Idle = refl
ends_at_once Nothing = refl
ends_at_once (Finished reply) = refl

-- turns follow the items that are made of them
pub follow_items : (turns : List Turned) → rest_of (map turn_item turns) turns ≡ Some []
follow_items [] = refl
follow_items (turned ∷ turns) = rw (eq-eqb turned.seat turned.seat refl, ends_at_once turned.step) (follow_items turns)

-- ---- one turn that isn't made

none_left : (turns : List Turned) (item : Item) (left : List Item) → rest_of [] turns ≡ Some (item ∷ left) → ⊥
none_left [] item left e = absurd cc
none_left (turned ∷ turns) item left e = absurd cc

-- of one item something is left only before its turn
none_yet : (seat : ℕ) (turns : List Turned) (item : Item) (left : List Item) → rest_of (record { seat = seat; whole = false } ∷ []) turns ≡ Some (item ∷ left) → length turns ≡ 0
none_yet seat [] item left e = refl
none_yet seat (turned ∷ turns) item left e =
    let ended : cond (eqb turned.seat seat) (rest_of [] turns) None ≡ Some (item ∷ left) = rw (ends_at_once turned.step) at e in
    absurd (elim (eqb turned.seat seat) as (λ b. cond b (rest_of [] turns) None ≡ Some (item ∷ left) → ⊥) [
      | true ↦ none_left turns item left
      | false ↦ λ h. absurd cc
    ] ended)

-- one that the limit refuses comes after as many turns as the limit
at_limit : (limit : ℕ) (end now : Progress ScriptCondition 8) (seat mid after : ℕ) (turns : List Turned) (left : List Item) → rest_of (record { seat = seat; whole = false } ∷ []) turns ≡ Some left → after ≡ mid + length turns →
    StopsFor limit end after turns left now world.StepLimit → mid ≡ limit
at_limit limit end now seat mid after turns [] rest count why = absurd why
at_limit limit end now seat mid after turns (item ∷ left) rest count why =
    let none = none_yet seat turns item left rest in
    let full = why.1 in
    omega (arith, count, none, full)

-- ---- drawn turns

module _ (lists : Lists) where
  -- drawn turns are turns
  pub turns_drawn : (g h : Lcg) (p q : Stage) (turns : List Turned) → Draws lists g p turns h q → TurnsOf lists p.progress turns q.progress
  turns_drawn g h p q [] d = ap (λ (s : Stage). s.progress) d.1
  turns_drawn g h p q (turned ∷ turns) d = (d.0.progress, d.2.turn, turns_drawn (pcg32 g).1 h d.0 q turns d.3)

  -- one more
  pub draw_more : (g h : Lcg) (p q r : Stage) (turns : List Turned) (turned : Turned) → Draws lists g p turns h q → IsPick q.standings (pcg32 h).0 (Some turned.seat) → TurnStands lists q turned r →
      Draws lists g p (turns ++ turned ∷ []) (pcg32 h).1 r
  draw_more g h p q r [] turned d pick turn = (
    r,
    subst (λ (s : Stage). IsPick s.standings (pcg32 g).0 (Some turned.seat)) d.1 (subst (λ (x : Lcg). IsPick q.standings (pcg32 x).0 (Some turned.seat)) d.0 pick),
    subst (λ (s : Stage). TurnStands lists s turned r) d.1 turn,
    (ap (λ (x : Lcg). (pcg32 x).1) d.0, refl),
  )
  draw_more g h p q r (first ∷ turns) turned d pick turn = (d.0, d.1, d.2, draw_more (pcg32 g).1 h d.0 q r turns turned d.3 pick turn)

  module _ (limit : ℕ) where
    -- one more, by the generator's next number, and its word
    pub drew_more : (g h next : Lcg) (number : ℕ) (p q r : Stage) (before mid behind : ℕ) (words more : List Turn) (turned : Turned) → Drew lists limit g p before words h q mid → ◌≡◌ {A = ℕ × Lcg} (number, next) (pcg32 h) →
        IsPick q.standings number (Some turned.seat) → TurnStands lists q turned r → items_of more ≡ items_of words ++ turn_item turned ∷ [] → (AreFewest words → AreFewest more) → behind ≡ mid + 1 → behind ≤ limit →
        Drew lists limit g p before more next r behind
    drew_more g h next number p q r before mid behind words more turned d gives pick turn longer fewest count within = record {
      turns = d.turns ++ turned ∷ [];
      draws = subst (λ (x : Lcg). Draws lists g p (d.turns ++ turned ∷ []) x r) (sym (ap (λ (x : ℕ × Lcg). x.1) gives))
          (draw_more g h p q r d.turns turned d.draws (subst (λ (n : ℕ). IsPick q.standings n (Some turned.seat)) (ap (λ (x : ℕ × Lcg). x.0) gives) pick) turn);
      spelled = longer ∙ ap (λ xs. xs ++ turn_item turned ∷ []) d.spelled ∙ sym (map-append turn_item d.turns (turned ∷ []));
      fewest = fewest d.fewest;
      count = let both = length-append d.turns (turned ∷ []) in omega (arith, count, d.count, both);
      within = within;
    }

    -- the words are a schedule of the drawn turns
    pub drew_advances : (g h : Lcg) (p q : Stage) (before behind : ℕ) (words : List Turn) → Drew lists limit g p before words h q behind → Advances lists limit p.progress before (items_of words) [] q.progress behind
    drew_advances g h p q before behind words d = record {
      turns = d.turns;
      made = turns_drawn g h p q d.turns d.draws;
      rest = ap (λ items. rest_of items d.turns) d.spelled ∙ follow_items d.turns;
      count = d.count;
      within = d.within;
    }

    -- where the next turn would be one more than the limit, drawing is cut short
    pub cut_short : (g h : Lcg) (number : ℕ) (p q : Stage) (before mid behind seat : ℕ) (words : List Turn) (now : Progress ScriptCondition 8) → Drew lists limit g p before words h q mid → IsPick q.standings number (Some seat) →
        Stops lists limit q.progress mid (record { seat = seat; whole = false } ∷ []) now behind world.StepLimit → IsCutShort lists limit g p before
    cut_short g h number p q before mid behind seat words now d pick stops =
        let full = at_limit limit stops.end now seat mid behind stops.advances.turns stops.left stops.advances.rest stops.advances.count stops.why in
        record { words = words; ends = h; end = q; drew = subst (λ (n : ℕ). Drew lists limit g p before words h q n) full d; left = pick.0 }

    -- why drawing stops, by why the next turn isn't made
    pub drawing_stops : (g h : Lcg) (number : ℕ) (p q : Stage) (before mid behind seat : ℕ) (words : List Turn) (now : Progress ScriptCondition 8) (fault : WorldFault) → Drew lists limit g p before words h q mid → IsPick q.standings number (Some seat) →
        Stops lists limit q.progress mid (record { seat = seat; whole = false } ∷ []) now behind fault → IsDrawingFault lists limit g p before (drawing_fault fault)
    drawing_stops g h number p q before mid behind seat words now world.StepLimit d pick stops = cut_short g h number p q before mid behind seat words now d pick stops
    drawing_stops g h number p q before mid behind seat words now world.OutOfMemory d pick stops = tt
    drawing_stops g h number p q before mid behind seat words now world.NoSuchSeat d pick stops = tt
    drawing_stops g h number p q before mid behind seat words now world.TooManySeats d pick stops = tt
