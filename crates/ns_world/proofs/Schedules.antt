-- Turns that follow a schedule, piece by piece.
use Rattle.std.proofs.Common.{Bool, IsTrue, List, None, Option, Some, [], add-zero, ap, arith, cond, drop, drop-cons, eq-eqb, eqb, false, get_or, inl, inr, length, refl, replicate, subst, suc, sym, take, true, ℕ, ◌++◌, ◌+◌, ◌-◌, ◌<◌, ◌∙◌, ◌∷◌, ◌≡◌, ◌≢◌, ◌≤◌}
use Rattle.ns_world.specs.Runs.{IsSeen, RunFault, RunHalts, Sees, item_for, reached}
use Rattle.ns_world.proofs.Prelude.{Advances, AdvancesBy, Halts, HaltsFor, TurnsBy, Watched, Call, EndUntold, Fault, Finished, IsFinished, Item, Line, NoSuchSeat, OutOfMemory, Progress, Step, StopsFor, Truths, Turn, TurnFault, TurnOf, Turned, TurnsOf, Whole, append-nil, append_assoc, flat_map-append, is_end, length-append, progress, progressed}
use Rattle.ns_world.proofs.Prelude.{replicate-append-replicate, replicate_more, rest_of, take-append-drop, take_more, word_items}
use Rattle.ns_world.specs.Runs.{items_of}

-- ---- what is left of the items

-- what follows from what is left of the items, by whether the first item was ended
carry : {A B : Type 0} (same ends : Bool) (x y : Option A) (x' y' r : Option B) (left : A) → (x ≡ Some left → x' ≡ r) → (y ≡ Some left → y' ≡ r) → cond same (cond ends x y) None ≡ Some left → cond same (cond ends x' y') None ≡ r
carry true true x y x' y' r left f g e = f e
carry true false x y x' y' r left f g e = g e
carry false ends x y x' y' r left f g e = absurd (cc)

-- items more at the end are left too
rest_more : (turns : List Turned) (items left more : List Item) → rest_of items turns ≡ Some left → rest_of (items ++ more) turns ≡ Some (left ++ more)
rest_more [] items left more e = let same : items ≡ left = cc in ap (λ xs. Some (xs ++ more)) same
rest_more (turned ∷ turns) [] left more e = absurd (cc)
rest_more (turned ∷ turns) (item ∷ items) left more e =
    carry (eqb turned.seat item.seat) (is_end item.whole turned.step) _ _ _ _ (Some (left ++ more)) left (rest_more turns items left more) (rest_more turns (item ∷ items) left more) e

-- turns after others follow what those have left
rest_join : (a b : List Turned) (items left : List Item) → rest_of items a ≡ Some left → rest_of items (a ++ b) ≡ rest_of left b
rest_join [] b items left e = let same : items ≡ left = cc in ap (λ xs. rest_of xs b) same
rest_join (turned ∷ a) b [] left e = absurd (cc)
rest_join (turned ∷ a) b (item ∷ items) left e =
    carry (eqb turned.seat item.seat) (is_end item.whole turned.step) _ _ _ _ (rest_of left b) left (rest_join a b items left) (rest_join a b (item ∷ items) left) e

one_by : (ends : Bool) (item : Item) → cond ends (Some []) (Some (item ∷ [])) ≡ Some (cond ends [] (item ∷ []))
one_by true item = refl
one_by false item = refl

rest_one : (item : Item) (step : Step) → rest_of (item ∷ []) (record { seat = item.seat; step = step } ∷ []) ≡ Some (cond (is_end item.whole step) [] (item ∷ []))
rest_one item step = rw (eq-eqb item.seat item.seat refl) (one_by (is_end item.whole step) item)

-- a finished call at the end stays there, with turns before
ends_after : {C : Type 0} {N : ℕ} (front turns : List Turned) (end q : Progress C N) → EndUntold turns end q → EndUntold (front ++ turns) end q
ends_after front turns end q e =
    record { earlier = front ++ e.earlier; seat = e.seat; reply = e.reply; last = ap (λ ts. front ++ ts) e.last ∙ sym (append_assoc front e.earlier (record { seat = e.seat; step = Finished e.reply } ∷ [])); untold = e.untold }

turns_join : {S : Type 0} (By : S → Turned → S → Type 0) (p q r : S) (a b : List Turned) → TurnsBy By p a q → TurnsBy By q b r → TurnsBy By p (a ++ b) r
turns_join By p q r [] b s t = subst (λ x. TurnsBy By x b r) s t
turns_join By p q r (turned ∷ a) b s t = (s.0, s.1, turns_join By s.0 q r a b s.2 t)

-- a run stops for the same where more items are left
stops_for_more : {C : Type 0} {N : ℕ} (limit : ℕ) (end q : Progress C N) (made : ℕ) (turns : List Turned) (left more : List Item) (fault : Fault) → StopsFor limit end made turns left q fault → StopsFor limit end made turns (left ++ more) q fault
stops_for_more limit end q made turns [] more OutOfMemory (inl p) = absurd p.1
stops_for_more limit end q made turns [] more OutOfMemory (inr p) = inr p
stops_for_more limit end q made turns [] more other p = absurd p
stops_for_more limit end q made turns (item ∷ left) more other p = p

-- and turns before
stops_for_after : {C : Type 0} {N : ℕ} (limit : ℕ) (end q : Progress C N) (made : ℕ) (front turns : List Turned) (left : List Item) (fault : Fault) → StopsFor limit end made turns left q fault → StopsFor limit end made (front ++ turns) left q fault
stops_for_after limit end q made front turns left OutOfMemory (inl p) = inl p
stops_for_after limit end q made front turns left OutOfMemory (inr p) = inr (ends_after front turns end q p)
stops_for_after limit end q made front turns (item ∷ left) other p = p
stops_for_after limit end q made front turns [] other p = absurd p

-- the same with an observer that may refuse memory
halts_for : {C : Type 0} {N : ℕ} (refuses : Bool) (limit : ℕ) (end q : Progress C N) (made : ℕ) (turns : List Turned) (left : List Item) (fault : Fault) → StopsFor limit end made turns left q fault → HaltsFor refuses limit end made turns left q fault
halts_for false limit end q made turns left fault p = p
halts_for true limit end q made turns left fault p = inl p

halts_for_more : {C : Type 0} {N : ℕ} (refuses : Bool) (limit : ℕ) (end q : Progress C N) (made : ℕ) (turns : List Turned) (left more : List Item) (fault : Fault) → HaltsFor refuses limit end made turns left q fault → HaltsFor refuses limit end made turns (left ++ more) q fault
halts_for_more false limit end q made turns left more fault p = stops_for_more limit end q made turns left more fault p
halts_for_more true limit end q made turns left more fault (inl p) = inl (stops_for_more limit end q made turns left more fault p)
halts_for_more true limit end q made turns left more fault (inr p) = inr p

halts_for_after : {C : Type 0} {N : ℕ} (refuses : Bool) (limit : ℕ) (end q : Progress C N) (made : ℕ) (front turns : List Turned) (left : List Item) (fault : Fault) → HaltsFor refuses limit end made turns left q fault → HaltsFor refuses limit end made (front ++ turns) left q fault
halts_for_after false limit end q made front turns left fault p = stops_for_after limit end q made front turns left fault p
halts_for_after true limit end q made front turns left fault (inl p) = inl (stops_for_after limit end q made front turns left fault p)
halts_for_after true limit end q made front turns left fault (inr p) = inr p

-- a run whose observer may refuse memory stops for the limit, or for a thread that is no seat, where any does
stopped_for : {C : Type 0} {N : ℕ} (refuses : Bool) (limit : ℕ) (end q : Progress C N) (made : ℕ) (turns : List Turned) (left : List Item) (fault : Fault) → fault ≢ OutOfMemory → HaltsFor refuses limit end made turns left q fault → StopsFor limit end made turns left q fault
stopped_for false limit end q made turns left fault other p = p
stopped_for true limit end q made turns left fault other (inl p) = p
stopped_for true limit end q made turns left fault other (inr p) = absurd (other p.1)

pub run_stopped : {C : Type 0} {N : ℕ} (refuses : Bool) (lists : List (List (Call C))) (schedule : List Turn) (limit : ℕ) (old new : Whole C N) (fault : Fault) → fault ≢ OutOfMemory → RunHalts refuses lists schedule limit old new fault → RunFault lists schedule limit old new fault
run_stopped refuses lists schedule limit old new fault other f =
    let s = f.stops in
    record { leaves = f.leaves; after = f.after; stops = record { left = s.left; end = s.end; advances = s.advances; why = stopped_for refuses limit s.end f.leaves f.after s.advances.turns s.left fault other s.why }; here = f.here }

-- a run as an observer is told of it is one
forget : {C : Type 0} {N : ℕ} {O : Type 0} (truths : Truths C) (sees : Sees C N O) (lists : List (List (Call C))) (p : Watched C N O) (turns : List Turned) (q : Watched C N O) → TurnsBy (IsSeen truths sees lists) p turns q →
    TurnsOf lists (reached truths p) turns (reached truths q)
forget truths sees lists p [] q e = ap (reached truths) e
forget truths sees lists p (turned ∷ turns) q t = (reached truths t.0, t.1.turn, forget truths sees lists t.0 turns q t.2)

pub unseen : {C : Type 0} {N : ℕ} {O : Type 0} {truths : Truths C} {sees : Sees C N O} {lists : List (List (Call C))} {limit : ℕ} {p q : Watched C N O} {before after : ℕ} {items left : List Item} →
    AdvancesBy (IsSeen truths sees lists) limit p before items left q after → Advances lists limit (reached truths p) before items left (reached truths q) after
unseen {truths = truths} {sees = sees} {lists = lists} {p = p} {q = q} a = record { turns = a.turns; made = forget truths sees lists p a.turns q a.made; rest = a.rest; count = a.count; within = a.within }

module _ {S : Type 0} {By : S → Turned → S → Type 0} {limit : ℕ} where
  -- ---- from one to another

  -- no turn
  pub advance_none : {p : S} {before : ℕ} {items : List Item} → before ≤ limit → AdvancesBy By limit p before items items p before
  advance_none {before = before} within = record { turns = []; made = refl; rest = refl; count = sym (add-zero before); within = within }

  -- one turn, of the first item
  pub advance_one : {p q : S} {before seat : ℕ} {whole : Bool} (step : Step) → By p (record { seat = seat; step = step }) q → before + 1 ≤ limit →
      AdvancesBy By limit p before (item_for seat whole ∷ []) (cond (is_end whole step) [] (item_for seat whole ∷ [])) q (before + 1)
  advance_one {q = q} {seat = seat} {whole = whole} step turn within =
      record { turns = record { seat = seat; step = step } ∷ []; made = (q, turn, refl); rest = rest_one (item_for seat whole) step; count = refl; within = within }

  -- turns after others
  pub advance_join : {p q r : S} {before mid behind : ℕ} {items left rest : List Item} →
      AdvancesBy By limit p before items left q mid → AdvancesBy By limit q mid left rest r behind → AdvancesBy By limit p before items rest r behind
  advance_join {p} {q} {r} {items = items} {left = left} a b = record {
    turns = a.turns ++ b.turns;
    made = turns_join By p q r a.turns b.turns a.made b.made;
    rest = rest_join a.turns b.turns items left a.rest ∙ b.rest;
    count = let both = length-append a.turns b.turns in omega (arith, a.count, b.count, both);
    within = b.within;
  }

  -- one turn more of an item that goes on, which ends it or leaves it
  pub advance_item : {p q r : S} {before mid behind seat : ℕ} {whole ends : Bool} (step : Step) → AdvancesBy By limit p before (item_for seat whole ∷ []) (item_for seat whole ∷ []) q mid →
      By q (record { seat = seat; step = step }) r → ends ≡ is_end whole step → (behind ≡ mid + 1) × (behind ≤ limit) →
      AdvancesBy By limit p before (item_for seat whole ∷ []) (cond ends [] (item_for seat whole ∷ [])) r behind
  advance_item {q = q} {r = r} step a turn e count = rw (e, count.0) (advance_join a (advance_one {p = q} {q = r} step turn (omega (arith, count.0, count.1))))

  -- items more at the end
  pub advance_more : {p q : S} {before behind : ℕ} {items left : List Item} (more : List Item) → AdvancesBy By limit p before items left q behind → AdvancesBy By limit p before (items ++ more) (left ++ more) q behind
  advance_more {items = items} {left = left} more a = record { turns = a.turns; made = a.made; rest = rest_more a.turns items left more a.rest; count = a.count; within = a.within }

  -- all of the items, and then all of more
  pub advance_both : {p q r : S} {before mid behind : ℕ} {items more : List Item} → AdvancesBy By limit p before items [] q mid → AdvancesBy By limit q mid more [] r behind → AdvancesBy By limit p before (items ++ more) [] r behind
  advance_both {more = more} a b = advance_join (advance_more more a) b

  -- one more item of a word
  pub advance_again : {p q r : S} {before mid behind : ℕ} (k : ℕ) {item : Item} →
      AdvancesBy By limit p before (replicate k item) [] q mid → AdvancesBy By limit q mid (item ∷ []) [] r behind → AdvancesBy By limit p before (replicate (k + 1) item) [] r behind
  advance_again {p} {r = r} {before = before} {behind = behind} k {item} a b = subst (λ items. AdvancesBy By limit p before items [] r behind) (replicate_more k item) (advance_both a b)

  -- one more word of a schedule
  pub advance_word : {p q r : S} {before mid behind : ℕ} (i : ℕ) (schedule : List Turn) (d : Turn) → i < length schedule →
      AdvancesBy By limit p before (items_of (take i schedule)) [] q mid → AdvancesBy By limit q mid (items_of (get_or schedule i d ∷ [])) [] r behind →
      AdvancesBy By limit p before (items_of (take (i + 1) schedule)) [] r behind
  advance_word {p} {r = r} {before = before} {behind = behind} i schedule d within a b =
      let turn = get_or schedule i d in
      let whole : items_of (take (i + 1) schedule) ≡ items_of (take i schedule) ++ items_of (turn ∷ []) =
      ap items_of (take_more schedule i d within) ∙ flat_map-append word_items (take i schedule) (turn ∷ []) in
      subst (λ items. AdvancesBy By limit p before items [] r behind) (sym whole) (advance_both a b)

module _ {C : Type 0} {N : ℕ} {refuses : Bool} {lists : List (List (Call C))} {limit : ℕ} where
  -- ---- where a run stops

  -- at once
  pub stops_now : {p : Progress C N} {before : ℕ} {items : List Item} (fault : Fault) → before ≤ limit → StopsFor limit p before [] items p fault → Halts refuses lists limit p before items p before fault
  unfolding advance_none
  stops_now {p} {before} {items} fault within why = record { left = items; end = p; advances = advance_none within; why = halts_for refuses limit p p before [] items fault why }

  -- where a turn was refused
  pub turn_stops : {old world : Whole C N} {over : List ℕ} {lines : List Line} {before seat : ℕ} {whole : Bool} (fault : Fault) → before ≤ limit → (world ≡ old) × TurnFault old seat fault →
      Halts refuses lists limit (progress old over lines) before (item_for seat whole ∷ []) (progress world over lines) before fault
  turn_stops OutOfMemory within e = rw e.0 (stops_now OutOfMemory within (inl (refl, e.1)))
  turn_stops NoSuchSeat within e = rw e.0 (stops_now NoSuchSeat within (refl, e.1))
  turn_stops other within e = absurd e.1

  -- where a turn was made, and there was no memory to tell it
  pub untold_stops : {p : Progress C N} {before after seat : ℕ} {whole : Bool} {world : Whole C N} {over : List ℕ} {lines : List Line} (step : Step) → TurnOf lists p seat step (progressed p seat step world) → before + 1 ≤ limit →
      IsFinished step × (over ≡ p.over) × (lines ≡ p.lines) → after ≡ before + 1 → Halts refuses lists limit p before (item_for seat whole ∷ []) (progress world over lines) after OutOfMemory
  unfolding advance_one
  untold_stops {p} {seat = seat} {world = world} (Finished reply) turn within e count = rw (e.1, e.2, count) (record {
    left = [];
    end = progressed p seat (Finished reply) world;
    advances = advance_one (Finished reply) turn within;
    why = halts_for refuses limit _ _ _ _ [] OutOfMemory (inr (record { earlier = []; seat = seat; reply = reply; last = refl; untold = refl }));
  })
  untold_stops step turn within e count = absurd e.0

  -- where a turn was made, and its observer refused memory
  pub refused_stops : {p q : Progress C N} {before after seat : ℕ} {whole : Bool} (step : Step) → IsTrue refuses → TurnOf lists p seat step q → before + 1 ≤ limit → after ≡ before + 1 → Halts refuses lists limit p before (item_for seat whole ∷ []) q after OutOfMemory
  refused_stops {q = q} {seat = seat} {whole = whole} step may turn within count = rw (may, count) (record { left = cond (is_end whole step) [] (item_for seat whole ∷ []); end = q; advances = advance_one step turn within; why = inr (refl, refl) })

  -- items more at the end
  pub stops_more : {p q : Progress C N} {before after : ℕ} {items : List Item} (more : List Item) {fault : Fault} → Halts refuses lists limit p before items q after fault → Halts refuses lists limit p before (items ++ more) q after fault
  unfolding advance_more
  stops_more {q = q} {after = after} more {fault} s =
      record { left = s.left ++ more; end = s.end; advances = advance_more more s.advances; why = halts_for_more refuses limit s.end q after s.advances.turns s.left more fault s.why }

  -- turns before
  pub stops_behind : {p q r : Progress C N} {before mid behind : ℕ} {items left : List Item} {fault : Fault} → Advances lists limit p before items left q mid → Halts refuses lists limit q mid left r behind fault → Halts refuses lists limit p before items r behind fault
  unfolding advance_join
  stops_behind {r = r} {behind = behind} {fault = fault} a s =
      record { left = s.left; end = s.end; advances = advance_join a s.advances; why = halts_for_after refuses limit s.end r behind a.turns s.advances.turns s.left fault s.why }

  -- all of the items, and then a stop in more
  pub stops_both : {p q r : Progress C N} {before mid behind : ℕ} {items more : List Item} {fault : Fault} → Advances lists limit p before items [] q mid → Halts refuses lists limit q mid more r behind fault → Halts refuses lists limit p before (items ++ more) r behind fault
  stops_both {more = more} a s = stops_behind (advance_more more a) s

  -- ---- the items of a word

  -- a stop in one of them
  pub stops_again : {p q r : Progress C N} {before mid behind : ℕ} (k n : ℕ) {item : Item} {fault : Fault} → k < n →
      Advances lists limit p before (replicate k item) [] q mid → Halts refuses lists limit q mid (item ∷ []) r behind fault → Halts refuses lists limit p before (replicate n item ++ []) r behind fault
  stops_again {p} {r = r} {before = before} {behind = behind} k n {item} {fault} within a s =
      let rest = n - (k + 1) in
      let one : item ∷ replicate rest item ≡ replicate (1 + rest) item = replicate-append-replicate 1 rest item in
      let count : k + (1 + rest) ≡ n = omega arith in
      let whole : replicate k item ++ (item ∷ [] ++ replicate rest item) ≡ replicate n item ++ [] =
      ap (λ xs. replicate k item ++ xs) one ∙ replicate-append-replicate k (1 + rest) item ∙ ap (λ m. replicate m item) count ∙ sym (append-nil (replicate n item)) in
      subst (λ items. Halts refuses lists limit p before items r behind fault) whole (stops_both a (stops_more (replicate rest item) s))

  -- ---- the words of a schedule

  -- a stop in one of them
  pub stops_word : {p q r : Progress C N} {before mid behind : ℕ} (i : ℕ) (schedule : List Turn) (d : Turn) {fault : Fault} → i < length schedule →
      Advances lists limit p before (items_of (take i schedule)) [] q mid → Halts refuses lists limit q mid (items_of (get_or schedule i d ∷ [])) r behind fault →
      Halts refuses lists limit p before (items_of schedule) r behind fault
  stops_word {p} {r = r} {before = before} {behind = behind} i schedule d {fault} within a s =
      let turn = get_or schedule i d in
      let rest = drop (suc i) schedule in
      let parts : take i schedule ++ (turn ∷ [] ++ rest) ≡ schedule = sym (ap (λ xs. take i schedule ++ xs) (drop-cons schedule i d within)) ∙ take-append-drop i schedule in
      let whole : items_of (take i schedule) ++ (items_of (turn ∷ []) ++ items_of rest) ≡ items_of schedule =
      ap (λ xs. items_of (take i schedule) ++ xs) (sym (flat_map-append word_items (turn ∷ []) rest)) ∙ sym (flat_map-append word_items (take i schedule) (turn ∷ [] ++ rest)) ∙ ap items_of parts in
      subst (λ items. Halts refuses lists limit p before items r behind fault) whole (stops_both a (stops_more (items_of rest) s))
