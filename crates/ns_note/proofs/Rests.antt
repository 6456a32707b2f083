-- A seat after a step.
use Rattle.std.proofs.Common.{IfSome, List, None, Option, Some, [], ap, append-nil, append_assoc, arith, cond, false, nat_lt, option_map, refl, subst, sym, true, ℕ, ◌++◌, ◌<◌, ◌∙◌, ◌∷◌, ◌≡◌, ◌≤◌}
use Rattle.ns_note.proofs.Prelude.{Adding, Adds, EnvAct, EnvEvent, EnvKnown, EnvStanding, EnvView, FoundFull, FoundWord, Grows, HasTakenNumber, IsAtRest, IsClockWord, IsEnvBySeats, IsLegalEnv, IsMade, IsNumberOf, IsOne, LoadClock, LoadNext, Me, New, Note, NoteStanding, NoteWord, Nothing}
use Rattle.ns_note.proofs.Prelude.{ParentFits, StoreNote, TableId, Take, TakeNext, Taken, after_one, begins_through, but-here, clock_of, env_after, events_of, grown_begins, known_of, made_begins, made_note, nat_tests, note_of, sound_after, takes_in, the}

-- ---- what a step tells

module _ (act : EnvAct) (word : ℕ) (v w : EnvView) (found : FoundWord act word v w) where
  -- what its caller knows has grown by what has happened by it
  pub adds_by : Adds (events_of act found.plain v) v w
  adds_by = let a = found.acted in record {
    grows = λ env. record {
      env = refl;
      seat_count = a.seat_count;
      seat = a.seat;
      begins = begins_through w.seen a.point v.seen (events_of act found.plain v, a.seen) a.since;
      true_to = record { legal = a.legal; by_seats = subst (λ (n : ℕ). IsEnvBySeats n w.seen) (sym a.seat_count) a.by_seats; own = a.own };
    };
    mine = a.mine;
  }

  -- where nothing has happened by it, all is as its caller has seen it
  seen_is : events_of act found.plain v ≡ [] → w.seen ≡ found.acted.point
  seen_is none = found.acted.seen ∙ (ap (λ es. found.acted.point ++ es) none ∙ append-nil found.acted.point)

  pub quiet_adds : events_of act found.plain v ≡ [] → Adds [] v w
  quiet_adds none = subst (λ es. Adds es v w) none adds_by

-- the clock was loaded
pub clock_loaded : (word : ℕ) (v w : EnvView) → FoundWord LoadClock word v w → IsClockWord word (clock_of w.seen)
clock_loaded word v w found = subst (IsClockWord word) (found.acted.meets.clock ∙ ap clock_of (sym (seen_is LoadClock word v w found refl))) found.word_is

-- ---- a number is taken

low_is : (n : ℕ) → n < 64 → nat_lt n 64 ≡ true
low_is n low = grind (arith, nat_tests)

high_is : (n : ℕ) → 64 ≤ n → nat_lt n 64 ≡ false
high_is n high = grind (arith, nat_tests)

module _ (word : ℕ) (v w : EnvView) where
  -- with a number left, its caller goes to take one,
  pub next_left : FoundWord LoadNext word v w → word < 64 → w.making ≡ Adding
  next_left found low = let is : word ≡ found.plain.next = found.word_is in found.acted.making ∙ ap (λ b. cond b Adding Nothing) (low_is found.plain.next (omega (arith, low, is)))

  taken_left : FoundWord TakeNext word v w → word < 64 → HasTakenNumber word v w
  taken_left found low =
      let is : word ≡ found.plain.next = found.word_is in let b = low_is found.plain.next (omega (arith, low, is)) in let takes = found.acted.meets.takes in
      let grown = (grown_begins found.acted.point v.seen found.acted.meets.legal found.acted.since).takes in (
        low,
        subst (λ es. Adds es v w) (ap (λ b. cond b (Take v.seat found.plain.next ∷ []) []) b ∙ ap (λ n. Take v.seat n ∷ []) (sym is)) (adds_by TakeNext word v w found),
        found.acted.making ∙ (ap (λ b. cond b (Taken found.plain.next) Nothing) b ∙ ap Taken (sym is)),
        omega (arith, grown, takes, is),
      )

  taken_full : FoundWord TakeNext word v w → 64 ≤ word → FoundFull v w
  taken_full found high =
      let is : word ≡ found.plain.next = found.word_is in let b = high_is found.plain.next (omega (arith, high, is)) in let takes = found.acted.meets.takes in
      let none = ap (λ b. cond b (Take v.seat found.plain.next ∷ []) []) b in let seen = ap takes_in (seen_is TakeNext word v w found none) in
      (quiet_adds TakeNext word v w found none, found.acted.making ∙ ap (λ b. cond b (Taken found.plain.next) Nothing) b, omega (arith, high, is, takes, seen))

-- ---- one after another

-- no table in particular: what a step tells is the same for any
pub nowhere : TableId
nowhere = record { words = 0; slots = 0; views_name = 0; atom = 0; block = 0; offset = 0; slot_names = [] }

-- the seat is at rest again, and has its number still
pub rests : {S : Type 0} (env : TableId) (number : ℕ) (es : List EnvEvent) (me now : Me S (List EnvView)) → me.1 ≡ [] → IsNumberOf number me → IsOne now.0 → now.1 ≡ me.1 → (the now.0).making ≡ Nothing → Adds es (the me.0) (the now.0) → IsAtRest env now × IsNumberOf number now
rests env number es me now empty its one same idle a = (record { one = one; empty = same ∙ empty; idle = idle; true_to = (a.grows env).true_to }, (its.0 ∙ sym (a.grows nowhere).seat, its.1))

-- what its caller knows has grown
pub grew : (k : EnvKnown) (env env' : TableId) (es : List EnvEvent) (v w : EnvView) → known_of env v ≡ k → env' ≡ env → Adds es v w → Grows k (known_of env' w)
grew k env env' es v w is same a = subst (λ (z : EnvKnown × TableId). Grows z.0 (known_of z.1 w)) (λ i. (is i, sym same i)) (a.grows env)

-- and its own events are those and what has happened by it
pub mine_grew : (k : EnvKnown) (env : TableId) (es : List EnvEvent) (v w : EnvView) → known_of env v ≡ k → Adds es v w → w.mine ≡ k.mine ++ es
mine_grew k env es v w is a = subst (λ (z : EnvKnown). w.mine ≡ z.mine ++ es) is a.mine

pub mine_stays : (k : EnvKnown) (env : TableId) (v w : EnvView) → known_of env v ≡ k → Adds [] v w → w.mine ≡ k.mine
mine_stays k env v w is a = mine_grew k env [] v w is a ∙ append-nil k.mine

pub grows_through : (a b c : EnvKnown) → Grows a b → Grows b c → Grows a c
grows_through a b c f g = record { env = g.env ∙ f.env; seat_count = g.seat_count ∙ f.seat_count; seat = g.seat ∙ f.seat; begins = begins_through c.seen b.seen a.seen g.begins f.begins; true_to = g.true_to }

-- two steps
pub adds_through : (es fs : List EnvEvent) (u v w : EnvView) → Adds es u v → Adds fs v w → Adds (es ++ fs) u w
adds_through es fs u v w a b = record {
  grows = λ env. grows_through (known_of env u) (known_of env v) (known_of env w) (a.grows env) (b.grows env);
  mine = b.mine ∙ (ap (λ (l : List EnvEvent). l ++ fs) a.mine ∙ append_assoc u.mine es fs);
}

-- the next number was loaded, and then one was taken
pub has_taken : (loaded number : ℕ) (v u w : EnvView) → FoundWord LoadNext loaded v u → number < 64 → FoundWord TakeNext number u w → HasTakenNumber number v w
has_taken loaded number v u w first below second =
    let a = quiet_adds LoadNext loaded v u first refl in let t = taken_left number u w second below in let g = a.grows nowhere in let seat : u.seat ≡ v.seat = g.seat in
    let grown = (grown_begins u.seen v.seen g.true_to.legal g.begins).takes in let least = t.3 in
    (below, subst (λ (k : ℕ). Adds (Take k number ∷ []) v w) seat (adds_through [] (Take u.seat number ∷ []) v u w a t.1), t.2, omega (arith, grown, least))

pub found_full : (loaded number : ℕ) (v u w : EnvView) → FoundWord LoadNext loaded v u → 64 ≤ number → FoundWord TakeNext number u w → FoundFull v w
found_full loaded number v u w first most second = let t = taken_full number u w second most in (adds_through [] [] v u w (quiet_adds LoadNext loaded v u first refl) t.0, t.1, t.2)

-- ---- a note is made

pub note_made : (note word : ℕ) (parent deadline : Option ℕ) (v w : EnvView) → FoundWord (StoreNote note parent deadline) word v w → IsMade w.seen note
note_made note word parent deadline v w found =
    let a = found.acted in
    ap (λ (h : List EnvEvent). ((env_after h).notes note).made) a.seen ∙ (ap (λ (s : EnvStanding). (s.notes note).made) (after_one a.point (New v.seat note parent deadline)) ∙ ap (λ (s : NoteStanding). s.made) (but-here note (made_note parent deadline) (env_after a.point).notes))

-- a number is taken, and then its note is made
pub adds_note : (number place : ℕ) (word : ℕ) (note : NoteWord) (v u w : EnvView) → Adds (Take v.seat number ∷ []) v u → Adds (New u.seat place (note_of word).parent (note_of word).deadline ∷ []) u w → place ≡ number → note_of word ≡ note
    → Adds (Take v.seat number ∷ New v.seat number note.parent note.deadline ∷ []) v w
adds_note number place word note v u w a b is told = let seat : u.seat ≡ v.seat = (a.grows nowhere).seat in
    adds_through (Take v.seat number ∷ []) (New v.seat number note.parent note.deadline ∷ []) v u w a (subst (λ (z : ℕ × ℕ × NoteWord). Adds (New z.0 z.1 z.2.parent z.2.deadline ∷ []) u w) (λ i. (seat i, is i, told i)) b)

-- the numbers of notes have room in a word
pub numbers_fit : (o : Option Note) → IfSome (option_map (λ n. n.index) o) (λ p. p < 64)
numbers_fit None = tt
numbers_fit (Some n) = n.in_range

-- a parent that was seen made has a smaller number than one that is taken later
pub parent_above : (o : Option Note) (number : ℕ) (v w : EnvView) → HasTakenNumber number v w → IsLegalEnv v.seen → IfSome o (λ p. IsMade v.seen p.index) → ParentFits (env_after w.seen) number (option_map (λ n. n.index) o)
parent_above None number v w t l made = tt
parent_above (Some n) number v w t l made = let g = t.1.grows nowhere in let below = (sound_after v.seen l).made n.index made in let least = t.3 in (omega (arith, below, least), made_begins w.seen v.seen n.index g.true_to.legal g.begins made)

-- ---- what callers know stays known

-- a note that a seat has seen made, it has seen made later too
pub made_grows : (old new : EnvKnown) (note : ℕ) → Grows old new → IsMade old.seen note → IsMade new.seen note
made_grows old new note g made = made_begins new.seen old.seen note g.true_to.legal g.begins made
