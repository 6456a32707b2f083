-- Laws of the histories of an environment.
use Rattle.std.proofs.Common.{Bool, List, None, Option, Some, [], ap, arith, cond, eq-eqb, eqb, false, le-leb, leb-true, min, ne_eqb, refl, subst, suc, sym, true, true≢false, zero, ℕ, ⊎_elim, ◌++◌, ◌+◌, ◌<◌, ◌||◌, ◌∙◌, ◌∷◌, ◌≡◌, ◌≢◌, ◌≤◌}
use Rattle.ns_model.proofs.Prelude.{Advance, BeginsWith, EnvEvent, EnvStanding, IsEnvBySeats, IsLegalEnv, IsLegalEnvEvent, IsLegalEnvFrom, IsMade, New, NoteStanding, Notify, ParentFits, Take, but_at, dite, earlier, earliest, env_after, env_from, env_next, env_own, env_who, expiry_in, expiry_of}
use Rattle.ns_model.proofs.Prelude.{filter-append, first_env, from_parent, is_due, is_over, line, line_of, list_any, made_note, notified_in, notified_note, or_cases, or_left, or_right, ℕ_discrete}

-- ---- a history and its parts

pub env_from-append : (now : EnvStanding) (g h : List EnvEvent) → env_from now (g ++ h) ≡ env_from (env_from now g) h
env_from-append now [] h = refl
env_from-append now (e ∷ g) h = env_from-append (env_next now e) g h

pub legal_env_append : (now : EnvStanding) (g h : List EnvEvent) → IsLegalEnvFrom now g → IsLegalEnvFrom (env_from now g) h → IsLegalEnvFrom now (g ++ h)
legal_env_append now [] h p q = q
legal_env_append now (e ∷ g) h p q = (p.0, legal_env_append (env_next now e) g h p.1 q)

pub legal_env_parts : (now : EnvStanding) (g h : List EnvEvent) → IsLegalEnvFrom now (g ++ h) → IsLegalEnvFrom now g × IsLegalEnvFrom (env_from now g) h
legal_env_parts now [] h p = (tt, p)
legal_env_parts now (e ∷ g) h p = let rest = legal_env_parts (env_next now e) g h p.1 in ((p.0, rest.0), rest.1)

pub by_seats_append : (seats : ℕ) (g h : List EnvEvent) → IsEnvBySeats seats g → IsEnvBySeats seats h → IsEnvBySeats seats (g ++ h)
by_seats_append seats [] h p q = q
by_seats_append seats (e ∷ g) h p q = (p.0, by_seats_append seats g h p.1 q)

pub env_own-append : (g h : List EnvEvent) (seat : ℕ) → env_own (g ++ h) seat ≡ env_own g seat ++ env_own h seat
env_own-append g h seat = filter-append (λ event. eqb (env_who event) seat) g h

-- ---- what is changed at one number

pub but_cases : {A : Type 0} (P : A → Type 0) (n m : ℕ) (value : A) (others : ℕ → A) → (m ≡ n → P value) → (m ≢ n → P (others m)) → P (but_at n value others m)
but_cases P n m value others here there = dite (ℕ_discrete m n)
    (λ e. subst (λ (b : Bool). P (cond b value (others m))) (sym (eq-eqb m n e)) (here e))
    (λ ne. subst (λ (b : Bool). P (cond b value (others m))) (sym (ne_eqb m n ne)) (there ne))

pub but-here : {A : Type 0} (n : ℕ) (value : A) (others : ℕ → A) → but_at n value others n ≡ value
but-here n value others = but_cases (λ z. z ≡ value) n n value others (λ _. refl) (λ ne. absurd (ne refl))

pub but-there : {A : Type 0} (n m : ℕ) (value : A) (others : ℕ → A) → m ≢ n → but_at n value others m ≡ others m
but-there n m value others ne = but_cases (λ z. z ≡ others m) n m value others (λ e. absurd (ne e)) (λ _. refl)

-- ---- what holds after a legal history

pub record IsSound (now : EnvStanding) : Type 0 where
  pub few : now.takes ≤ 64
  pub taken : (n w : ℕ) → now.takers n ≡ Some w → n < now.takes
  pub made : (n : ℕ) → (now.notes n).made ≡ true → n < now.takes
  pub above : (n p : ℕ) → (now.notes n).parent ≡ Some p → (p < n) × ((now.notes p).made ≡ true)

first_sound : IsSound first_env
first_sound = record { few = omega arith; taken = λ n w e. absurd (cc); made = λ n e. absurd (cc); above = λ n p e. absurd (cc) }

parent_fits : (now : EnvStanding) (n p : ℕ) (parent : Option ℕ) → ParentFits now n parent → parent ≡ Some p → (p < n) × ((now.notes p).made ≡ true)
parent_fits now n p None f e = absurd (cc)
parent_fits now n p (Some q) f e = let is : q ≡ p = cc in subst (λ (k : ℕ). (k < n) × ((now.notes k).made ≡ true)) is f

-- a note is made, or notified, whose number is taken and whose parent stands below it
sound_note : (now : EnvStanding) (note : ℕ) (value : NoteStanding) → IsSound now → note < now.takes → value.made ≡ true → ((p : ℕ) → value.parent ≡ Some p → (p < note) × ((now.notes p).made ≡ true)) →
    IsSound (record { clock = now.clock; takes = now.takes; takers = now.takers; notes = but_at note value now.notes })
sound_note now note value s low made parent = record {
  few = s.few;
  taken = s.taken;
  made = λ n. but_cases (λ (z : NoteStanding). z.made ≡ true → n < now.takes) note n value now.notes (λ here _. omega arith) (λ _ e. s.made n e);
  above = λ n p. but_cases (λ (z : NoteStanding). z.parent ≡ Some p → (p < n) × ((but_at note value now.notes p).made ≡ true)) note n value now.notes
      (λ here e. let f = parent p e in let lt = f.0 in (omega arith, still p f.1)) (λ _ e. let f = s.above n p e in (f.0, still p f.1));
} where
  still : (p : ℕ) → (now.notes p).made ≡ true → (but_at note value now.notes p).made ≡ true
  still p was = but_cases (λ (z : NoteStanding). z.made ≡ true) note p value now.notes (λ _. made) (λ _. was)

sound_next : (now : EnvStanding) (e : EnvEvent) → IsSound now → IsLegalEnvEvent now e → IsSound (env_next now e)
sound_next now (Take who note) s l = let is = l.0 in let below = l.1 in record {
  few = omega arith;
  taken = λ n w. but_cases (λ (z : Option ℕ). z ≡ Some w → n < now.takes + 1) note n (Some who) now.takers (λ here _. omega arith) (λ _ e. let k = s.taken n w e in omega arith);
  made = λ n e. let k = s.made n e in omega arith;
  above = s.above;
}
sound_next now (New who note parent deadline) s l = sound_note now note (made_note parent deadline) s (s.taken note who l.0) refl (λ p. parent_fits now note p parent l.2)
sound_next now (Notify who note) s l = sound_note now note (notified_note (now.notes note)) s (s.made note l) l (s.above note)
sound_next now (Advance who to) s l = record { few = s.few; taken = s.taken; made = s.made; above = s.above }

pub sound_from : (now : EnvStanding) (h : List EnvEvent) → IsSound now → IsLegalEnvFrom now h → IsSound (env_from now h)
sound_from now [] s l = s
sound_from now (e ∷ h) s l = sound_from (env_next now e) h (sound_next now e s l.0) l.1

pub sound_after : (h : List EnvEvent) → IsLegalEnv h → IsSound (env_after h)
sound_after h l = sound_from first_env h first_sound l

-- ---- what only grows

pub record NoteGrown (old new : NoteStanding) : Type 0 where
  pub made : new.made ≡ true
  pub parent : new.parent ≡ old.parent
  pub deadline : new.deadline ≡ old.deadline
  pub called : old.called ≡ true → new.called ≡ true

pub record IsGrown (old new : EnvStanding) : Type 0 where
  pub clock : old.clock ≤ new.clock
  pub takes : old.takes ≤ new.takes
  pub note : (n : ℕ) → (old.notes n).made ≡ true → NoteGrown (old.notes n) (new.notes n)

note_same : (note : NoteStanding) → note.made ≡ true → NoteGrown note note
note_same note e = record { made = e; parent = refl; deadline = refl; called = λ h. h }

pub grown_itself : (now : EnvStanding) → IsGrown now now
grown_itself now = record { clock = omega arith; takes = omega arith; note = λ n e. note_same (now.notes n) e }

pub grown_through : (a b c : EnvStanding) → IsGrown a b → IsGrown b c → IsGrown a c
grown_through a b c f g = record {
  clock = let x = f.clock in let y = g.clock in omega arith;
  takes = let x = f.takes in let y = g.takes in omega arith;
  note = λ n e. let x = f.note n e in let y = g.note n x.made in record { made = y.made; parent = y.parent ∙ x.parent; deadline = y.deadline ∙ x.deadline; called = λ h. y.called (x.called h) };
}

-- a note is made that wasn't, or is notified
grown_note : (now : EnvStanding) (note : ℕ) (value : NoteStanding) → ((now.notes note).made ≡ true → NoteGrown (now.notes note) value) →
    IsGrown now (record { clock = now.clock; takes = now.takes; takers = now.takers; notes = but_at note value now.notes })
grown_note now note value grows = record {
  clock = omega arith;
  takes = omega arith;
  note = λ n e. but_cases (λ (z : NoteStanding). NoteGrown (now.notes n) z) note n value now.notes
      (λ here. subst (λ (k : ℕ). (now.notes k).made ≡ true → NoteGrown (now.notes k) value) (sym here) grows e) (λ _. note_same (now.notes n) e);
}

grown_next : (now : EnvStanding) (e : EnvEvent) → IsLegalEnvEvent now e → IsGrown now (env_next now e)
grown_next now (Take who note) l = record { clock = omega arith; takes = omega arith; note = λ n e. note_same (now.notes n) e }
grown_next now (New who note parent deadline) l = grown_note now note (made_note parent deadline) (λ e. absurd (true≢false (sym e ∙ l.1)))
grown_next now (Notify who note) l = grown_note now note (notified_note (now.notes note)) (λ e. record { made = e; parent = refl; deadline = refl; called = λ _. refl })
grown_next now (Advance who to) l = record { clock = omega arith; takes = omega arith; note = λ n e. note_same (now.notes n) e }

pub grown_from : (now : EnvStanding) (h : List EnvEvent) → IsLegalEnvFrom now h → IsGrown now (env_from now h)
grown_from now [] l = grown_itself now
grown_from now (e ∷ h) l = grown_through now (env_next now e) (env_from (env_next now e) h) (grown_next now e l.0) (grown_from (env_next now e) h l.1)

-- a history that begins with another has what the other has
pub grown_begins : (h g : List EnvEvent) → IsLegalEnv h → BeginsWith h g → IsGrown (env_after g) (env_after h)
grown_begins h g l b = let parts = legal_env_parts first_env g b.0 (subst IsLegalEnv b.1 l) in
    subst (λ (s : EnvStanding). IsGrown (env_after g) s) (sym (ap env_after b.1 ∙ env_from-append first_env g b.0)) (grown_from (env_after g) b.0 parts.1)

pub legal_begins : (h g : List EnvEvent) → IsLegalEnv h → BeginsWith h g → IsLegalEnv g
legal_begins h g l b = (legal_env_parts first_env g b.0 (subst IsLegalEnv b.1 l)).0

-- ---- the line up to the root

-- what is so of the lines of a parent, if there is one, and of no line, is so of both
by_parent : (P : List ℕ → List ℕ → Type 0) (f g : ℕ → List ℕ) (o : Option ℕ) → P [] [] → ((p : ℕ) → o ≡ Some p → P (f p) (g p)) → P (from_parent f o) (from_parent g o)
by_parent P f g None none some = none
by_parent P f g (Some p) none some = some p refl

-- there are no more ancestors than the number says
line_enough : (notes : ℕ → NoteStanding) → ((n p : ℕ) → (notes n).parent ≡ Some p → p < n) → (k j n : ℕ) → n < k → n < j → line k notes n ≡ line j notes n
line_enough notes above zero j n h i = absurd (omega arith)
line_enough notes above (suc k) zero n h i = absurd (omega arith)
line_enough notes above (suc k) (suc j) n h i = ap (λ (r : List ℕ). n ∷ r) (by_parent (λ l m. l ≡ m) (line k notes) (line j notes) (notes n).parent refl (λ p e. let lt = above n p e in line_enough notes above k j p (omega arith) (omega arith)))

-- it goes on as the line of its parent, if it has one
line-next : (now : EnvStanding) (n : ℕ) (parent : Option ℕ) → IsSound now → (now.notes n).parent ≡ parent → line_of now n ≡ n ∷ from_parent (line_of now) parent
line-next now n parent s e = ap (λ (r : List ℕ). n ∷ r) (by_parent (λ l m. l ≡ m) (line n now.notes) (line_of now) (now.notes n).parent refl
    (λ p is. let lt = (s.above n p is).0 in line_enough now.notes (λ m q up. (s.above m q up).0) n (suc p) p lt (omega arith)) ∙ ap (from_parent (line_of now)) e)

-- so it is notified if it is over or its parent is, and its expiry is the earlier of its own deadline and that of its parent
pub notified_in-next : (now : EnvStanding) (n : ℕ) (parent : Option ℕ) → IsSound now → (now.notes n).parent ≡ parent → notified_in now n ≡ (is_over now.clock (now.notes n) || list_any (λ m. is_over now.clock (now.notes m)) (from_parent (line_of now) parent))
notified_in-next now n parent s e = ap (λ (l : List ℕ). list_any (λ m. is_over now.clock (now.notes m)) l) (line-next now n parent s e)

pub expiry_in-next : (now : EnvStanding) (n : ℕ) (parent : Option ℕ) → IsSound now → (now.notes n).parent ≡ parent → expiry_in now n ≡ earlier (now.notes n).deadline (earliest now.notes (from_parent (line_of now) parent))
expiry_in-next now n parent s e = ap (earliest now.notes) (line-next now n parent s e)

pub earlier-none : (a : Option ℕ) → earlier a None ≡ a
earlier-none None = refl
earlier-none (Some d) = refl

pub earlier_assoc : (a b c : Option ℕ) → earlier (earlier a b) c ≡ earlier a (earlier b c)
earlier_assoc None b c = refl
earlier_assoc (Some d) None c = refl
earlier_assoc (Some d) (Some e) None = refl
earlier_assoc (Some d) (Some e) (Some f) = ap Some (let same : min (min d e) f ≡ min d (min e f) = omega arith in same)

-- ---- once notified, for good; and what was seen made keeps its line

pub due_grown : (c d : ℕ) (deadline : Option ℕ) → c ≤ d → is_due c deadline ≡ true → is_due d deadline ≡ true
due_grown c d None h e = e
due_grown c d (Some t) h e = let k = leb-true t c e in le-leb t d (omega arith)

pub over_grown : (c d : ℕ) (old new : NoteStanding) → c ≤ d → NoteGrown old new → is_over c old ≡ true → is_over d new ≡ true
over_grown c d old new h g e = ⊎_elim
    (λ (t : old.called ≡ true). or_left new.called (is_due d new.deadline) (g.called t))
    (λ (t : is_due c old.deadline ≡ true). or_right new.called (is_due d new.deadline) (ap (is_due d) g.deadline ∙ due_grown c d old.deadline h t))
    (or_cases old.called (is_due c old.deadline) e)

module _ (old new : EnvStanding) (s : IsSound old) (g : IsGrown old new) where
  abbrev AnyGrows : List ℕ → List ℕ → Type 0
  AnyGrows l m = list_any (λ n. is_over old.clock (old.notes n)) l ≡ true → list_any (λ n. is_over new.clock (new.notes n)) m ≡ true

  any_grown : (k n : ℕ) → (old.notes n).made ≡ true → AnyGrows (line k old.notes n) (line k new.notes n)
  any_grown zero n made e = absurd (cc)
  any_grown (suc k) n made e = let grown = g.note n made in let test = λ (m : ℕ). is_over new.clock (new.notes m) in
      let above : Bool = list_any (λ m. is_over new.clock (new.notes m)) (from_parent (line k new.notes) (new.notes n).parent) in ⊎_elim
      (λ (t : is_over old.clock (old.notes n) ≡ true). or_left (is_over new.clock (new.notes n)) above (over_grown old.clock new.clock (old.notes n) (new.notes n) g.clock grown t))
      (λ (t : list_any (λ m. is_over old.clock (old.notes m)) (from_parent (line k old.notes) (old.notes n).parent) ≡ true). or_right (is_over new.clock (new.notes n)) above
      (ap (λ (o : Option ℕ). list_any (λ m. is_over new.clock (new.notes m)) (from_parent (line k new.notes) o)) grown.parent
      ∙ by_parent AnyGrows (line k old.notes) (line k new.notes) (old.notes n).parent (λ none. none) (λ p is. any_grown k p (s.above n p is).1) t))
      (or_cases (is_over old.clock (old.notes n)) (list_any (λ m. is_over old.clock (old.notes m)) (from_parent (line k old.notes) (old.notes n).parent)) e)

  earliest_grown : (k n : ℕ) → (old.notes n).made ≡ true → earliest new.notes (line k new.notes n) ≡ earliest old.notes (line k old.notes n)
  earliest_grown zero n made = refl
  earliest_grown (suc k) n made = let grown = g.note n made in
      (λ i. earlier (grown.deadline i) (earliest new.notes (from_parent (line k new.notes) (grown.parent i))))
      ∙ ap (earlier (old.notes n).deadline) (by_parent (λ l m. earliest new.notes l ≡ earliest old.notes m) (line k new.notes) (line k old.notes) (old.notes n).parent refl (λ p is. earliest_grown k p (s.above n p is).1))

  pub expiry_grown : (n : ℕ) → (old.notes n).made ≡ true → expiry_in new n ≡ expiry_in old n
  expiry_grown n made = earliest_grown (suc n) n made

-- ---- the same of histories

pub made_begins : (h g : List EnvEvent) (n : ℕ) → IsLegalEnv h → BeginsWith h g → IsMade g n → IsMade h n
made_begins h g n l b made = ((grown_begins h g l b).note n made).made

pub expiry_begins : (h g : List EnvEvent) (n : ℕ) → IsLegalEnv h → BeginsWith h g → IsMade g n → expiry_of h n ≡ expiry_of g n
unfolding expiry_of
expiry_begins h g n l b made = expiry_grown (env_after g) (env_after h) (sound_after g (legal_begins h g l b)) (grown_begins h g l b) n made

pub made_below : (h : List EnvEvent) (n : ℕ) → IsLegalEnv h → IsMade h n → n < 64
made_below h n l made = let s = sound_after h l in let few = s.few in let below = s.made n made in omega arith
