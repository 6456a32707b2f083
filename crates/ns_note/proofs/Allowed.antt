-- The steps, as the table asks for them.
use Rattle.std.proofs.Common.{List, Option, [], ap, arith, bit_or, eq-eqb, max, refl, set, slice_index, subst, sym, ℕ, ◌%◌, ◌++◌, ◌+◌, ◌-◌, ◌<◌, ◌^◌, ◌∙◌, ◌∷◌, ◌≡◌, ◌≢◌, ◌≤◌}
use Rattle.ns_note.proofs.Prelude.{Adding, Allows, CanAct, EnvAct, EnvEvent, EnvPlain, EnvView, Every, FoundWord, Holds, IsLawful, IsMade, IsNoteWord, IsOne, IsRuled, IsWordAt, LoadClock, LoadNext, LoadNote, Me, MoveClock, NoteStanding, Nothing, NotifyNote, OneActs, OneMakes, Others, ParentFits}
use Rattle.ns_note.proofs.Prelude.{StoreNote, TakeNext, Taken, ViewFits, Views, WordFits, acted, acted_fits, acted_lawful, adds, adds_most, but-here, env_after, events_of, every_at, every_put, get_elem?, has_acted, is_adding, is_seat, keeps, made_note, note_of, note_stored, notified_note, one_if}
use Rattle.ns_note.proofs.Prelude.{others_both, others_fit, others_map, others_none, others_of, outcome, set_again, some, state_of, tally, the, total, total_most, total_none, total_set, word_at, word_of}
use Rattle.ns_note.proofs.Codec.{note_of-word_of, marked}
use Rattle.ns_note.proofs.Words.{bell_set, word_found, word_set}

seat_one : (seat : ℕ) (v : EnvView) → v.seat ≡ seat → is_seat seat v ≡ 1
seat_one seat v is = ap one_if (eq-eqb v.seat seat is)

apart_of : (seat : ℕ) (u : EnvView) → is_seat seat u ≡ 0 → u.seat ≢ seat
apart_of seat u none is = let one = seat_one seat u is in omega (arith, none, one)

-- whatever the step finds, the function makes of its word that of what the step leaves
abbrev pub Becomes : ℕ → EnvAct → (ℕ → ℕ) → Type 0
Becomes seat act f = (plain : EnvPlain) (word : ℕ) → plain.next < 128 → IsWordAt act plain word → IsWordAt act (outcome seat act plain).plain (f word)

module _ (seat_count : ℕ) (words : List ℕ) (views : Views) (h : List EnvEvent) (rule : IsRuled seat_count words views h) (id : ℕ) (v : EnvView) (at : get_elem? views id ≡ some (v ∷ [])) (act : EnvAct) (can : CanAct (env_after v.seen) v.making act) (low : word_at act < 66) where
  its_fit : ViewFits seat_count h v
  its_fit = (every_at (Every (ViewFits seat_count h)) views id (v ∷ []) rule.each at).0

  -- how many of the others go to take a number
  abbrev others_adding : ℕ
  others_adding = tally is_adding (set views id [])

  few : others_adding < seat_count
  few = let all = total_set (total (λ (u : EnvView). 1)) views id (v ∷ []) [] at in let seats = rule.seats in
      let most : tally is_adding (set views id []) ≤ tally (λ _. 1) (set views id []) = total_most (total is_adding) (total (λ (u : EnvView). 1)) (λ us. total_most is_adding (λ _. 1) (λ u. adds_most u.making) us) (set views id []) in
      omega (arith, all, seats, most)

  law : IsLawful seat_count rule.plain (others_adding + adds v.making) h
  law = let all = total_set (total is_adding) views id (v ∷ []) [] at in subst (λ n. IsLawful seat_count rule.plain n h) (omega (arith, all)) rule.lawful

  abbrev now : List EnvEvent
  now = h ++ events_of act rule.plain v

  -- no other seat has its number
  others_apart : Others (Every (λ u. is_seat v.seat u ≡ 0)) id views
  others_apart = let o = seat_one v.seat v refl in let m = rule.once v.seat in
      others_map (λ us. total (is_seat v.seat) us ≡ 0) (Every (λ u. is_seat v.seat u ≡ 0)) (λ us e. total_none (is_seat v.seat) us e) views id (others_none (total (is_seat v.seat)) views id (v ∷ []) at (omega (arith, o, m)))

  others : Others (Every (ViewFits seat_count now)) id views
  others = others_both (Every (ViewFits seat_count h)) (Every (λ u. is_seat v.seat u ≡ 0)) (Every (ViewFits seat_count now)) (λ us f z. each us f z) views id (others_of (Every (ViewFits seat_count h)) views id rule.each) others_apart
    where
      each : (us : List EnvView) → Every (ViewFits seat_count h) us → Every (λ u. is_seat v.seat u ≡ 0) us → Every (ViewFits seat_count now) us
      each [] f z = tt
      each (u ∷ us) f z = (others_fit seat_count others_adding rule.plain h v few law its_fit act can u (apart_of v.seat u z.0) f.0, each us f.1 z.1)

  abbrev told : EnvView
  told = acted act rule.plain h v

  -- the rule after the step
  keep : (f : ℕ → ℕ) → Becomes v.seat act f → IsRuled seat_count (set words (word_at act) (f (slice_index words (word_at act)))) (set views id (told ∷ [])) now
  keep f becomes = record {
    plain = (outcome v.seat act rule.plain).plain;
    words_are = let room = law.room in let most = rule.few in
        word_set rule.plain words rule.words_are v.seat act (f (slice_index words (word_at act))) low (becomes rule.plain (slice_index words (word_at act)) (omega (arith, room, most)) (word_found rule.plain words rule.words_are act low));
    lawful = let none = total_set (total is_adding) views id (v ∷ []) [] at in let one = total_set (total is_adding) views id (v ∷ []) (told ∷ []) at in
        subst (λ n. IsLawful seat_count (outcome v.seat act rule.plain).plain n now) (omega (arith, none, one)) (acted_lawful seat_count others_adding rule.plain h v few law its_fit act can);
    few = rule.few;
    seats = let s = total_set (total (λ (u : EnvView). 1)) views id (v ∷ []) (told ∷ []) at in let was = rule.seats in omega (arith, s, was);
    once = λ x. let s = total_set (total (is_seat x)) views id (v ∷ []) (told ∷ []) at in let was = rule.once x in omega (arith, s, was);
    each = every_put (Every (ViewFits seat_count now)) views id (told ∷ []) others (acted_fits seat_count others_adding rule.plain h v few law its_fit act can, tt);
  }

  tells : FoundWord act (slice_index words (word_at act)) v told
  tells = record { plain = rule.plain; word_is = word_found rule.plain words rule.words_are act low; acted = has_acted seat_count others_adding rule.plain h v few law its_fit act can }

-- the rule after a bell is rung or set back
bell_ruled : (seat_count : ℕ) (words : List ℕ) (views : Views) (h : List EnvEvent) (seat bell : ℕ) → IsRuled seat_count words views h → seat < 64 → bell ≤ 1 → IsRuled seat_count (set words (seat + 66) bell) views h
bell_ruled seat_count words views h seat bell rule low most = record {
  plain = rule.plain;
  words_are = bell_set rule.plain words rule.words_are seat bell low most;
  lawful = rule.lawful;
  few = rule.few;
  seats = rule.seats;
  once = rule.once;
  each = rule.each;
}

-- the words of the notes come after two others
pub back : (n : ℕ) → (n + 2) - 2 ≡ n
back n = omega arith

module _ (S : Type 0) (seat_count slots id : ℕ) (me : Me S (List EnvView)) where
  -- A seat that stands for itself alone may make any step that it can.
  pub allows : (act : EnvAct) (f : ℕ → ℕ) → word_at act < 66 → IsOne me.0 → CanAct (env_after (the me.0).seen) (the me.0).making act → Becomes (the me.0).seat act f → Allows (Holds seat_count) slots id me (word_at act) f (λ found now. OneActs act found me now)
  allows act f low one can becomes s holds _ at _ = let r = by me.0 one can becomes at in (r.0, keeps, tt, r.1, r.2) where
    by : (vs : List EnvView) → IsOne vs → CanAct (env_after (the vs).seen) (the vs).making act → Becomes (the vs).seat act f → get_elem? s.views id ≡ some vs
        → (w : List EnvView) × ((h : List EnvEvent) × IsRuled seat_count (set s.words (word_at act) (f (slice_index s.words (word_at act)))) (set s.views id w) h) × OneActs {S = S} act (slice_index s.words (word_at act)) (vs, me.1) (w, me.1)
    by [] one can becomes at = absurd one
    by (v ∷ u ∷ us) one can becomes at = absurd one
    by (v ∷ []) one can becomes at = let rule = holds.1 in (
      told seat_count s.words s.views holds.0 rule id v at act can low ∷ [],
      (holds.0 ++ events_of act rule.plain v, keep seat_count s.words s.views holds.0 rule id v at act can low f becomes),
      (tt, refl, tells seat_count s.words s.views holds.0 rule id v at act can low),
    )

  pub loads_clock : IsOne me.0 → Allows (Holds seat_count) slots id me 0 (λ n. n) (λ found now. OneActs LoadClock found me now)
  loads_clock one = allows LoadClock (λ n. n) (omega arith) one tt (λ plain word few is. is)

  pub loads_next : IsOne me.0 → (the me.0).making ≡ Nothing → Allows (Holds seat_count) slots id me 1 (λ n. n) (λ found now. OneActs LoadNext found me now)
  loads_next one idle = allows LoadNext (λ n. n) (omega arith) one idle (λ plain word few is. is)

  pub adds_one : IsOne me.0 → (the me.0).making ≡ Adding → Allows (Holds seat_count) slots id me 1 (λ n. (n + 1) % 2 ^ 64) (λ found now. OneActs TakeNext found me now)
  adds_one one goes = allows TakeNext (λ n. (n + 1) % 2 ^ 64) (omega arith) one goes (λ plain word few is. wraps_not word plain.next few is) where
    wraps_not : (word next : ℕ) → next < 128 → word ≡ next → (word + 1) % 2 ^ 64 ≡ next + 1
    wraps_not word next few is = omega (arith, few, is)

  pub moves : (to : ℕ) → IsOne me.0 → (the me.0).making ≡ Nothing → to < 2 ^ 54 → Allows (Holds seat_count) slots id me 0 (λ n. max n to) (λ found now. OneActs (MoveClock to) found me now)
  moves to one idle below = allows (MoveClock to) (λ n. max n to) (omega arith) one idle (λ plain word few is. (ap (λ n. max n to) is.0, (let was = is.1 in omega (arith, was, below))))

  -- ---- the words of notes, which the table names by their places

  pub loads_note : (n : ℕ) → IsOne me.0 → n < 64 → Allows (Holds seat_count) slots id me (n + 2) (λ k. k) (λ found now. OneActs (LoadNote ((n + 2) - 2)) found me now)
  loads_note n one low = subst (λ k. Allows (Holds seat_count) slots id me (n + 2) (λ k. k) (λ found now. OneActs (LoadNote k) found me now)) (sym (back n)) (allows (LoadNote n) (λ k. k) (omega (arith, low)) one tt (λ plain word few is. is))

  pub marks : (n : ℕ) → IsOne me.0 → (the me.0).making ≡ Nothing → n < 64 → IsMade (the me.0).seen n → Allows (Holds seat_count) slots id me (n + 2) (λ k. bit_or k 1) (λ found now. OneActs (NotifyNote ((n + 2) - 2)) found me now)
  marks n one idle low made = subst (λ k. Allows (Holds seat_count) slots id me (n + 2) (λ k. bit_or k 1) (λ found now. OneActs (NotifyNote k) found me now)) (sym (back n))
      (allows (NotifyNote n) (λ k. bit_or k 1) (omega (arith, low)) one (idle, made) (λ plain word few is. subst (λ (s : NoteStanding). IsNoteWord (bit_or word 1) (state_of s))
      (sym (but-here n (notified_note (plain.notes n)) plain.notes)) (ap (λ k. bit_or k 1) is.0 ∙ marked (state_of (plain.notes n)), is.1)))

  -- a step that tells less
  tells_less : (i : ℕ) (f : ℕ → ℕ) (P Q : ℕ → Me S (List EnvView) → Type 0) → ((found : ℕ) (now : Me S (List EnvView)) → P found now → Q found now) → Allows (Holds seat_count) slots id me i f P → Allows (Holds seat_count) slots id me i f Q
  tells_less i f P Q less may s holds homes at bound = let r = may s holds homes at bound in (r.0, r.1, r.2, r.3, less _ _ r.4)

  pub makes : (n word : ℕ) (parent deadline : Option ℕ) → IsOne me.0 → n < 64 → (the me.0).making ≡ Taken n → word ≡ word_of (state_of (made_note parent deadline)) → WordFits (state_of (made_note parent deadline)) → ParentFits (env_after (the me.0).seen) n parent
      → Allows (Holds seat_count) slots id me (n + 2) (λ _. word) (λ _ now. OneMakes (note_stored ((n + 2) - 2) word) me now)
  makes n word parent deadline one low taken is fits above =
      let note = state_of (made_note parent deadline) in
      let tells : note_of word ≡ note = ap note_of is ∙ note_of-word_of note fits in
      subst (λ (act : EnvAct). Allows (Holds seat_count) slots id me (n + 2) (λ _. word) (λ _ now. OneMakes act me now)) (λ i. StoreNote (sym (back n) i) (sym tells i).parent (sym tells i).deadline)
      (tells_less (n + 2) (λ _. word) (λ found now. OneActs (StoreNote n parent deadline) found me now) (λ _ now. OneMakes (StoreNote n parent deadline) me now) (λ found now acts. (found, acts))
      (allows (StoreNote n parent deadline) (λ _. word) (omega (arith, low)) one (taken, above) (λ plain old few was. subst (λ (s : NoteStanding). IsNoteWord word (state_of s)) (sym (but-here n (made_note parent deadline) plain.notes)) (is, fits))))

  -- Through any seat, whatever it stands for, any bell may be rung or set back, and the seat is as it was; what is so of the step besides, is so.
  swaps_bell : (seat bell : ℕ) (Besides : Type 0) → seat < 64 → bell ≤ 1 → Besides → Allows (Holds seat_count) slots id me (seat + 66) (λ _. bell) (λ _ now. (now ≡ me) × Besides)
  swaps_bell seat bell Besides low most so s holds _ at _ = (
    me.0,
    keeps,
    tt,
    (holds.0, subst (λ (views : Views). IsRuled seat_count (set s.words (seat + 66) bell) views holds.0) (sym (set_again s.views id me.0 at)) (bell_ruled seat_count s.words s.views holds.0 seat bell holds.1 low most)),
    (refl, so),
  )

  -- any bell may be rung,
  pub rings : (seat : ℕ) → seat < 64 → Allows (Holds seat_count) slots id me (seat + 66) (λ _. 1) (λ _ now. (now ≡ me) × (◌≡◌ {A = ℕ} 1 1))
  rings seat low = swaps_bell seat 1 (◌≡◌ {A = ℕ} 1 1) low (omega arith) refl

  -- and its own be set back
  pub sets_back : (own : ℕ) → own ≡ (the me.0).seat → own < 64 → Allows (Holds seat_count) slots id me (own + 66) (λ _. 0) (λ _ now. (now ≡ me) × ((◌≡◌ {A = ℕ} 0 0) × (own + 66 ≡ (the me.0).seat + 66)))
  sets_back own its low = swaps_bell own 0 ((◌≡◌ {A = ℕ} 0 0) × (own + 66 ≡ (the me.0).seat + 66)) low (omega arith) (refl, ap (λ n. n + 66) its)
