-- Each act on the table keeps the rule, by the machine's law.
use Rattle.std.proofs.Common.{Bool, IsSome, List, None, Option, Some, [], ap, arith, cond, drop, eq-eqb, eqb, false, get_or, get_or-set_other, get_or-set_same, if◌then◌else◌, inl, inr, length, length-set, ne_eqb, refl, set, slice_set, subst, suc, sym, take, true, ℕ, ◌+◌, ◌<◌, ◌∙◌, ◌∷◌, ◌≡◌, ◌≢◌}
use Rattle.std.proofs.Common.{◌⊎◌}
use Rattle.ns_gate.proofs.Prelude.{Acquire, Act, ActFits, Allows, ArmFlag, Arrival, AtHome, CanLeave, CanStep, CanWait, Cell, Change, Effect, Event, Flag, Found, GateView, GetLoad, HasMode, HasStepped, Held, Holds, Homes, InAcquire, InCells, InLeaving, InQueuing, InRelease, InShow, InSignal, InTry}
use Rattle.ns_gate.proofs.Prelude.{InWait, IsExchange, IsLoad, IsOne, IsRuled, IsStoreOf, JudgeMet, JudgeQuiet, Leave, Lists, LoadCell, LoadFlag, LoadWord, Made, MayBegin, MayExchange, MayLoad, MayStore, Me, Mode, OnCondition, OnVariables, Owed, OwesOne, Paid, Part, PayWake, PerformedWith, Queue}
use Rattle.ns_gate.proofs.Prelude.{QueueSelf, QueueToWait, Quiet, QuietKeeps, Read, Release, ReleaseReturning, Releasing, ReturnQueues, ReturnShown, Saw, ScanAndRelease, SectionFits, Shows, StoreCell, Subject, TableAct, TakeQueues, Taking, TestLast, Tested, ToChange, ToQueue, Truths, TryLoad}
use Rattle.ns_gate.proofs.Prelude.{Underlying, Valid, Views, WaitReturning, WakeAndReturn, Walk, Word, Write, Writer, act_by, act_fits, before_in, bits_of, called_of, carried_after, carried_by, cases_eq, change_commits, change_found, changed, content_by, decoded, either, encoded, exchanged}
use Rattle.ns_gate.proofs.Prelude.{exit_for, flags_with, found_of, get_elem?, gives, has_queues, has_some, homes_after, judge_of, keeps_slots, lists_scanned, meets_at, mode_for, moves, newly_held, next_owed, none, number_of, one_is, owed_after, owes_more, part_of, releasing_of, rest, row_in}
use Rattle.ns_gate.proofs.Prelude.{scanned, section_of, set-get_or, some, split_at, standing_after, takes, the, view_fits, view_in, waited_in, walk_by, want_of, woken_of, word_acquired, word_at, word_of, word_released, word_released_returning, word_returned, word_taken}
use Rattle.ns_gate.proofs.Keeps.{none_takes, hand_of, its_fit, between, lawful_between, stands_between, walk_in, now, later, did, did_from, ruled}
use Rattle.ns_gate.proofs.Findings.{meant_by, walk_is}
use Rattle.ns_model.specs.declared.event.Exit.TheVariants as TheExit

-- a number is a word's alone
pub same_word : (a b : Word) → number_of a ≡ number_of b → a ≡ b
same_word a b e = sym (decoded a) ∙ (ap word_of e ∙ decoded b)

acquired_spin : (mode : Mode) (arrival : Arrival) (w : Word) → (word_acquired mode arrival w).spin ≡ w.spin
acquired_spin Write arrival w = refl
acquired_spin Read arrival w = refl

released_spin : (releasing : Releasing) (w : Word) → (word_released releasing w).spin ≡ w.spin
released_spin Writer w = refl
released_spin other w = refl

taken_spin : (taking : Taking) (w : Word) → (word_taken taking w).spin ≡ true
taken_spin ToChange w = refl
taken_spin (ToQueue mode arrival) w = refl

-- who puts the queues back has none
carried_returned : {C : Type 0} (seat : ℕ) (change : Change) (last : Word) (lists stood : Lists C) (cs : List (ℕ × Lists C)) → carried_by (ReturnQueues change last) (change_found seat change last lists) stood cs ≡ rest cs
carried_returned seat (QueueSelf mode arrival) last lists stood cs = refl
carried_returned seat other last lists stood cs = refl

-- what is left as they are put back, with the lists changed
abbrev returned : {C : Type 0} {N : ℕ} → ℕ → Change → Word → Part C N → Part C N
returned seat change last old =
    let lists = changed seat change last old.lists in
    record old { word = word_returned (moves change last old.lists) (bits_of lists.lock) last; lists = lists; owed = owed_after change last old.lists old.owed }

returned_effect : {C : Type 0} {N : ℕ} (truths : Truths C) (seat : ℕ) (change : Change) (last : Word) (old : Part C N) → last ≡ old.word →
    Effect truths seat (ReturnQueues change last) old (change_found seat change last old.lists) (returned seat change last old) (change_commits seat change old.lists)
returned_effect truths seat (QueueSelf mode arrival) last old same = (refl, same, refl, refl)
returned_effect truths seat other last old same = (refl, same, refl, refl)

-- the words after a flag was stored
shows_flag : (N : ℕ) (words : List ℕ) (word : Word) (row : List ℕ) (flags : ℕ → ℕ) (payee x : ℕ) → Shows N words word row flags → payee < 64 → Shows N (set words (payee + (N + 1)) x) word row (flags_with flags payee x)
shows_flag N words word row flags payee x p below = let width = p.width in record {
  width = length-set words (payee + (N + 1)) x ∙ width;
  word_is = get_or-set_other words (payee + (N + 1)) 0 x 0 (λ e. omega (arith, e)) ∙ p.word_is;
  cells = λ k low. get_or-set_other words (payee + (N + 1)) (k + 1) x 0 (λ e. omega (arith, e, low)) ∙ p.cells k low;
  flags_are = λ seat low. elim (cases_eq payee seat) [
    | inl e ↦ subst (λ (m : ℕ). get_or (set words (payee + (N + 1)) x) (m + (N + 1)) 0 ≡ flags_with flags payee x m) e (get_or-set_same words (payee + (N + 1)) x 0 (omega (arith, width, below)) ∙ sym (ap (λ (c : Bool). cond c x (flags payee)) (eq-eqb payee payee refl)))
    | inr ne ↦ get_or-set_other words (payee + (N + 1)) (seat + (N + 1)) x 0 (λ e. ne (omega (arith, e))) ∙ (p.flags_are seat low ∙ sym (ap (λ (c : Bool). cond c x (flags seat)) (ne_eqb payee seat ne)))
  ];
}

-- the words after a cell was stored
shows_cell : (N : ℕ) (words : List ℕ) (word : Word) (row : List ℕ) (flags : ℕ → ℕ) (i x : ℕ) → Shows N words word row flags → i < N → length row ≡ N → Shows N (set words (i + 1) x) word (set row i x) flags
shows_cell N words word row flags i x p below wide = let width = p.width in record {
  width = length-set words (i + 1) x ∙ width;
  word_is = get_or-set_other words (i + 1) 0 x 0 (λ e. omega (arith, e)) ∙ p.word_is;
  cells = λ k low. elim (cases_eq k i) [
    | inl e ↦ subst (λ (m : ℕ). get_or (set words (i + 1) x) (m + 1) 0 ≡ get_or (set row i x) m 0) (sym e) (get_or-set_same words (i + 1) x 0 (omega (arith, width, below)) ∙ sym (get_or-set_same row i x 0 (omega (arith, wide, below))))
    | inr ne ↦ get_or-set_other words (i + 1) (k + 1) x 0 (λ e. ne (omega (arith, e))) ∙ (p.cells k low ∙ sym (get_or-set_other row i k x 0 ne))
  ];
  flags_are = λ seat low. get_or-set_other words (i + 1) (seat + (N + 1)) x 0 (λ e. omega (arith, e, below)) ∙ p.flags_are seat low;
}

-- the words after the lock word was set
shows_word : (N : ℕ) (words : List ℕ) (word new : Word) (row : List ℕ) (flags : ℕ → ℕ) → Shows N words word row flags → Shows N (set words 0 (number_of new)) new row flags
shows_word N words word new row flags p = let width = p.width in let some_words : 0 < length words = omega (arith, width) in record {
  width = length-set words 0 (number_of new) ∙ width;
  word_is = get_or-set_same words 0 (number_of new) 0 some_words;
  cells = λ i below. get_or-set_other words 0 (i + 1) (number_of new) 0 (λ e. omega (arith, e)) ∙ p.cells i below;
  flags_are = λ seat below. get_or-set_other words 0 (seat + (N + 1)) (number_of new) 0 (λ e. omega (arith, e)) ∙ p.flags_are seat below;
}

-- the act puts the queues back, which its seat then has
abbrev is_returning : {C : Type 0} → Act C → Bool
is_returning (ReturnQueues change last) = true
is_returning (ReleaseReturning releasing last) = true
is_returning (WaitReturning wait again last) = true
is_returning act = false

no_judge_returns : {C : Type 0} (on : Subject C) (i : ℕ) → is_returning (judge_of on i) ≡ false
no_judge_returns (OnCondition c) i = refl
no_judge_returns (OnVariables variables) i = refl

returning_has : {C : Type 0} (walk : Walk C) → is_returning (want_of walk) ≡ true → has_queues (Some walk) ≡ true
returning_has (InAcquire aim (Queue arrival last)) e = refl
returning_has (InRelease releasing (ScanAndRelease last)) e = refl
returning_has (InWait wait (InQueuing again (QueueToWait last))) e = refl
returning_has (InWait wait (InLeaving cause (Leave last))) e = refl
returning_has (InSignal waking k (WakeAndReturn last)) e = refl
returning_has (InShow (ReturnShown last)) e = refl
returning_has (InWait wait (TestLast visit i)) e = let n = no_judge_returns wait.on i in absurd (cc)
returning_has (InTry mode TryLoad) e = absurd (cc)
returning_has (InCells (GetLoad i)) e = absurd (cc)
returning_has walk e = absurd (cc)

-- the wake that is owed next, where one is owed
owes_some : (seat_count : ℕ) (owed : List Owed) → OwesOne seat_count owed → (others : List Owed) × (owed ≡ next_owed owed ∷ others) × ((next_owed owed).seat < seat_count)
owes_some seat_count [] one = absurd one
owes_some seat_count (wake ∷ others) one = (others, refl, one)

module _ {C : Type 0} {N : ℕ} (truths : Truths C) (cells : 0 < N) (quiet : QuietKeeps N truths) (seat_count id : ℕ) (b : Option (Walk C)) where
  abbrev Slots : Type 0
  Slots = List (ℕ × Lists C)

  -- the step was this act, found this, and told this content
  abbrev Makes : Act C → Found → ℕ → GateView C N → GateView C N → Type 0
  Makes act found k v w = (d : HasStepped truths b found v w) × (want_of d.made.step.walk ≡ act) × (k ≡ content_by v.at act d.old)

  -- what is owed of a step that leaves these words, and tells this content
  abbrev Owes : Homes C → Views C N → GateView C N → Slots → List ℕ → Act C → ℕ → Type 0
  Owes homes views v cs words' act k = (w : GateView C N) × (a : TableAct (Lists C)) × Valid homes cs a
      × ((g : Underlying C N) × IsRuled truths seat_count words' (homes_after homes cs a) (set views id (w ∷ [])) g)
      × (carried_after cs a ≡ carried_by act (found_of truths act v.at v.stood k) w.stood cs) × Makes act (found_of truths act v.at v.stood k) k v w

  -- the seat may make the act, which changes the word i by f, and tells what t makes of the content that it had
  abbrev MayChange : ℕ → (ℕ → ℕ) → (ℕ → ℕ) → Act C → GateView C N → Slots → Type 0
  MayChange i f t act v cs = (words : List ℕ) (homes : Homes C) (views : Views C N) (g : Underlying C N) → IsRuled truths seat_count words homes views g → get_elem? views id ≡ some (v ∷ []) → Owes homes views v cs (set words i (f (get_or words i 0))) act (t (get_or words i 0))

  change_at : (i : ℕ) (f t : ℕ → ℕ) (act : Act C) (vs : List (GateView C N)) (cs : Slots) → IsOne vs → MayChange i f t act (the vs) cs → (words : List ℕ) (homes : Homes C) (views : Views C N) (g : Underlying C N) → IsRuled truths seat_count words homes views g → get_elem? views id ≡ some vs
      → Owes homes views (the vs) cs (set words i (f (get_or words i 0))) act (t (get_or words i 0))
  change_at i f t act vs cs one change words homes views g r at = let v = one_is vs one in
      subst (λ (us : List (GateView C N)). MayChange i f t act (the us) cs → get_elem? views id ≡ some us → Owes homes views (the us) cs (set words i (f (get_or words i 0))) act (t (get_or words i 0))) (sym v.1) (λ may there. may words homes views g r there) change at

  allows : (slots i : ℕ) (f t : ℕ → ℕ) (act : Act C) (me : Me (Lists C) (List (GateView C N))) → CanStep truths b act me → MayChange i f t act (the me.0) me.1 → Allows (Holds truths seat_count) slots id me i f (λ k now. PerformedWith truths b (act_by b (the me.0)) (t k) me now)
  allows slots i f t act me can change s h _ at _ =
      let r = change_at i f t act me.0 me.1 can.one change s.words s.homes s.views h.0 h.1 at in
      let d = r.5.0 in (
        r.0 ∷ [],
        r.1,
        r.2,
        r.3,
        subst (λ a. PerformedWith truths b a (t (get_or s.words i 0)) me (r.0 ∷ [], carried_after me.1 r.1)) (sym (meant_by truths b act me can))
            (record { made = record { one = tt; carried = r.4; did = d; act_is = r.5.1; finds = λ other. ap (found_of truths act (the me.0).at (the me.0).stood) r.5.2 }; tells = r.5.2 }),
      )

  module _ (v : GateView C N) (may : MayBegin truths b v.at) (walk : Walk C) (walks : walk_by b v.at.walk ≡ Some walk) (words : List ℕ) (homes : Homes C) (views : Views C N)
      (g : Underlying C N) (r : IsRuled truths seat_count words homes views g) (at : get_elem? views id ≡ some (v ∷ [])) (cs : Slots) where
    abbrev old : Part C N
    old = part_of g.state v.at.held v.at.owed

    -- what the act may count on
    fits : (act : Act C) → want_of walk ≡ act → ActFits truths seat_count v.at.seat act old
    fits act wants = subst (λ a. ActFits truths seat_count v.at.seat a old) wants (of_seat b may walks refl) where
      of_seat : (x : Option (Walk C)) → MayBegin truths x v.at → walk_by x v.at.walk ≡ Some walk → x ≡ b → ActFits truths seat_count v.at.seat (want_of walk) old
      of_seat x may' walks' is =
          let stands = stands_between truths cells quiet seat_count words homes views g r id v at b may in
          let s = between truths cells quiet seat_count words homes views g r id v at b may in
          let a = act_fits truths seat_count r.few g.history s (take v.at.seat s.views) (view_in v.at b) (drop (suc v.at.seat) s.views) (split_at s.views v.at.seat (view_in v.at b) stands)
          (lawful_between truths cells quiet seat_count words homes views g r id v at b may) walk (walk_in b v.at ∙ walks) in
          plain b a
        where
          plain : (x : Option (Walk C)) →
              ActFits truths seat_count (view_in v.at x).seat (want_of walk) (part_of (record g.state { views = slice_set g.state.views v.at.seat (view_in v.at x) }) (view_in v.at x).held (view_in v.at x).owed) →
              ActFits truths seat_count v.at.seat (want_of walk) (part_of g.state v.at.held v.at.owed)
          plain None p = p
          plain (Some first) p = p

    -- a section in hand has the row's cells
    has_row : (held : Held C N) → v.at.held ≡ Some held → row_in v.at.held ≡ g.state.row
    has_row held is =
        let stands = (its_fit truths cells quiet seat_count words homes views g r id v at b may).stands in
        let f = view_fits truths seat_count r.few g.history g.state (take v.at.seat g.state.views) v.at (drop (suc v.at.seat) g.state.views) (split_at g.state.views v.at.seat v.at stands) r.lawful in
        ap row_in is ∙ (subst (λ o. SectionFits (standing_after g.history) g.state.row v.at.seat v.at.walk o) is f.section).cells

    shown : word_of (get_or words 0 0) ≡ g.state.word
    shown = ap word_of r.shows.word_is ∙ decoded g.state.word

    -- the step, from its effect
    finish : (act : Act C) → want_of walk ≡ act → (k : ℕ) (found : Found) (part : Part C N) (commits : List (Event C N)) → Effect truths v.at.seat act old found part commits →
        found_of truths act v.at v.stood k ≡ found → k ≡ content_by v.at act g.state → (words' : List ℕ) → Shows N words' part.word part.row part.flags
        → (a : TableAct (Lists C)) → Valid homes cs a → AtHome part.word.spin part.lists (homes_after homes cs a) → (part.lists ≡ g.state.lists) ⊎ (part.word.spin ≡ false) → carried_after cs a ≡ carried_by act found part.lists cs → Owes homes views v cs words' act k
    finish act wants k found part commits e is tells words' shows a valid home kept carried =
        let e' : Effect truths v.at.seat (want_of walk) old found part commits = subst (λ x. Effect truths v.at.seat x old found part commits) (sym wants) e in
        let w = now truths cells quiet seat_count words homes views g r id v at b may walk walks found part commits e' in
        let d = did truths cells quiet seat_count words homes views g r id v at b may walk walks found part commits e' in
        let was = did_from truths cells quiet seat_count words homes views g r id v at b may walk walks found part commits e' in (
          w,
          a,
          valid,
          (later truths cells quiet seat_count words homes views g r id v at b may walk walks found part commits e', ruled truths cells quiet seat_count words homes views g r id v at b may walk walks found part commits e' words' (homes_after homes cs a) shows home kept),
          carried ∙ ap (λ x. carried_by act x part.lists cs) (sym is),
          subst (λ (x : Found). Makes act x k v w) (sym is) (d, ap want_of (walk_is truths b found walk v w d walks) ∙ wants, tells ∙ ap (content_by v.at act) (sym was)),
        )

    -- nothing changes
    stays : (act : Act C) → want_of walk ≡ act → (k : ℕ) (found : Found) → Effect truths v.at.seat act old found old [] → found_of truths act v.at v.stood k ≡ found → k ≡ content_by v.at act g.state →
        cs ≡ carried_by act found g.state.lists cs → (words' : List ℕ) → words' ≡ words → Owes homes views v cs words' act k
    stays act wants k found e is tells carried words' same = finish act wants k found old [] e is tells words' (subst (λ ws. Shows N ws g.state.word g.state.row g.state.flags) (sym same) r.shows) keeps_slots tt r.home (inl refl) carried

    -- ---- a load

    loads : (act : Act C) → IsLoad act → want_of walk ≡ act → Owes homes views v cs (set words (word_at act v) (get_or words (word_at act v) 0)) act (get_or words (word_at act v) 0)
    loads LoadWord is wants = stays LoadWord wants (get_or words 0 0) (Saw (word_of (get_or words 0 0))) (shown, refl, refl) refl r.shows.word_is refl (set words 0 (get_or words 0 0)) (set-get_or words 0 0)
    loads (LoadCell i) is wants =
        let there = r.shows.cells i (fits (LoadCell i) wants) in
        stays (LoadCell i) wants (get_or words (i + 1) 0) (Cell (get_or words (i + 1) 0)) (there, refl, refl) refl there refl (set words (i + 1) (get_or words (i + 1) 0)) (set-get_or words (i + 1) 0)
    loads (JudgeQuiet i) is wants =
        let f = fits (JudgeQuiet i) wants in
        let h = hand_of (λ (o : Option (Held C N)). HasMode Write o) v.at.held (λ e. e) f.0 in
        stays (JudgeQuiet i) wants (get_or words (i + 1) 0) (Quiet (truths.quiet (before_in v.at.held) (row_in v.at.held))) (h.0, h.1, ap (λ (o : Option (Held C N)). truths.quiet (before_in o) (row_in o)) h.1, refl, refl) refl (r.shows.cells i f.1) refl
        (set words (i + 1) (get_or words (i + 1) 0)) (set-get_or words (i + 1) 0)
    loads (JudgeMet i c) is wants =
        let f = fits (JudgeMet i c) wants in
        let h = hand_of IsSome v.at.held (λ e. cc) f.0 in
        stays (JudgeMet i c) wants (get_or words (i + 1) 0) (Tested (truths.holds c (row_in v.at.held))) (h.0, h.1, ap (λ (o : Option (Held C N)). truths.holds c (row_in o)) h.1, refl, refl) refl (r.shows.cells i f.1) refl
        (set words (i + 1) (get_or words (i + 1) 0)) (set-get_or words (i + 1) 0)
    loads LoadFlag is wants =
        let below = fits LoadFlag wants in
        let few = r.few in
        let there = r.shows.flags_are v.at.seat (omega (arith, below, few)) in
        let flag = v.at.seat + (N + 1) in
        stays LoadFlag wants (get_or words flag 0) (Flag (get_or words flag 0)) (there, refl, refl) refl there refl (set words flag (get_or words flag 0)) (set-get_or words flag 0)
    loads act is wants = absurd is

    -- ---- a store

    stores : (content : ℕ) (act : Act C) → IsStoreOf v.at content act → want_of walk ≡ act → Owes homes views v cs (set words (word_at act v) content) act content
    stores content (StoreCell i x) is wants =
        let f = fits (StoreCell i x) wants in
        let h = hand_of (λ (o : Option (Held C N)). HasMode Write o) v.at.held (λ e. e) f.0 in
        subst (λ n. Owes homes views v cs (set words (i + 1) n) (StoreCell i x) n) (sym is)
        (finish (StoreCell i x) wants x Made (record old { row = set g.state.row i x; held = Some (record h.0 { row = set h.0.row i x }) }) [] (h.0, h.1, h.2, refl, refl) refl refl (set words (i + 1) x)
        (shows_cell N words g.state.word g.state.row g.state.flags i x r.shows f.1 r.lawful.one_history.cells) keeps_slots tt r.home (inl refl) refl)
    stores content ArmFlag is wants =
        let below = fits ArmFlag wants in
        let few = r.few in
        subst (λ n. Owes homes views v cs (set words (v.at.seat + (N + 1)) n) ArmFlag n) (sym is)
        (finish ArmFlag wants 1 Made (record old { flags = flags_with g.state.flags v.at.seat 1 }) [] (refl, refl) refl refl (set words (v.at.seat + (N + 1)) 1)
        (shows_flag N words g.state.word g.state.row g.state.flags v.at.seat 1 r.shows (omega (arith, below, few))) keeps_slots tt r.home (inl refl) refl)
    stores content PayWake is wants =
        let o = owes_some seat_count v.at.owed (fits PayWake wants) in
        let below = o.2 in
        let few = r.few in
        let wake = next_owed v.at.owed in
        subst (λ n. Owes homes views v cs (set words (wake.seat + (N + 1)) n) PayWake n) (sym is)
        (finish PayWake wants wake.value (Paid (has_some o.0)) (record old { flags = flags_with g.state.flags wake.seat wake.value; owed = o.0 }) [] (wake, o.0, o.1, refl, refl, refl) (ap owes_more o.1) refl (set words (wake.seat + (N + 1)) wake.value)
        (shows_flag N words g.state.word g.state.row g.state.flags wake.seat wake.value r.shows (omega (arith, below, few))) keeps_slots tt r.home (inl refl) refl)
    stores content act is wants = absurd is

    -- ---- an exchange

    -- what an exchange does to the slot that takes the lists, puts them back or leaves them, so that they then stand so
    record Slotted (act : Act C) (made : Found) (new : Word) (lists : Lists C) : Type 0 where
      does : TableAct (Lists C)
      valid : Valid homes cs does
      home : AtHome new.spin lists (homes_after homes cs does)
      kept : (lists ≡ g.state.lists) ⊎ (new.spin ≡ false)
      carried : carried_after cs does ≡ carried_by act made lists cs

    -- the words after an exchange of the one content for the other
    abbrev swapped : ℕ → ℕ → List ℕ
    swapped x y = set words 0 (either (eqb (get_or words 0 0) x) y (get_or words 0 0))

    -- a compare-exchange of the word last seen
    exchanges : (act : Act C) → want_of walk ≡ act → (last : Word) (made : Found) (part : Part C N) (commits : List (Event C N)) (x y : ℕ) → x ≡ number_of last → y ≡ number_of part.word
        → number_of g.state.word ≡ content_by v.at act g.state
        → ((k : ℕ) → found_of truths act v.at v.stood k ≡ exchanged k last made)
        → ((w : Word) → w ≡ g.state.word → w ≢ last → Effect truths v.at.seat act old (Saw w) old [])
        → ((w : Word) → cs ≡ carried_by act (Saw w) g.state.lists cs)
        → (last ≡ g.state.word → Effect truths v.at.seat act old made part commits)
        → part.row ≡ g.state.row → part.flags ≡ g.state.flags
        → (last ≡ g.state.word → Slotted act made part.word part.lists)
        → Owes homes views v cs (swapped x y) act (get_or words 0 0)
    exchanges act wants last made part commits x y is_x is_y tells is miss idle hit rows flags slot = subst (λ (z : ℕ × ℕ). Owes homes views v cs (swapped z.0 z.1) act k) (λ i. (sym is_x i, sym is_y i)) (elim (cases_eq k (number_of last)) [
      | inl e ↦ (let same : last ≡ g.state.word = same_word last g.state.word (sym e ∙ r.shows.word_is) in let yes_same = eq-eqb k (number_of last) e in let yes_other = eq-eqb (number_of last) k (sym e) in let s = slot same in
          let shows : Shows N (set words 0 (number_of part.word)) part.word part.row part.flags = subst
          (λ (z : List ℕ × (ℕ → ℕ)). Shows N (set words 0 (number_of part.word)) part.word z.0 z.1) (λ i. (sym rows i, sym flags i))
          (shows_word N words g.state.word part.word g.state.row g.state.flags r.shows) in
          finish act wants k made part commits (hit same) (is k ∙ ap (λ (c : Bool). cond c made (Saw (word_of k))) yes_other) told
          (swapped (number_of last) (number_of part.word)) (subst (λ (c : Bool). Shows N (set words 0 (either c (number_of part.word) k)) part.word part.row part.flags) (sym yes_same) shows)
          s.does s.valid s.home s.kept s.carried)
      | inr ne ↦ (let other = ne_eqb k (number_of last) ne in let other_way = ne_eqb (number_of last) k (λ e. ne (sym e)) in
          stays act wants k (Saw (word_of k)) (miss (word_of k) shown (λ f. ne (sym (encoded k) ∙ ap number_of f))) (is k ∙ ap (λ (c : Bool). cond c made (Saw (word_of k))) other_way) told (idle (word_of k))
          (swapped (number_of last) (number_of part.word)) (ap (λ (c : Bool). set words 0 (either c (number_of part.word) k)) other ∙ set-get_or words 0 0))
    ]) where
      k : ℕ
      k = get_or words 0 0

      told : k ≡ content_by v.at act g.state
      told = r.shows.word_is ∙ tells

    -- the slot stays as it is
    keeps_slot : (act : Act C) (done : Found) (new : Word) → new.spin ≡ g.state.word.spin → cs ≡ carried_by act done g.state.lists cs → Slotted act done new g.state.lists
    keeps_slot act done new spin carried = record { does = keeps_slots; valid = tt; home = subst (λ s. AtHome s g.state.lists homes) (sym spin) r.home; kept = inl refl; carried = carried }

    -- who has the queues knows the lists at home, which are out
    stood_is : has_queues v.at.walk ≡ true → v.stood ≡ g.state.lists
    stood_is = (its_fit truths cells quiet seat_count words homes views g r id v at b may).stood

    out : has_queues v.at.walk ≡ true → homes ≡ none ∷ []
    out has = by_spin g.state.word.spin refl r.home where
      by_spin : (s : Bool) → g.state.word.spin ≡ s → AtHome s g.state.lists homes → homes ≡ none ∷ []
      by_spin true e home = home
      by_spin false e home = absurd (none_takes g.state.views v.at.seat v.at (r.lawful.spin_held_once ∙ ap (λ s. cond s 1 0) e) (its_fit truths cells quiet seat_count words homes views g r id v at b may).stands has)

    -- the lists in hand go home
    gives_slot : (act : Act C) (done : Found) (new : Word) (lists : Lists C) → has_queues v.at.walk ≡ true → new.spin ≡ false → cs ≡ (0, lists) ∷ [] → rest cs ≡ carried_by act done lists cs → Slotted act done new lists
    gives_slot act done new lists has clear carries back = record {
      does = gives;
      valid = tt;
      home = subst (λ s. AtHome s lists (homes_after homes cs gives)) (sym clear) (ap (λ (xs : Slots). homes_after homes xs gives) carries ∙ ap (λ hs. set hs 0 (some lists)) (out has));
      kept = inr clear;
      carried = back;
    }

    -- the queues are put back: what the seat made of what it knows of them is what the machine makes of them
    puts_back : (act : Act C) → want_of walk ≡ act → (last : Word) (Z : Type 0) (mine theirs : Z) → mine ≡ theirs →
        (lists : Z → Lists C) (found : Z → Found) (word : Z → Word) (held : Option (Held C N)) (owed : List Owed) (commits : List (Event C N)) (x y : ℕ) → x ≡ number_of last → y ≡ number_of (word mine)
        → has_queues v.at.walk ≡ true → cs ≡ (0, lists mine) ∷ [] → (word theirs).spin ≡ false
        → number_of g.state.word ≡ content_by v.at act g.state
        → ((k : ℕ) → found_of truths act v.at v.stood k ≡ exchanged k last (found mine))
        → ((w : Word) → w ≡ g.state.word → w ≢ last → Effect truths v.at.seat act old (Saw w) old [])
        → ((w : Word) → cs ≡ carried_by act (Saw w) g.state.lists cs)
        → (last ≡ g.state.word → Effect truths v.at.seat act old (found theirs) (record old { word = word theirs; lists = lists theirs; held = held; owed = owed }) commits)
        → rest cs ≡ carried_by act (found theirs) (lists theirs) cs
        → Owes homes views v cs (swapped x y) act (get_or words 0 0)
    puts_back act wants last Z mine theirs same lists found word held owed commits x y is_x is_y has carries clear tells is miss idle hit back =
        exchanges act wants last (found theirs) (record old { word = word theirs; lists = lists theirs; held = held; owed = owed }) commits x y is_x (is_y ∙ ap (λ z. number_of (word z)) same) tells (λ k. is k ∙ ap (λ z. exchanged k last (found z)) same) miss idle hit refl refl
        (λ _. gives_slot act (found theirs) (word theirs) (lists theirs) has clear (carries ∙ ap (λ z. (0, lists z) ∷ []) same) back)

    changes_word : (act : Act C) (last new : Word) (x y : ℕ) → x ≡ number_of last → y ≡ number_of new → (is_returning act ≡ true → has_queues v.at.walk ≡ true) → IsExchange truths act last new v cs → want_of walk ≡ act → Owes homes views v cs (swapped x y) act (get_or words 0 0)
    changes_word (Acquire aim arrival seen) last new x y is_x is_y has e wants =
        let f = fits (Acquire aim arrival seen) wants in
        exchanges (Acquire aim arrival seen) wants seen Made (record old { word = word_acquired (mode_for aim) arrival seen; held = Some (newly_held aim g.state.row) }) [] x y (is_x ∙ ap number_of (sym e.0)) (is_y ∙ ap number_of e.1) refl
        (λ k. refl) (λ w s ne. (s, ne, refl, refl)) (λ w. refl) (λ same. (same, f.1, f.0, refl, refl)) refl refl
        (λ same. keeps_slot (Acquire aim arrival seen) Made (word_acquired (mode_for aim) arrival seen) (acquired_spin (mode_for aim) arrival seen ∙ ap (λ (w : Word). w.spin) same) refl)
    changes_word (Release releasing seen) last new x y is_x is_y has e wants =
        let h = hand_of (CanLeave truths releasing) v.at.held (λ e. e) (fits (Release releasing seen) wants) in
        exchanges (Release releasing seen) wants seen Made (record old { word = word_released releasing seen; held = None }) (section_of truths.holds v.at.seat h.0 TheExit.Plain ∷ []) x y (is_x ∙ ap number_of (sym e.0)) (is_y ∙ ap number_of e.1) refl
        (λ k. refl) (λ w s ne. (s, ne, refl, refl)) (λ w. refl) (λ same. (h.0, h.1, h.2.0, same, refl, refl)) refl refl
        (λ same. keeps_slot (Release releasing seen) Made (word_released releasing seen) (released_spin releasing seen ∙ ap (λ (w : Word). w.spin) same) refl)
    changes_word (TakeQueues taking seen) last new x y is_x is_y has e wants =
        let clear = fits (TakeQueues taking seen) wants in
        exchanges (TakeQueues taking seen) wants seen Made (record old { word = word_taken taking seen }) [] x y (is_x ∙ ap number_of (sym e.0)) (is_y ∙ ap number_of e.1) refl
        (λ k. refl) (λ w s ne. (s, ne, refl, refl)) (λ w. refl) (λ same. (same, clear, refl, refl)) refl refl
        (λ same.
        let home = subst (λ s. AtHome s g.state.lists homes) (ap (λ (w : Word). w.spin) (sym same) ∙ clear) r.home in record {
          does = takes 0 g.state.lists;
          valid = ap (λ hs. get_elem? hs 0) home;
          home = subst (λ s. AtHome s g.state.lists (set homes 0 none)) (sym (taken_spin taking seen)) (ap (λ hs. set hs 0 none) home);
          kept = inl refl;
          carried = refl;
        })
    changes_word (ReturnQueues change seen) last new x y is_x is_y has e wants =
        puts_back (ReturnQueues change seen) wants seen (Lists C) v.stood g.state.lists (stood_is (has refl)) (λ l. changed v.at.seat change seen l) (λ l. change_found v.at.seat change seen l)
        (λ l. word_returned (moves change seen l) (bits_of (changed v.at.seat change seen l).lock) seen) v.at.held (owed_after change seen g.state.lists v.at.owed)
        (change_commits v.at.seat change g.state.lists) x y (is_x ∙ ap number_of (sym e.0)) (is_y ∙ ap number_of e.1.word) (has refl) e.1.carries refl refl
        (λ k. refl) (λ w s ne. (s, ne, refl, refl)) (λ w. refl) (λ same. returned_effect truths v.at.seat change seen old same) (sym (carried_returned v.at.seat change seen g.state.lists (changed v.at.seat change seen g.state.lists) cs))
    changes_word (ReleaseReturning releasing seen) last new x y is_x is_y has e wants =
        let h = hand_of (CanLeave truths releasing) v.at.held (λ e. e) (fits (ReleaseReturning releasing seen) wants).0 in
        puts_back (ReleaseReturning releasing seen) wants seen (List ℕ × Lists C) (row_in v.at.held, v.stood) (g.state.row, g.state.lists) (λ i. (has_row h.0 h.1 i, stood_is (has refl) i)) (λ z. lists_scanned truths z.0 z.1) (λ z. scanned truths z.0 z.1.lock)
        (λ z. word_released_returning releasing (has_some (woken_of (meets_at truths z.0) z.1.lock)) (bits_of (lists_scanned truths z.0 z.1).lock) seen) None (called_of (woken_of (meets_at truths g.state.row) g.state.lists.lock)) (section_of truths.holds v.at.seat h.0 TheExit.Plain ∷ []) x y
        (is_x ∙ ap number_of (sym e.0)) (is_y ∙ ap number_of e.1.word) (has refl) e.1.carries refl refl (λ k. refl) (λ w s ne. (s, ne, refl, refl)) (λ w. refl) (λ same. (h.0, h.1, h.2.0, same, refl, refl, refl, refl)) refl
    changes_word (WaitReturning wait again seen) last new x y is_x is_y has e wants =
        let h = hand_of (CanWait truths wait again) v.at.held (λ e. e) (fits (WaitReturning wait again seen) wants).0 in
        puts_back (WaitReturning wait again seen) wants seen (List ℕ × Lists C) (row_in v.at.held, v.stood) (g.state.row, g.state.lists) (λ i. (has_row h.0 h.1 i, stood_is (has refl) i)) (λ z. waited_in truths v.at.seat wait again z.0 z.1) (λ z. scanned truths z.0 z.1.lock)
        (λ z. word_released_returning (releasing_of wait.mode) (has_some (woken_of (meets_at truths z.0) z.1.lock)) (bits_of (waited_in truths v.at.seat wait again z.0 z.1).lock) seen) None (called_of (woken_of (meets_at truths g.state.row) g.state.lists.lock))
        (if again then [] else section_of truths.holds v.at.seat h.0 (exit_for wait.on) ∷ []) x y (is_x ∙ ap number_of (sym e.0)) (is_y ∙ ap number_of e.1.word)
        (has refl) e.1.carries refl refl (λ k. refl) (λ w s ne. (s, ne, refl, refl)) (λ w. refl) (λ same. (h.0, h.1, h.2.mode, same, refl, refl, refl, refl)) refl
    changes_word act last new x y is_x is_y has e wants = absurd e

-- ---- as the functions ask it

module _ {C : Type 0} {N : ℕ} (truths : Truths C) (cells : 0 < N) (quiet : QuietKeeps N truths) (seat_count id slots : ℕ) (me : Me (Lists C) (List (GateView C N))) where
  pub may_load : (b : Option (Walk C)) (i : ℕ) → MayLoad truths b i me → Allows (Holds truths seat_count) slots id me i (λ n. n) (λ k now. PerformedWith truths b (act_by b (the me.0)) k me now)
  may_load b i m = subst (λ j. Allows (Holds truths seat_count) slots id me j (λ n. n) (λ k now. PerformedWith truths b (act_by b (the me.0)) k me now)) (sym m.there)
      (allows truths cells quiet seat_count id b slots (word_at m.act (the me.0)) (λ n. n) (λ n. n) m.act me m.can (λ words homes views g r at. loads truths cells quiet seat_count id b (the me.0) m.can.may m.can.walk m.can.walks words homes views g r at me.1 m.act m.loads m.can.wants))

  pub may_store : (i content : ℕ) → MayStore truths i content me → Allows (Holds truths seat_count) slots id me i (λ _. content) (λ _ now. PerformedWith truths None (act_by None (the me.0)) content me now)
  may_store i content m = subst (λ j. Allows (Holds truths seat_count) slots id me j (λ _. content) (λ _ now. PerformedWith truths None (act_by None (the me.0)) content me now)) (sym m.there)
      (allows truths cells quiet seat_count id None slots (word_at m.act (the me.0)) (λ _. content) (λ _. content) m.act me m.can
      (λ words homes views g r at. stores truths cells quiet seat_count id None (the me.0) m.can.may m.can.walk m.can.walks words homes views g r at me.1 content m.act m.stores m.can.wants))

  pub may_exchange : (last new : Word) (x y : ℕ) → MayExchange truths last new me → x ≡ number_of last → y ≡ number_of new → Allows (Holds truths seat_count) slots id me 0 (λ n. either (eqb n x) y n) (λ k now. PerformedWith truths None (act_by None (the me.0)) k me now)
  may_exchange last new x y m is_x is_y = allows truths cells quiet seat_count id None slots 0 (λ n. either (eqb n x) y n) (λ n. n) m.act me m.can
      (λ words homes views g r at. changes_word truths cells quiet seat_count id None (the me.0) m.can.may m.can.walk m.can.walks words homes views g r at me.1 m.act last new x y is_x is_y has_now m.exchanges m.can.wants)
    where
      has_now : is_returning m.act ≡ true → has_queues (the me.0).at.walk ≡ true
      has_now back = ap has_queues m.can.walks ∙ returning_has m.can.walk (ap is_returning m.can.wants ∙ back)
