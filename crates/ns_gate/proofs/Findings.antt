-- What a step tells its caller.
use Rattle.std.proofs.Common.{Bool, List, None, Option, Result, Some, [], ap, cond, inl, inr, ne_eqb, refl, slice_index, subst, sym, ℕ, ◌++◌, ◌<◌, ◌∙◌, ◌∷◌, ◌≡◌}
use Rattle.ns_gate.proofs.Prelude.{Acquire, Act, ActFits, BeginsIf, CanStep, Cell, Changed, Effect, Flag, Found, GateView, HasStepped, Held, IsExchange, IsOwedNext, IsPackable, JudgeMet, JudgeQuiet, Lists, LoadCell, LoadFlag, LoadWord, LockState, Made, MayExchange, Me, Owed, Part, Performed}
use Rattle.ns_gate.proofs.Prelude.{PerformedWith, Release, ReleaseReturning, ReturnQueues, Returning, Saw, SeatView, SectionFits, TakeQueues, Truths, WaitReturning, Walk, Word, act_by, act_fits, act_of, act_returning, cases_eq, change_found, decoded, exchanged, found_fits, found_back, found_of}
use Rattle.ns_gate.proofs.Prelude.{got_of, made_by, next_owed, number_of, packable, part_of, place_after, row_in, scanned, standing_after, the, tried_for, view_fits, view_in, walk_by, want_of, word_of}

-- the wake that is owed next
pub owed_next : (wake : Owed) (owed : List Owed) → IsOwedNext wake owed → wake ≡ next_owed owed
owed_next wake [] is = absurd is
owed_next wake (next ∷ others) is = sym is

module _ {C : Type 0} {N : ℕ} (truths : Truths C) where
  -- a call that begins leaves the word
  pub between_word : (b : Option (Walk C)) (old : LockState C N) (view : SeatView C N) (between : LockState C N) → BeginsIf truths old view b between → between.word ≡ old.word
  between_word None old view between s = ap (λ (x : LockState C N). x.word) s
  between_word (Some walk) old view between s = ap (λ (x : LockState C N). x.word) s.becomes

  -- a word that was found has a number
  pub packs : (b : Option (Walk C)) (word : Word) (v w : GateView C N) → HasStepped truths b (Saw word) v w → IsPackable word
  packs b word v w d =
      let same = between_word b d.old v.at d.made.between d.made.begins in
      found_fits truths (view_in v.at b).seat (want_of d.made.step.walk) _ (Saw word) _ d.commits (subst IsPackable (sym same) (packable truths v.seat_count d.history d.old d.few d.lawful)) d.made.step.effect

  pub packs_exchanged : (b : Option (Walk C)) (k : ℕ) (last : Word) (made : Found) (v w : GateView C N) → IsPackable last → HasStepped truths b (exchanged k last made) v w → IsPackable (word_of k)
  packs_exchanged b k last made v w p d = elim (cases_eq (number_of last) k) [
    | inl e ↦ subst IsPackable (sym (ap word_of (sym e) ∙ decoded last)) p
    | inr ne ↦ packs b (word_of k) v w (subst (λ (x : Found). HasStepped truths b x v w) (ap (λ (c : Bool). cond c made (Saw (word_of k))) (ne_eqb (number_of last) k ne)) d)
  ]

  pub returned_so : (returning : Returning C) (last : Word) (result : Result Unit Word) (me now : Me (Lists C) (List (GateView C N))) → Performed truths None (act_returning returning last) (tried_for (made_by truths (act_returning returning last) (the me.0)) result) me now
      → Performed truths None (act_returning returning last) (tried_for (found_back truths returning last me) result) me now
  returned_so (Changed change) last result me now p = p
  returned_so other last result me now p = p

  -- the act that a seat's call wants next, or begins with
  pub meant_by : (b : Option (Walk C)) (act : Act C) (me : Me (Lists C) (List (GateView C N))) → CanStep truths b act me → act_by b (the me.0) ≡ act
  meant_by b act me can = ap act_of can.walks ∙ can.wants

  -- a step as it is meant
  pub stepped : (b : Option (Walk C)) (k : ℕ) (me now : Me (Lists C) (List (GateView C N))) → PerformedWith truths b (act_by b (the me.0)) k me now → (act : Act C) → CanStep truths b act me → PerformedWith truths b act k me now
  stepped b k me now s act can = subst (λ a. PerformedWith truths b a k me now) (meant_by b act me can) s

  -- an exchange finds the word last seen, and is made, or another word
  finds_exchanged : (act : Act C) (last new : Word) (view : GateView C N) (slots : List (ℕ × Lists C)) → IsExchange truths act last new view slots → (k : ℕ) → found_of truths act view.at view.stood k ≡ exchanged k last (made_by truths act view)
  finds_exchanged (Acquire aim arrival seen) last new view slots e k = ap (λ w. exchanged k w Made) e.0
  finds_exchanged (TakeQueues taking seen) last new view slots e k = ap (λ w. exchanged k w Made) e.0
  finds_exchanged (ReturnQueues change seen) last new view slots e k = ap (λ w. exchanged k w (change_found view.at.seat change seen view.stood)) e.0
  finds_exchanged (Release releasing seen) last new view slots e k = ap (λ w. exchanged k w Made) e.0
  finds_exchanged (ReleaseReturning releasing seen) last new view slots e k = ap (λ w. exchanged k w (scanned truths (row_in view.at.held) view.stood.lock)) e.0
  finds_exchanged (WaitReturning wait again seen) last new view slots e k = ap (λ w. exchanged k w (scanned truths (row_in view.at.held) view.stood.lock)) e.0
  finds_exchanged act last new view slots e k = absurd e

  -- so it is told
  pub exchanged_by : (last new : Word) (k : ℕ) (me now : Me (Lists C) (List (GateView C N))) (m : MayExchange truths last new me) → PerformedWith truths None (act_by None (the me.0)) k me now → Performed truths None m.act (exchanged k last (made_by truths m.act (the me.0))) me now
  exchanged_by last new k me now m s = subst (λ f. Performed truths None m.act f me now) (finds_exchanged m.act last new (the me.0) me.1 m.exchanges k) (stepped None k me now s m.act m.can).made

  pub found_packs : (last new : Word) (k : ℕ) (me now : Me (Lists C) (List (GateView C N))) → IsPackable last → MayExchange truths last new me → PerformedWith truths None (act_by None (the me.0)) k me now → IsPackable (word_of k)
  found_packs last new k me now p m s = packs_exchanged None k last (made_by truths m.act (the me.0)) (the me.0) (the now.0) p (exchanged_by last new k me now m s).did

  pub exchange_told : (last new : Word) (k : ℕ) (result : Result Unit Word) (me now : Me (Lists C) (List (GateView C N))) → MayExchange truths last new me → ((made : Found) → tried_for made result ≡ exchanged k last made) → PerformedWith truths None (act_by None (the me.0)) k me now
      → (act : Act C) → CanStep truths None act me → Performed truths None act (tried_for (made_by truths act (the me.0)) result) me now
  exchange_told last new k result me now m tries s act can =
      let same : m.act ≡ act = sym (meant_by None m.act me m.can) ∙ meant_by None act me can in
      subst (λ a. Performed truths None a (tried_for (made_by truths a (the me.0)) result) me now) same
      (subst (λ f. Performed truths None m.act f me now) (sym (tries (made_by truths m.act (the me.0)))) (exchanged_by last new k me now m s))

  -- the word that was loaded
  pub saw_word : (b : Option (Walk C)) (k : ℕ) (word : Word) (me now : Me (Lists C) (List (GateView C N))) → word ≡ word_of k → PerformedWith truths b LoadWord k me now → Performed truths b LoadWord (Saw word) me now
  saw_word b k word me now is s = subst (λ w. Performed truths b LoadWord (Saw w) me now) (sym is) s.made

  pub word_packs : (b : Option (Walk C)) (k : ℕ) (me now : Me (Lists C) (List (GateView C N))) → PerformedWith truths b LoadWord k me now → IsPackable (word_of k)
  word_packs b k me now s = packs b (word_of k) (the me.0) (the now.0) s.made.did

  -- what the act of the place may count on where the seat's call goes on
  pub fits_now : (b : Option (Walk C)) (found : Found) (v w : GateView C N) (walk : Walk C) → (d : HasStepped truths b found v w) → w.at.walk ≡ Some walk → ActFits truths v.seat_count w.at.seat (want_of walk) (part_of d.new w.at.held w.at.owed)
  fits_now b found v w walk d walks =
      let s = d.made.step in
      let is : w.at ≡ record { seat = (view_in v.at b).seat; walk = place_after (got_of N s.walk found); held = s.held; owed = s.owed } = d.becomes ∙ ap (λ n. record { seat = n; walk = place_after (got_of N s.walk found); held = s.held; owed = s.owed }) (same_seat b v.at) in
      let stands : d.new.views ≡ s.front ++ w.at ∷ s.back = s.becomes ∙ ap (λ (x : SeatView C N). s.front ++ x ∷ s.back) (sym is) in
      act_fits truths v.seat_count d.few (d.history ++ d.commits) d.new s.front w.at s.back stands d.lawful_now walk walks
    where
      same_seat : (b : Option (Walk C)) (view : SeatView C N) → view.seat ≡ (view_in view b).seat
      same_seat None view = refl
      same_seat (Some first) view = refl

  -- a step does what its act does
  pub does : (b : Option (Walk C)) (act : Act C) (found : Found) (me now : Me (Lists C) (List (GateView C N))) (p : Performed truths b act found me now)
      → Effect truths (view_in (the me.0).at b).seat act (part_of p.did.made.between (view_in (the me.0).at b).held (view_in (the me.0).at b).owed) found (part_of p.did.new p.did.made.step.held p.did.made.step.owed) p.did.commits
  does b act found me now p = let d = p.did in let view = view_in (the me.0).at b in
      subst (λ a. Effect truths view.seat a (part_of d.made.between view.held view.owed) found (part_of d.new d.made.step.held d.made.step.owed) d.commits) p.act_is d.made.step.effect

  -- a flag is at most 9
  pub small_flag : (k : ℕ) (me now : Me (Lists C) (List (GateView C N))) → Performed truths None LoadFlag (Flag k) me now → k < 10
  small_flag k me now p =
      let d = p.did in
      let view = (the me.0).at in
      let e = does None LoadFlag (Flag k) me now p in
      let same : k ≡ d.new.flags view.seat = e.0 ∙ sym (ap (λ (q : Part C N). q.flags view.seat) e.1) in
      subst (λ n. n < 10) (sym same) (d.lawful_now.waiters_placed.flag view.seat)

  -- the section in hand has the row's cells
  held_cells : (v w : GateView C N) (found : Found) (b : Option (Walk C)) (d : HasStepped truths b found v w) (front back : List (SeatView C N)) (held : Held C N) → d.old.views ≡ front ++ v.at ∷ back → v.at.held ≡ Some held → d.old.row ≡ row_in v.at.held
  held_cells v w found b d front back held stands is =
      let f = view_fits truths v.seat_count d.few d.history d.old front v.at back stands d.lawful in
      sym (ap row_in is ∙ (subst (λ o. SectionFits (standing_after d.history) d.old.row v.at.seat v.at.walk o) is f.section).cells)

  own_row : (v w : GateView C N) (found : Found) (b : Option (Walk C)) (d : HasStepped truths b found v w) (held : Held C N) → (view_in v.at b).held ≡ Some held → d.old.row ≡ row_in v.at.held
  own_row v w found None d held is = held_cells v w found None d d.made.step.front d.made.step.back held (ap (λ (x : LockState C N). x.views) (sym d.made.begins) ∙ d.made.step.was) is
  own_row v w found (Some first) d held is = held_cells v w found (Some first) d d.made.begins.front d.made.begins.back held d.made.begins.was is

  own_cell : (b : Option (Walk C)) (found : Found) (i k : ℕ) (v w : GateView C N) (d : HasStepped truths b found v w) (held : Held C N) → (view_in v.at b).held ≡ Some held → k ≡ slice_index d.old.row i → k ≡ slice_index (row_in v.at.held) i
  own_cell b found i k v w d held is at = at ∙ ap (λ row. slice_index row i) (own_row v w found b d held is)

  -- the cell that a seat loads as it judges is its section's own
  pub quiet_cell : (b : Option (Walk C)) (i k : ℕ) (me now : Me (Lists C) (List (GateView C N))) → PerformedWith truths b (JudgeQuiet i) k me now → k ≡ slice_index (row_in (the me.0).at.held) i
  quiet_cell b i k me now s = let h = does b (JudgeQuiet i) _ me now s.made in own_cell b _ i k (the me.0) (the now.0) s.made.did h.0 h.1 s.tells

  pub met_cell : (b : Option (Walk C)) (i k : ℕ) (c : C) (me now : Me (Lists C) (List (GateView C N))) → PerformedWith truths b (JudgeMet i c) k me now → k ≡ slice_index (row_in (the me.0).at.held) i
  met_cell b i k c me now s = let h = does b (JudgeMet i c) _ me now s.made in own_cell b _ i k (the me.0) (the now.0) s.made.did h.0 h.1 s.tells

  -- the walk that a step goes on with
  pub walk_is : (b : Option (Walk C)) (found : Found) (walk : Walk C) (v w : GateView C N) (d : HasStepped truths b found v w) → walk_by b v.at.walk ≡ Some walk → d.made.step.walk ≡ walk
  walk_is None found walk v w d walks = let same = d.made.step.walks in cc
  walk_is (Some other) found walk v w d walks = let same = d.made.step.walks in cc

  -- A cell that was loaded is the cell of the section in hand.
  pub cell_in_hand : (b : Option (Walk C)) (i value : ℕ) (held : Held C N) (me now : Me (Lists C) (List (GateView C N))) → Performed truths b (LoadCell i) (Cell value) me now → (the now.0).at.held ≡ Some held → value ≡ slice_index held.row i
  cell_in_hand b i value held me now p has =
      let d = p.did in
      let e = does b (LoadCell i) (Cell value) me now p in
      let fits = subst (λ o. SectionFits (standing_after (d.history ++ d.commits)) d.new.row (the now.0).at.seat (the now.0).at.walk o) has d.fits.section in
      e.0 ∙ ap (λ row. slice_index row i) (sym (fits.cells ∙ ap (λ (q : Part C N). q.row) e.1))
