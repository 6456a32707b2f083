-- What each act commits, and what it leaves of its seat's section.
use Rattle.std.proofs.Common.{Bool, List, None, Option, Some, [], ap, false, refl, slice_set, subst, sym, true, ℕ, ◌∷◌, ◌≡◌}
use Rattle.ns_word.proofs.Prelude.{Acquire, Act, Any, AreBy, ArmFlag, Arrival, AtVariables, Broadcasting, Cell, Change, Effect, Event, Flag, Found, Held, Home, JudgeMet, JudgeQuiet, LeaveSelf, Left, Lists, LoadCell, LoadFlag, LoadWord, Look, Looked, Made, Mode, Only, Paid, Part, PayWake, Quiet}
use Rattle.ns_word.proofs.Prelude.{Release, ReleaseReturning, ReturnQueues, Saw, Scanned, Signaling, StoreCell, TakeQueues, Tested, Truths, WaitReturning, Waiter, WakeWaiters, Waking, Woke, Word, change_commits, held_after, leave_of, may_acquire, newly_held, wake_of, who_of, ◌∙◌}
use Rattle.ns_word.proofs.Looks.{looks_again, marks_of}

-- what is committed as the queues are put back is the seat's
left_by : (C : Type 0) (N : ℕ) (seat : ℕ) (home : Home) (stood : Bool) → AreBy seat (leave_of {C = C} {N = N} seat home stood)
left_by C N seat (AtVariables (Only k)) true = (refl, tt)
left_by C N seat (AtVariables (Any cvs)) true = (refl, tt)
left_by C N seat home stood = tt

woken_by : {C : Type 0} (N : ℕ) (seat : ℕ) (waking : Waking) (k : ℕ) (taken : List (Waiter C)) → who_of (wake_of {C = C} {N = N} seat waking k taken) ≡ seat
woken_by N seat Signaling k taken = refl
woken_by N seat Broadcasting k taken = refl

change_by : {C : Type 0} (N : ℕ) (seat : ℕ) (change : Change) (lists : Lists C) → AreBy seat (change_commits {C = C} {N = N} seat change lists)
change_by {C} N seat (LeaveSelf home) lists = left_by C N seat home _
change_by N seat (WakeWaiters waking k) lists = (woken_by N seat waking k _, tt)
change_by N seat change lists = tt

module _ {C : Type 0} {N : ℕ} where
  -- what a section says of how it began is the same
  abbrev pub BeganSo : Held C N → Held C N → Type 0
  BeganSo was held = (held.mode ≡ was.mode) × (held.before ≡ was.before) × (held.entry ≡ was.entry)

  -- the act acquires this section by this word
  abbrev pub Gains : Option (Mode × Arrival × Word) → Word → Held C N → Type 0
  Gains None word held = ⊥
  Gains (Some by) word held = (by.2 ≡ word) × (may_acquire by.0 by.1 by.2 ≡ true) × (by.0 ≡ held.mode)

  -- What is committed is the seat's. A section that stays says the same of how it began, but after a look of a wait that has come back. Only an acquire brings one to hand.
  pub record Makes (seat : ℕ) (act : Act C) (old new : Part C N) (commits : List (Event C N)) : Type 0 where
    pub by : AreBy seat commits
    pub began : (was held : Held C N) → looks_again act ≡ false → old.held ≡ Some was → new.held ≡ Some held → BeganSo was held
    pub gains : (held : Held C N) → old.held ≡ None → new.held ≡ Some held → Gains (marks_of act).2 old.word held

  abbrev held_of : Part C N → Option (Held C N)
  held_of part = part.held

  -- the section stays, and what is committed is the seat's
  stays : {seat : ℕ} {act : Act C} {old new : Part C N} {commits : List (Event C N)} → new.held ≡ old.held → AreBy seat commits → Makes seat act old new commits
  stays same by = record {
    by = by;
    began = λ was held n p q. let one : Some held ≡ Some was = sym q ∙ same ∙ p in let is : held ≡ was = cc in (ap (λ (x : Held C N). x.mode) is, ap (λ (x : Held C N). x.before) is, ap (λ (x : Held C N). x.entry) is);
    gains = λ held none q. let never : None ≡ Some held = sym none ∙ sym same ∙ q in absurd (cc);
  }

  -- there is none after
  ends : {seat : ℕ} {act : Act C} {old new : Part C N} {commits : List (Event C N)} → new.held ≡ None → AreBy seat commits → Makes seat act old new commits
  ends none by = record {
    by = by;
    began = λ was held n p q. let clash : None ≡ Some held = sym none ∙ q in absurd (cc);
    gains = λ held before q. let clash : None ≡ Some held = sym none ∙ q in absurd (cc);
  }

  none_by : (seat : ℕ) {commits : List (Event C N)} → commits ≡ [] → AreBy seat commits
  none_by seat e = subst (λ xs. AreBy seat xs) (sym e) tt

  one_by : (seat : ℕ) {commits : List (Event C N)} (event : Event C N) → who_of event ≡ seat → commits ≡ event ∷ [] → AreBy seat commits
  one_by seat event same e = subst (λ xs. AreBy seat xs) (sym e) (same, tt)

  returned_by : (seat : ℕ) {commits : List (Event C N)} (change : Change) (lists : Lists C) → commits ≡ change_commits seat change lists → AreBy seat commits
  returned_by seat change lists e = subst (λ xs. AreBy seat xs) (sym e) (change_by N seat change lists)

  pub makes : (truths : Truths C) (seat : ℕ) (act : Act C) (old : Part C N) (found : Found) (new : Part C N) (commits : List (Event C N)) → Effect truths seat act old found new commits → Makes seat act old new commits
  makes truths seat LoadWord old (Saw word) new commits e = stays (ap held_of e.1) (none_by seat e.2)
  makes truths seat (Acquire aim arrival last) old (Saw word) new commits e = stays (ap held_of e.2) (none_by seat e.3)
  makes truths seat (TakeQueues taking last) old (Saw word) new commits e = stays (ap held_of e.2) (none_by seat e.3)
  makes truths seat (ReturnQueues change last) old (Saw word) new commits e = stays (ap held_of e.2) (none_by seat e.3)
  makes truths seat (Release releasing last) old (Saw word) new commits e = stays (ap held_of e.2) (none_by seat e.3)
  makes truths seat (ReleaseReturning releasing last) old (Saw word) new commits e = stays (ap held_of e.2) (none_by seat e.3)
  makes truths seat (WaitReturning wait again last) old (Saw word) new commits e = stays (ap held_of e.2) (none_by seat e.3)
  makes truths seat (Acquire aim arrival last) old Made new commits e = record {
    by = none_by seat e.4;
    began = λ was held n p q. let clash : None ≡ Some was = sym e.2 ∙ p in absurd (cc);
    gains = λ held none q. let is : Some (newly_held aim old.row) ≡ Some held = sym (ap held_of e.3) ∙ q in let same : newly_held aim old.row ≡ held = cc in (e.0, e.1, ap (λ (x : Held C N). x.mode) same);
  }
  makes truths seat (TakeQueues taking last) old Made new commits e = stays (ap held_of e.2) (none_by seat e.3)
  makes truths seat (ReturnQueues change last) old Made new commits e = stays (ap held_of e.2) (returned_by seat change old.lists e.3)
  makes truths seat (ReturnQueues change last) old (Left stood) new commits e = stays (ap held_of e.2) (returned_by seat change old.lists e.3)
  makes truths seat (ReturnQueues change last) old (Woke owes) new commits e = stays (ap held_of e.2) (returned_by seat change old.lists e.3)
  makes truths seat (Release releasing last) old Made new commits e = ends (ap held_of e.4) (one_by seat _ refl e.5)
  makes truths seat (ReleaseReturning releasing last) old (Scanned owes tests) new commits e = ends (ap held_of e.4) (one_by seat _ refl e.7)
  makes truths seat (WaitReturning wait false last) old (Scanned owes tests) new commits e = ends (ap held_of e.4) (one_by seat _ refl e.7)
  makes truths seat (WaitReturning wait true last) old (Scanned owes tests) new commits e = ends (ap held_of e.4) (none_by seat e.7)
  makes truths seat (LoadCell i) old (Cell v) new commits e = stays (ap held_of e.1) (none_by seat e.2)
  makes truths seat (JudgeQuiet i) old (Quiet is_quiet) new commits e = stays (ap held_of e.3) (none_by seat e.4)
  makes truths seat (JudgeMet i c) old (Tested is_met) new commits e = stays (ap held_of e.3) (none_by seat e.4)
  makes truths seat (StoreCell i v) old Made new commits e = record {
    by = none_by seat e.4;
    began = λ was held n p q.
        let from : Some e.0 ≡ Some was = sym e.1 ∙ p in let to : Some held ≡ Some (record e.0 { row = slice_set e.0.row i v }) = sym q ∙ ap held_of e.3 in
        let start : e.0 ≡ was = cc in let end : held ≡ record e.0 { row = slice_set e.0.row i v } = cc in
        (ap (λ (x : Held C N). x.mode) end ∙ ap (λ (x : Held C N). x.mode) start, ap (λ (x : Held C N). x.before) end ∙ ap (λ (x : Held C N). x.before) start, ap (λ (x : Held C N). x.entry) end ∙ ap (λ (x : Held C N). x.entry) start);
    gains = λ held none q. let clash : None ≡ Some e.0 = sym none ∙ e.1 in absurd (cc);
  }
  makes truths seat ArmFlag old Made new commits e = stays (ap held_of e.0) (none_by seat e.1)
  makes truths seat PayWake old (Paid owes) new commits e = stays (ap held_of e.3) (none_by seat e.5)
  makes truths seat LoadFlag old (Flag v) new commits e = stays (ap held_of e.1) (none_by seat e.2)
  makes truths seat (Look limits false) old (Looked None) new commits e = stays (ap held_of e.1) (none_by seat e.2)
  makes truths seat (Look limits false) old (Looked (Some cause)) new commits e = stays (ap held_of e.1) (none_by seat e.2)
  makes truths seat (Look limits true) old (Looked None) new commits e = stays (ap held_of e.1) (none_by seat e.2)
  makes truths seat (Look limits true) old (Looked (Some cause)) new commits e = record {
    by = none_by seat e.2;
    began = λ was held n p q. absurd (cc);
    gains = λ held none q. let clash : None ≡ Some held = sym (ap held_of e.1 ∙ ap (held_after true (Some cause)) none) ∙ q in absurd (cc);
  }
  makes truths seat _ old _ new commits e = absurd e
