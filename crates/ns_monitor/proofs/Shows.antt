-- A call that shows, step by step, and the state that it shows.
use Rattle.std.proofs.Common.{Bool, None, Some, ap, append-nil, cond, false, refl, subst, sym, true, ℕ, ◌++◌, ◌∙◌, ◌∷◌, ◌≡◌}
use Rattle.ns_monitor.proofs.Prelude.{BeginsWith, HasReached, HasSince, HasStood, HasUnchangedQueues, Idle, InShow, IsAtPlace, IsLawful, LoadWord, LockState, Made, On, Part, Performed, ReturnShown, Saw, SeatOf, ShowLoad, TableId, TakeQueues, TakeToShow, ToChange, Told, Truths, Word}
use Rattle.ns_monitor.proofs.Prelude.{begins_itself, begins_through, effect_of, goes, goes_on, known_of, own_of, show_by, showing, the, word_taken}
use Rattle.ns_word.specs.declared.request.Request.TheVariants as TheRequest

module _ {C : Type 0} {N : ℕ} (truths : Truths C) where
  -- ---- it takes the queues

  -- the word last seen decides
  pub shows_by : (word : Word) (b : Bool) (me : SeatOf C N) → word.spin ≡ b → HasReached truths TheRequest.Show (show_by word) me → HasReached truths TheRequest.Show (cond b (Idle (InShow ShowLoad)) (On (InShow (TakeToShow word)))) me
  shows_by word b me is led = subst (λ x. HasReached truths TheRequest.Show (cond x (Idle (InShow ShowLoad)) (On (InShow (TakeToShow word)))) me) is led

  pub loads_to_show : (word : Word) (me now : SeatOf C N) → IsAtPlace truths (InShow ShowLoad) me → Performed truths None LoadWord (Saw word) me now → HasReached truths TheRequest.Show (show_by word) now
  loads_to_show word me now at p = goes truths (InShow ShowLoad) LoadWord (Saw word) (show_by word) me now at refl refl refl p

  -- another step came between
  pub misses_to_show : (last word : Word) (me now : SeatOf C N) → IsAtPlace truths (InShow (TakeToShow last)) me → Performed truths None (TakeQueues ToChange last) (Saw word) me now → HasReached truths TheRequest.Show (show_by word) now
  misses_to_show last word me now at p = goes truths (InShow (TakeToShow last)) (TakeQueues ToChange last) (Saw word) (show_by word) me now at refl refl refl p

  -- it has them
  pub takes_to_show : (last : Word) (me now : SeatOf C N) → IsAtPlace truths (InShow (TakeToShow last)) me → Performed truths None (TakeQueues ToChange last) Made me now → IsAtPlace truths (InShow (ReturnShown (word_taken ToChange last))) now × HasUnchangedQueues now
  takes_to_show last me now at p = (
    goes_on truths (InShow (TakeToShow last)) (TakeQueues ToChange last) Made (On (InShow (ReturnShown (word_taken ToChange last)))) me now at refl (λ e. absurd (let f : true ≡ false = e in cc)) p,
    p.carried ∙ ap (λ slots. (0, (the now.0).stood) ∷ slots) (at.empty refl),
  )

  -- ---- the state that it found

  -- The exchange that took the queues compared the word of a state that is lawful, whose lists are the ones in hand since.
  pub has_stood : (was is : TableId) (last : Word) (start me now : SeatOf C N) → HasSince (Some showing) (the start.0) (the me.0) → IsAtPlace truths (InShow (TakeToShow last)) me →
      Performed truths None (TakeQueues ToChange last) Made me now → HasStood truths last (the now.0).stood (known_of was start) (known_of is now)
  has_stood was is last start me now s at p =
      let d = p.did in let v = the me.0 in let e = effect_of truths (TakeQueues ToChange last) Made me now p in
      let mine : v.told.mine ≡ (the start.0).told.mine = s.mine ∙ (ap (λ es. (the start.0).told.mine ++ es) (sym s.committed ∙ at.so_far.silent) ∙ append-nil (the start.0).told.mine) in
      let seen : (the now.0).told.seen ≡ d.history = ap (λ (t : Told C N). t.seen) d.tells ∙ (ap (λ es. d.history ++ es) e.3 ∙ append-nil d.history) in
      record {
        history = d.history;
        state = d.old;
        lawful = subst (λ n. IsLawful truths n d.history d.old) s.seat_count d.lawful;
        word_is = sym e.0;
        clear = e.1;
        lists_are = sym (d.stood_now ∙ ap (λ (q : Part C N). q.lists) e.2);
        after = begins_through d.history v.told.seen (the start.0).told.seen d.told_was.seen_of s.begins;
        before = subst (λ seen. BeginsWith seen d.history) (sym seen) (begins_itself d.history);
        own = (λ i. own_of d.history (sym s.seat i)) ∙ (sym d.told_was.own_of ∙ mine);
        front = d.made.step.front;
        view = v.at;
        back = d.made.step.back;
        there = ap (λ (x : LockState C N). x.views) (sym d.made.begins) ∙ d.made.step.was;
        seat = s.seat;
        held = at.so_far.same ∙ s.began;
      }
