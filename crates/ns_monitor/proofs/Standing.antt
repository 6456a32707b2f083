-- The loops of a call, step by step, by the place at which it stands.
use Rattle.std.proofs.Common.{Bool, Err, IfErr, List, None, Ok, Option, Result, Some, [], ap, append-nil, cond, false, refl, subst, sym, true, ℕ, ◌++◌, ◌<◌, ◌∙◌, ◌∷◌, ◌≡◌}
use Rattle.ns_monitor.proofs.Prelude.{Acquire, AcquireLoad, Acquiring, Act, Bits, CameByGuess, CanStep, Carries, Change, Changed, Changing, Decides, Effect, Event, Flag, ForLock, ForWait, Found, GateView, Going, HasBegunBy, HasGoneBehind, HasInHand, HasKeptItsQueues, HasReached, HasSince}
use Rattle.ns_monitor.proofs.Prelude.{HasStepped, HasTakenAt, Held, Idle, InAcquire, InLeaving, InQueuing, InRelease, InShow, InSignal, InWait, IsAtPlace, IsAtRest, IsFirst, IsNumberOf, IsOwedNext, IsPackable, Leave, LeaveLoad, Leaving, Lists, Load, LoadFlag, LoadWord, LockState, Made, MayGoAlone}
use Rattle.ns_monitor.proofs.Prelude.{On, Owed, OwesBelow, OwesTheWoken, Paid, Part, PayWake, Pays, Performed, PlaceFits, PutsBack, Queue, QueueToWait, ReleaseLoad, ReleaseReturning, Released, Request, ReturnQueues, ReturnShown, Returning, Saw, ScanAndRelease, ScanCells, SeatOf, SeatView}
use Rattle.ns_monitor.proofs.Prelude.{SectionFits, SignalLoad, Sleeps, TakeQueues, Taking, ToChange, ToQueue, Told, Truths, Turned, WaitReturning, Waited, Walk, WantsNext, Word, act_returning, asked_of, begins, bits_of, called_of, can_go, carried_by, changed, does, found_back, found_returned, goes}
use Rattle.ns_monitor.proofs.Prelude.{goes_on, going_act, going_at, going_of, gone_to, got_of, has_queues, has_some, lists_returned, may_go, meets_at, moves, orderly_now, owes_more, part_of, place_after, release_has_queues, rest, rest_of, returning_at, returning_of, row_in, scan_place, scanning_at}
use Rattle.ns_monitor.proofs.Prelude.{since, since_then, some_returned, standing_after, stays_by, taken_at, taking_at, taking_for, the, view_fits, view_in, want_of, woken_of, word_taken}
use Rattle.ns_monitor.specs.Prelude.{Release, StandsAt}

-- a word that was taken has a number, if the word before has
pub taken_packs : (taking : Taking) (word : Word) → IsPackable word → IsPackable (word_taken taking word)
taken_packs ToChange word p = record { few = p.few; alone = p.alone }
taken_packs (ToQueue mode arrival) word p = record { few = p.few; alone = p.alone }

-- and tells of conditions what that told
taken_tells : (taking : Taking) (word : Word) → (word_taken taking word).cond ≡ word.cond
taken_tells ToChange word = refl
taken_tells (ToQueue mode arrival) word = refl

-- what a call was told of its word
pub may_by : {C : Type 0} (going : Going C) (walk : Walk C) (word : Word) (told b : Bool) → going ≡ going_of walk → told ≡ may_go going word → told ≡ b → (may_go going word ≡ b) × (may_go (going_of walk) word ≡ b)
may_by going walk word told b is tells so = (sym tells ∙ so, ap (λ x. may_go x word) (sym is) ∙ (sym tells ∙ so))

-- a release that scans has the queues at each place
scan_has : (b : Bool) (word : Word) (i : ℕ) → release_has_queues (cond b (ScanCells word i) (ScanAndRelease word)) ≡ true
scan_has true word i = refl
scan_has false word i = refl

scanning_has : (N : ℕ) (word : Word) → release_has_queues (scanning_at N word) ≡ true
scanning_has N word = by_cond word.cond where
  by_cond : (b : Bool) → release_has_queues (cond b (scan_place N word 0) (ScanAndRelease word)) ≡ true
  by_cond true = scan_has _ word 0
  by_cond false = refl

-- ---- where a call goes by the word last seen

-- about to go it wants the exchange, and is as at the load where that fails
record GoesAt {C : Type 0} (N : ℕ) (walk : Walk C) (last : Word) : Type 0 where
  wants : want_of (going_at walk last) ≡ going_act (going_of walk) last
  free : has_queues (Some (going_at walk last)) ≡ false
  missed : (word : Word) → got_of N (going_at walk last) (Saw word) ≡ got_of N walk (Saw word)
  made : got_of N (going_at walk last) Made ≡ gone_to N walk
  asked : asked_of (going_at walk last) ≡ asked_of walk

-- so it is about to take the queues
record TakesAt {C : Type 0} (N : ℕ) (walk : Walk C) (last : Word) : Type 0 where
  wants : want_of (taking_at walk last) ≡ TakeQueues (taking_for (going_of walk)) last
  free : has_queues (Some (taking_at walk last)) ≡ false
  missed : (word : Word) → got_of N (taking_at walk last) (Saw word) ≡ got_of N walk (Saw word)
  made : got_of N (taking_at walk last) Made ≡ On (taken_at N walk (word_taken (taking_for (going_of walk)) last))
  has : has_queues (Some (taken_at N walk (word_taken (taking_for (going_of walk)) last))) ≡ true
  asked : asked_of (taking_at walk last) ≡ asked_of walk

-- a call loads the word without the queues, and goes on by what it saw
record DecidesAt {C : Type 0} (N : ℕ) (walk : Walk C) : Type 0 where
  wants : want_of walk ≡ LoadWord
  free : has_queues (Some walk) ≡ false
  by_word : (word : Word) → got_of N walk (Saw word) ≡ cond (may_go (going_of walk) word) (On (going_at walk word)) (cond word.spin (Idle walk) (On (taking_at walk word)))
  goes : (last : Word) → may_go (going_of walk) last ≡ true → GoesAt N walk last
  takes : (last : Word) → TakesAt N walk last

decides_at : {C : Type 0} (N : ℕ) (walk : Walk C) → Decides walk → DecidesAt N walk
decides_at N (InAcquire (ForLock mode) (AcquireLoad arrival)) d = record {
  wants = refl;
  free = refl;
  by_word = λ word. refl;
  goes = λ last may. record { wants = refl; free = refl; missed = λ word. refl; made = refl; asked = refl };
  takes = λ last. record { wants = refl; free = refl; missed = λ word. refl; made = refl; has = refl; asked = refl };
}
decides_at N (InAcquire (ForWait wait outcome) (AcquireLoad arrival)) d = record {
  wants = refl;
  free = refl;
  by_word = λ word. refl;
  goes = λ last may. record { wants = refl; free = refl; missed = λ word. refl; made = refl; asked = refl };
  takes = λ last. record { wants = refl; free = refl; missed = λ word. refl; made = refl; has = refl; asked = refl };
}
decides_at N (InRelease releasing ReleaseLoad) d = record {
  wants = refl;
  free = refl;
  by_word = λ word. refl;
  goes = λ last may. record { wants = refl; free = refl; missed = λ word. refl; made = refl; asked = refl };
  takes = λ last. record { wants = refl; free = refl; missed = λ word. refl; made = refl; has = scanning_has N (word_taken ToChange last); asked = refl };
}
decides_at N (InWait wait (InQueuing again Load)) d = record { wants = refl; free = refl; by_word = λ word. refl; goes = λ last may. absurd (cc); takes = λ last. record { wants = refl; free = refl; missed = λ word. refl; made = refl; has = refl; asked = refl } }
decides_at N (InWait wait (InLeaving cause LeaveLoad)) d = record { wants = refl; free = refl; by_word = λ word. refl; goes = λ last may. absurd (cc); takes = λ last. record { wants = refl; free = refl; missed = λ word. refl; made = refl; has = refl; asked = refl } }
decides_at N (InSignal waking k SignalLoad) d = record { wants = refl; free = refl; by_word = λ word. refl; goes = λ last may. absurd (cc); takes = λ last. record { wants = refl; free = refl; missed = λ word. refl; made = refl; has = refl; asked = refl } }
decides_at N other d = absurd d

-- one that its word lets go may go without the queues
pub goes_alone : {C : Type 0} (going : Going C) (word : Word) → may_go going word ≡ true → MayGoAlone going
goes_alone (Acquiring aim arrival) word may = tt
goes_alone (Leaving releasing) word may = tt
goes_alone Changing word may = absurd (cc)

-- an exchange by which a call goes leaves the slots
keeps_slots : {C : Type 0} (going : Going C) (last : Word) (found : Found) (stood : Lists C) (slots : List (ℕ × Lists C)) → may_go going last ≡ true → carried_by (going_act going last) found stood slots ≡ slots
keeps_slots (Acquiring aim arrival) last found stood slots may = refl
keeps_slots (Leaving releasing) last found stood slots may = refl
keeps_slots Changing last found stood slots may = absurd (cc)

-- Putting the queues back it wants that, and stays where it is where that fails. What is found doesn't go by the word, and the slot is empty then.
record PutsAt {C : Type 0} (N : ℕ) (walk : Walk C) (last : Word) : Type 1 where
  wants : want_of (returning_at walk last) ≡ act_returning (returning_of walk) last
  has : (word : Word) → has_queues (Some (returning_at walk word)) ≡ true
  missed : (word : Word) → got_of N (returning_at walk last) (Saw word) ≡ On (returning_at walk word)
  made : (truths : Truths C) (seat : ℕ) (row : List ℕ) (stood : Lists C) → got_of N (returning_at walk last) (found_returned truths seat (returning_of walk) last row stood) ≡ got_of N walk (found_returned truths seat (returning_of walk) last row stood)
  same : (truths : Truths C) (first : Word) (seat : ℕ) (row : List ℕ) (stood : Lists C) → found_returned truths seat (returning_of walk) last row stood ≡ found_returned truths seat (returning_of walk) first row stood
  empties : (truths : Truths C) (seat : ℕ) (row : List ℕ) (stood now : Lists C) (slots : List (ℕ × Lists C)) → carried_by (act_returning (returning_of walk) last) (found_returned truths seat (returning_of walk) last row stood) now slots ≡ rest slots
  asked : asked_of (returning_at walk last) ≡ asked_of walk

module _ {C : Type 0} where
  puts_at : (N : ℕ) (walk : Walk C) (last : Word) → PutsBack walk → PutsAt N walk last
  puts_at N (InAcquire aim (Queue arrival other)) last puts = record { wants = refl; has = λ word. refl; missed = λ word. refl; made = λ truths seat row stood. refl; same = λ truths first seat row stood. refl; empties = λ truths seat row stood now slots. refl; asked = refl }
  puts_at N (InRelease releasing (ScanAndRelease other)) last puts = record { wants = refl; has = λ word. refl; missed = λ word. refl; made = λ truths seat row stood. refl; same = λ truths first seat row stood. refl; empties = λ truths seat row stood now slots. refl; asked = refl }
  puts_at N (InWait wait (InQueuing again (QueueToWait other))) last puts = record { wants = refl; has = λ word. refl; missed = λ word. refl; made = λ truths seat row stood. refl; same = λ truths first seat row stood. refl; empties = λ truths seat row stood now slots. refl; asked = refl }
  puts_at N (InWait wait (InLeaving cause (Leave other))) last puts = record { wants = refl; has = λ word. refl; missed = λ word. refl; made = λ truths seat row stood. refl; same = λ truths first seat row stood. refl; empties = λ truths seat row stood now slots. refl; asked = refl }
  puts_at N (InShow (ReturnShown other)) last puts = record { wants = refl; has = λ word. refl; missed = λ word. refl; made = λ truths seat row stood. refl; same = λ truths first seat row stood. refl; empties = λ truths seat row stood now slots. refl; asked = refl }
  puts_at N other last puts = absurd puts

  -- the slot stays as it was where another word was found
  saw_slots : (returning : Returning C) (last word : Word) (now : Lists C) (slots : List (ℕ × Lists C)) → carried_by (act_returning returning last) (Saw word) now slots ≡ slots
  saw_slots (Changed change) last word now slots = refl
  saw_slots other last word now slots = refl

same_owed : {C : Type 0} {N : ℕ} (truths : Truths C) (returning : Returning C) (start me : SeatOf C N) (owed : List Owed) → HasKeptItsQueues start me → OwesTheWoken truths returning me owed → OwesTheWoken truths returning start owed
same_owed truths (Changed change) start me owed s is = tt
same_owed truths (Released releasing) start me owed s is = is ∙ (λ i. called_of (woken_of (meets_at truths (row_in (s.held i))) (s.stood i).lock))
same_owed truths (Waited wait again) start me owed s is = is ∙ (λ i. called_of (woken_of (meets_at truths (row_in (s.held i))) (s.stood i).lock))

-- what saw another word has changed nothing
pub saw_keeps : {C : Type 0} {N : ℕ} (truths : Truths C) (seat : ℕ) (act : Act C) (old new : Part C N) (word : Word) (commits : List (Event C N)) → Effect truths seat act old (Saw word) new commits → new ≡ old
saw_keeps truths seat LoadWord old new word commits e = e.1
saw_keeps truths seat (Acquire aim arrival last) old new word commits e = e.2
saw_keeps truths seat (TakeQueues taking last) old new word commits e = e.2
saw_keeps truths seat (ReturnQueues change last) old new word commits e = e.2
saw_keeps truths seat (Release releasing last) old new word commits e = e.2
saw_keeps truths seat (ReleaseReturning releasing last) old new word commits e = e.2
saw_keeps truths seat (WaitReturning wait again last) old new word commits e = e.2
saw_keeps truths seat _ old new word commits e = absurd e

module _ {C : Type 0} {N : ℕ} (truths : Truths C) where
  pub held_in : (b : Option (Walk C)) (view : SeatView C N) → (view_in view b).held ≡ view.held
  held_in None view = refl
  held_in (Some first) view = refl

  -- a step that changes nothing leaves the section in hand
  pub same_held : (b : Option (Walk C)) (act : Act C) (found : Found) (me now : SeatOf C N) (p : Performed truths b act found me now) → p.did.made.step.held ≡ (view_in (the me.0).at b).held → (the now.0).at.held ≡ (the me.0).at.held
  same_held b act found me now p same = ap (λ (x : SeatView C N). x.held) p.did.becomes ∙ (same ∙ held_in b (the me.0).at)

  -- a step that saw a word leaves the section in hand
  pub saw_held : (act : Act C) (word : Word) (me now : SeatOf C N) → Performed truths None act (Saw word) me now → (the now.0).at.held ≡ (the me.0).at.held
  saw_held act word me now p = let d = p.did in same_held None act (Saw word) me now p (ap (λ (q : Part C N). q.held)
      (saw_keeps truths (the me.0).at.seat act (part_of d.made.between (the me.0).at.held (the me.0).at.owed) (part_of d.new d.made.step.held d.made.step.owed) word d.commits
      (does truths None act (Saw word) me now p)))

  -- a step that commits nothing leaves the caller's own events
  pub commits_none : (b : Option (Walk C)) (act : Act C) (found : Found) (me now : SeatOf C N) (p : Performed truths b act found me now) → p.did.commits ≡ [] → (the now.0).told.mine ≡ (the me.0).told.mine
  commits_none b act found me now p none = ap (λ (t : Told C N). t.mine) p.did.tells ∙ (ap (λ es. (the me.0).told.mine ++ es) none ∙ append-nil (the me.0).told.mine)

  -- the number of a seat stays
  pub same_number : (calls : Option (Walk C)) (number : ℕ) (me now : SeatOf C N) → IsNumberOf number me → HasSince calls (the me.0) (the now.0) → IsNumberOf number now
  same_number calls number me now n s = (n.0 ∙ sym s.seat, n.1)

  -- the word last seen decides where it goes
  pub decided : (walk : Walk C) (word : Word) (may spin : Bool) (me : SeatOf C N) → Decides walk → may_go (going_of walk) word ≡ may → word.spin ≡ spin → HasReached truths (asked_of walk) (got_of N walk (Saw word)) me →
      HasReached truths (asked_of walk) (cond may (On (going_at walk word)) (cond spin (Idle walk) (On (taking_at walk word)))) me
  decided walk word may spin me d may_is spin_is led = subst (λ (b : Bool × Bool). HasReached truths (asked_of walk)
      (cond b.0 (On (going_at walk word)) (cond b.1 (Idle walk) (On (taking_at walk word)))) me) (λ i. (may_is i, spin_is i))
      (subst (λ next. HasReached truths (asked_of walk) next me) ((decides_at N walk d).by_word word) led)

  pub can_load : (walk : Walk C) (me : SeatOf C N) → Decides walk → IsAtPlace truths walk me → CanStep truths None LoadWord me
  can_load walk me d at = can_go truths walk LoadWord me (decides_at N walk d).wants at

  pub loads : (walk : Walk C) (word : Word) (me now : SeatOf C N) → Decides walk → IsAtPlace truths walk me → Performed truths None LoadWord (Saw word) me now → HasReached truths (asked_of walk) (got_of N walk (Saw word)) now
  loads walk word me now d at p = goes truths walk LoadWord (Saw word) (got_of N walk (Saw word)) me now at (decides_at N walk d).free refl refl p

  -- the same as a call begins
  pub loads_first : (first walk : Walk C) (word : Word) (me now : SeatOf C N) → walk ≡ first → IsAtRest truths me → Performed truths (Some walk) LoadWord (Saw word) me now → HasReached truths (asked_of first) (got_of N first (Saw word)) now × HasSince (Some first) (the me.0) (the now.0)
  loads_first first walk word me now is rest did = let p = subst (λ w. Performed truths (Some w) LoadWord (Saw word) me now) is did in
      (begins truths first LoadWord (Saw word) (got_of N first (Saw word)) me now refl (λ _. p.carried ∙ rest.empty) p, since truths (Some first) LoadWord (Saw word) me now p)

  -- ---- it goes

  pub can_go_by : (walk : Walk C) (last : Word) (me : SeatOf C N) → Decides walk → may_go (going_of walk) last ≡ true → IsAtPlace truths (going_at walk last) me → CanStep truths None (going_act (going_of walk) last) me
  can_go_by walk last me d may at = can_go truths (going_at walk last) (going_act (going_of walk) last) me ((decides_at N walk d).goes last may).wants at

  pub goes_by : (walk : Walk C) (last : Word) (me now : SeatOf C N) → Decides walk → may_go (going_of walk) last ≡ true → IsAtPlace truths (going_at walk last) me → Performed truths None (going_act (going_of walk) last) Made me now → HasReached truths (asked_of walk) (gone_to N walk) now
  goes_by walk last me now d may at p = let g = (decides_at N walk d).goes last may in
      subst (λ r. HasReached truths r (gone_to N walk) now) g.asked (goes truths (going_at walk last) (going_act (going_of walk) last) Made (gone_to N walk) me now at g.free g.made (keeps_slots (going_of walk) last Made (the now.0).stood me.1 may) p)

  -- a call that loads the word first may begin so
  pub may_decide : (walk : Walk C) (me : SeatOf C N) → Decides walk → IsFirst N walk → PlaceFits truths (Some walk) (the me.0).at.held → IsAtRest truths me → CanStep truths (Some walk) LoadWord me
  may_decide walk me d first fits rest = record { one = rest.one; may = (rest.over, first, fits); walk = walk; walks = refl; wants = (decides_at N walk d).wants }

  -- the same of a call that stands there, or begins there
  pub may_load : (b : Option (Walk C)) (walk : Walk C) (me : SeatOf C N) → Decides walk → StandsAt truths b walk me → CanStep truths b LoadWord me
  may_load None walk me d at = can_load walk me d at
  may_load (Some first) walk me d at = may_decide first me (subst Decides (sym at.0) d) at.2 at.3 at.1

  -- it has seen this word, and its section is as it was
  pub has_loaded : (b : Option (Walk C)) (walk : Walk C) (word : Word) (me now : SeatOf C N) → Decides walk → StandsAt truths b walk me → Performed truths b LoadWord (Saw word) me now → HasReached truths (asked_of walk) (got_of N walk (Saw word)) now × ((the now.0).at.held ≡ (the me.0).at.held)
  has_loaded None walk word me now d at p = (loads walk word me now d at p, saw_held LoadWord word me now p)
  has_loaded (Some first) walk word me now d at p = ((loads_first walk first word me now at.0 at.1 p).0, same_held (Some first) LoadWord (Saw word) me now p (ap (λ (q : Part C N). q.held) (does truths (Some first) LoadWord (Saw word) me now p).1))

  -- where the word lets it, it wants to go next
  pub wants_to_go : (walk : Walk C) (going : Going C) (word : Word) → Decides walk → going ≡ going_of walk → may_go going word ≡ true → WantsNext N walk word (going_act going word)
  wants_to_go walk going word d is may =
      let lets : may_go (going_of walk) word ≡ true = ap (λ (x : Going C). may_go x word) (sym is) ∙ may in
      record {
        next = going_at walk word;
        goes = ap place_after ((decides_at N walk d).by_word word ∙ ap (λ (b : Bool). cond b (On (going_at walk word)) (cond word.spin (Idle walk) (On (taking_at walk word)))) lets);
        wants = ((decides_at N walk d).goes word lets).wants ∙ ap (λ (x : Going C). going_act x word) (sym is);
      }

  -- what came of a guess by which it may go
  pub began_by : (walk : Walk C) (going : Going C) (guess : Word) (result : Result Unit Word) (me now : SeatOf C N) → may_go going guess ≡ true → IfErr result IsPackable → CameByGuess truths walk guess (going_act going guess) result me now → HasBegunBy truths walk going result me now
  began_by walk going guess (Ok x) me now may packs came = record { word = guess; may = may; both = came }
  began_by walk going guess (Err word) me now may packs came = (packs, came.1)

  -- it has gone right behind the load with which it began
  pub goes_behind : (walk : Walk C) (going : Going C) (me now : SeatOf C N) → Decides walk → going ≡ going_of walk → IsAtRest truths me → HasGoneBehind truths walk going me now →
      HasSince (Some walk) (the me.0) (the now.0) × MayGoAlone (going_of walk) × HasReached truths (asked_of walk) (gone_to N walk) now
  goes_behind walk going me now d is rest b =
      let word = b.word in let mid = b.both.between in
      let may : may_go (going_of walk) word ≡ true = ap (λ (x : Going C). may_go x word) (sym is) ∙ b.may in
      let led = loads_first walk walk word me mid refl rest b.both.loaded in
      let at = decided walk word true word.spin mid d may refl led.0 in (
        since_then (Some walk) _ _ _ led.1 (since truths None (going_act going word) Made mid now b.both.made),
        goes_alone (going_of walk) word may,
        goes_by walk word mid now d may at (subst (λ (x : Going C). Performed truths None (going_act x word) Made mid now) is b.both.made),
      )

  -- another step came between
  pub misses : (walk : Walk C) (last word : Word) (me now : SeatOf C N) → Decides walk → may_go (going_of walk) last ≡ true → IsAtPlace truths (going_at walk last) me →
      Performed truths None (going_act (going_of walk) last) (Saw word) me now → HasReached truths (asked_of walk) (got_of N walk (Saw word)) now
  misses walk last word me now d may at p = let g = (decides_at N walk d).goes last may in
      subst (λ r. HasReached truths r (got_of N walk (Saw word)) now) g.asked (goes truths (going_at walk last) (going_act (going_of walk) last) (Saw word) (got_of N walk (Saw word)) me now at g.free (g.missed word) (keeps_slots (going_of walk) last (Saw word) (the now.0).stood me.1 may) p)

  -- ---- it takes the queues

  pub can_take : (walk : Walk C) (last : Word) (me : SeatOf C N) → Decides walk → IsAtPlace truths (taking_at walk last) me → CanStep truths None (TakeQueues (taking_for (going_of walk)) last) me
  can_take walk last me d at = can_go truths (taking_at walk last) (TakeQueues (taking_for (going_of walk)) last) me ((decides_at N walk d).takes last).wants at

  pub misses_taking : (walk : Walk C) (last word : Word) (me now : SeatOf C N) → Decides walk → IsAtPlace truths (taking_at walk last) me → Performed truths None (TakeQueues (taking_for (going_of walk)) last) (Saw word) me now → HasReached truths (asked_of walk) (got_of N walk (Saw word)) now
  misses_taking walk last word me now d at p = let t = (decides_at N walk d).takes last in
      subst (λ r. HasReached truths r (got_of N walk (Saw word)) now) t.asked (goes truths (taking_at walk last) (TakeQueues (taking_for (going_of walk)) last) (Saw word) (got_of N walk (Saw word)) me now at t.free (t.missed word) refl p)

  -- then the word tells whether some waiter has a condition
  cond_tells : (taking : Taking) (last : Word) (me now : SeatOf C N) → Performed truths None (TakeQueues taking last) Made me now → last.cond ≡ (bits_of (the now.0).stood.lock).conditional
  cond_tells taking last me now p =
      let d = p.did in let e = does truths None (TakeQueues taking last) Made me now p in
      let word : last ≡ d.old.word = e.0 ∙ ap (λ (s : LockState C N). s.word) d.made.begins in
      let lists : (the now.0).stood ≡ d.old.lists = d.stood_now ∙ (ap (λ (q : Part C N). q.lists) e.2 ∙ ap (λ (s : LockState C N). s.lists) d.made.begins) in
      ap (λ (w : Word). w.cond) word ∙ (ap (λ b. b.conditional) (d.lawful.bits_tell.at_home (ap (λ (w : Word). w.spin) (sym word) ∙ e.1)) ∙ ap (λ (l : Lists C). (bits_of l.lock).conditional) (sym lists))

  pub took : (walk : Walk C) (last : Word) (start me now : SeatOf C N) → Decides walk → IsPackable last → (the me.0).at.held ≡ (the start.0).at.held → IsAtPlace truths (taking_at walk last) me → Performed truths None (TakeQueues (taking_for (going_of walk)) last) Made me now
      → HasTakenAt truths walk (word_taken (taking_for (going_of walk)) last) start now
  took walk last start me now d packs held at p =
      let t = (decides_at N walk d).takes last in let taking = taking_for (going_of walk) in let word = word_taken taking last in let e = does truths None (TakeQueues taking last) Made me now p in record {
        at = goes_on truths (taking_at walk last) (TakeQueues taking last) Made (On (taken_at N walk word)) me now at t.made (λ e. absurd (let h = t.has in cc)) p;
        taken = p.carried ∙ ap (λ slots. (0, (the now.0).stood) ∷ slots) (at.empty t.free);
        packs = taken_packs taking last packs;
        held = same_held None (TakeQueues taking last) Made me now p (ap (λ (q : Part C N). q.held) e.2) ∙ held;
        tells = taken_tells taking last ∙ cond_tells taking last me now p;
        orderly = orderly_now truths None (TakeQueues taking last) Made me now p;
      }

  -- ---- it puts them back

  -- the row of the section in hand is the lock's
  pub row_at : (found : Found) (v w : GateView C N) (d : HasStepped truths None found v w) (held : Held C N) → v.at.held ≡ Some held → row_in v.at.held ≡ d.made.between.row
  row_at found v w d held has =
      let split = ap (λ (s : LockState C N). s.views) (sym d.made.begins) ∙ d.made.step.was in
      let fits = view_fits truths v.seat_count d.few d.history d.old d.made.step.front v.at d.made.step.back split d.lawful in
      ap row_in has ∙ ((subst (λ o. SectionFits (standing_after d.history) d.old.row v.at.seat v.at.walk o) has fits.section).cells ∙ ap (λ (s : LockState C N). s.row) (sym d.made.begins))

  -- what is in hand stays so, while another word is found
  pub hand_stays : (returning : Returning C) (turned : Turned) (me now : SeatOf C N) → HasKeptItsQueues me now → HasInHand truths returning turned me → HasInHand truths returning turned now
  hand_stays returning turned me now s hand = λ last. record {
    carries = s.slots ∙ ((hand last).carries ∙ (λ i. (0, lists_returned truths (sym s.seat i) returning last (row_in (sym s.held i)) (sym s.stood i)) ∷ []));
    some = (hand last).some ∙ (λ i. some_returned truths returning last (row_in (sym s.held i)) (sym s.stood i));
    bits = (hand last).bits ∙ (λ i. bits_of (lists_returned truths (sym s.seat i) returning last (row_in (sym s.held i)) (sym s.stood i)).lock);
  }

  -- what was made of the queues in hand by one that puts itself in or takes itself out
  pub hand_by : (change : Change) (bits : Bits) (me now : SeatOf C N) → now.0 ≡ me.0 → ((last : Word) → moves change last (the me.0).stood ≡ false) →
      ((last : Word) → Carries (changed (the me.0).at.seat change last (the me.0).stood) now) → ((last : Word) → bits ≡ bits_of (changed (the me.0).at.seat change last (the me.0).stood).lock)
      → HasInHand truths (Changed change) (record { some = false; bits = bits }) now
  hand_by change bits me now same still lists tells = λ last. record {
    carries = lists last ∙ (λ i. (0, changed (the (sym same i)).at.seat change last (the (sym same i)).stood) ∷ []);
    some = sym (still last) ∙ (λ i. moves change last (the (sym same i)).stood);
    bits = tells last ∙ (λ i. bits_of (changed (the (sym same i)).at.seat change last (the (sym same i)).stood).lock);
  }

  pub can_put_back : (walk : Walk C) (last : Word) (me : SeatOf C N) → PutsBack walk → IsAtPlace truths (returning_at walk last) me → CanStep truths None (act_returning (returning_of walk) last) me
  can_put_back walk last me puts at = can_go truths (returning_at walk last) (act_returning (returning_of walk) last) me (puts_at N walk last puts).wants at

  -- another step came between
  pub misses_back : (walk : Walk C) (last word : Word) (me now : SeatOf C N) → PutsBack walk → IsAtPlace truths (returning_at walk last) me → Performed truths None (act_returning (returning_of walk) last) (Saw word) me now → IsAtPlace truths (returning_at walk word) now × HasKeptItsQueues me now
  misses_back walk last word me now puts at p =
      let r = puts_at N walk last puts in let act = act_returning (returning_of walk) last in
      let e = saw_keeps truths (the me.0).at.seat act (part_of p.did.made.between (the me.0).at.held (the me.0).at.owed) (part_of p.did.new p.did.made.step.held p.did.made.step.owed) word p.did.commits (does truths None act (Saw word) me now p) in (
        goes_on truths (returning_at walk last) act (Saw word) (On (returning_at walk word)) me now at (r.missed word) (λ e. absurd (let h = r.has word in cc)) p,
        stays_by truths act (Saw word) me now p (ap has_queues at.walks ∙ r.has last) (p.carried ∙ saw_slots (returning_of walk) last word (the now.0).stood me.1) (ap (λ (q : Part C N). q.lists) e ∙ ap (λ (s : LockState C N). s.lists) p.did.made.begins) (ap (λ (q : Part C N). q.held) e),
      )

  by_effect : (found : Found) (me now : SeatOf C N) (d : HasStepped truths None found (the me.0) (the now.0)) → has_queues (the me.0).at.walk ≡ true → (held : Held C N) → (the me.0).at.held ≡ Some held →
      d.made.step.owed ≡ called_of (woken_of (meets_at truths d.made.between.row) d.made.between.lists.lock) → (the now.0).at.owed ≡ called_of (woken_of (meets_at truths (row_in (the me.0).at.held)) (the me.0).stood.lock)
  by_effect found me now d has held there owed =
      let row : d.made.between.row ≡ row_in (the me.0).at.held = sym (row_at found (the me.0) (the now.0) d held there) in
      let stood : d.made.between.lists ≡ (the me.0).stood = ap (λ (s : LockState C N). s.lists) d.made.begins ∙ sym (d.stood_was has) in
      ap (λ (x : SeatView C N). x.owed) d.becomes ∙ (owed ∙ (λ i. called_of (woken_of (meets_at truths (row i)) (stood i).lock)))

  -- whom it owes a wake then
  owes_woken : (returning : Returning C) (last : Word) (me now : SeatOf C N) → has_queues (the me.0).at.walk ≡ true → Performed truths None (act_returning returning last) (found_back truths returning last me) me now → OwesTheWoken truths returning me (the now.0).at.owed
  owes_woken (Changed change) last me now has p = tt
  owes_woken (Released releasing) last me now has p =
      let d = p.did in let found = found_back truths (Released releasing) last me in let e = does truths None (ReleaseReturning releasing last) found me now p in
      by_effect found me now d has e.0 e.1 (ap (λ (q : Part C N). q.owed) e.4)
  owes_woken (Waited wait again) last me now has p =
      let d = p.did in let found = found_back truths (Waited wait again) last me in let e = does truths None (WaitReturning wait again last) found me now p in
      by_effect found me now d has e.0 e.1 (ap (λ (q : Part C N). q.owed) e.4)

  -- The queues are back.
  is_back : (walk : Walk C) (first last : Word) (turned : Turned) (start me now : SeatOf C N) → PutsBack walk → IsAtPlace truths (returning_at walk last) me → HasKeptItsQueues start me → HasInHand truths (returning_of walk) turned start
      → Performed truths None (act_returning (returning_of walk) last) (found_back truths (returning_of walk) last me) me now
      → HasReached truths (asked_of walk) (got_of N walk (found_back truths (returning_of walk) first start)) now × OwesTheWoken truths (returning_of walk) start (the now.0).at.owed
  is_back walk first last turned start me now puts at s hand p =
      let r = puts_at N walk last puts in let returning = returning_of walk in let act = act_returning returning last in
      let has = ap has_queues at.walks ∙ r.has last in
      let found = found_back truths returning last me in
      let lists = (hand_stays returning turned start me s hand last).carries in
      let same : found ≡ found_back truths returning first start = (λ i. found_returned truths (s.seat i) returning last (row_in (s.held i)) (s.stood i)) ∙ r.same truths first (the start.0).at.seat (row_in (the start.0).at.held) (the start.0).stood in (
        subst (λ (x : Found × Request C). HasReached truths x.1 (got_of N walk x.0) now) (λ i. (same i, r.asked i))
            (goes_on truths (returning_at walk last) act found (got_of N walk found) me now at (r.made truths (the me.0).at.seat (row_in (the me.0).at.held) (the me.0).stood)
            (λ _. p.carried ∙ (r.empties truths (the me.0).at.seat (row_in (the me.0).at.held) (the me.0).stood (the now.0).stood me.1 ∙ ap rest lists)) p),
        same_owed truths returning start me (the now.0).at.owed s (owes_woken returning last me now has p),
      )

  -- the same, where it was told what it puts them back for
  pub is_back_for : (returning : Returning C) (walk : Walk C) (first last : Word) (turned : Turned) (start me now : SeatOf C N) → returning ≡ returning_of walk → PutsBack walk → IsAtPlace truths (returning_at walk last) me → HasKeptItsQueues start me → HasInHand truths returning turned start
      → Performed truths None (act_returning returning last) (found_back truths returning last me) me now
      → HasReached truths (asked_of walk) (got_of N walk (found_back truths returning first start)) now × OwesTheWoken truths returning start (the now.0).at.owed
  is_back_for returning walk first last turned start me now is puts at s hand p =
      subst (λ r. HasReached truths (asked_of walk) (got_of N walk (found_back truths r first start)) now × OwesTheWoken truths r start (the now.0).at.owed) (sym is)
      (is_back walk first last turned start me now puts at s (subst (λ r. HasInHand truths r turned start) is hand) (subst (λ r. Performed truths None (act_returning r last) (found_back truths r last me) me now) is p))

  -- ---- at the flag

  pub sleeps_on : (walk : Walk C) (value : ℕ) (me now : SeatOf C N) → Sleeps N walk → value ≡ 1 → IsAtPlace truths walk me → Performed truths None LoadFlag (Flag value) me now → IsAtPlace truths walk now
  sleeps_on walk value me now s set at p = goes truths walk LoadFlag (Flag 1) (Idle walk) me now at s.free s.rests refl (subst (λ n. Performed truths None LoadFlag (Flag n) me now) set p)

  pub is_woken : (walk : Walk C) (value : ℕ) (me now : SeatOf C N) → Sleeps N walk → IsAtPlace truths walk me → Performed truths None LoadFlag (Flag value) me now → HasReached truths (asked_of walk) (got_of N walk (Flag value)) now
  is_woken walk value me now s at p = goes truths walk LoadFlag (Flag value) (got_of N walk (Flag value)) me now at s.free refl refl p

  -- ---- wakes are paid

  pub can_pay : (walk : Walk C) (wake : Owed) (others : List Owed) (me : SeatOf C N) → Pays N walk → (the me.0).at.owed ≡ wake ∷ others → HasReached truths (asked_of walk) (got_of N walk (Paid (has_some (the me.0).at.owed))) me → IsAtPlace truths walk me
  can_pay walk wake others me pays some led = subst (λ next. HasReached truths (asked_of walk) next me) pays.more (subst (λ ns. HasReached truths (asked_of walk) (got_of N walk (Paid (has_some ns))) me) some led)

  -- the next wake that is owed, and the number of its seat
  pub owes_next : (wake : Owed) (others : List Owed) (me : SeatOf C N) → (the me.0).at.owed ≡ wake ∷ others → OwesBelow (the me.0).at.owed → IsOwedNext wake (the me.0).at.owed × (wake.seat < 64)
  owes_next wake others me some below = (subst (IsOwedNext wake) (sym some) refl, subst OwesBelow some below)

  -- one wake was paid, and the others are owed still
  pub is_paid : (walk : Walk C) (wake : Owed) (others : List Owed) (me now : SeatOf C N) → Pays N walk → (the me.0).at.owed ≡ wake ∷ others → IsAtPlace truths walk me → Performed truths None PayWake (owes_more (the me.0).at.owed) me now
      → ((the now.0).at.owed ≡ others) × HasReached truths (asked_of walk) (got_of N walk (Paid (has_some (the now.0).at.owed))) now
  is_paid walk wake others me now pays some at p =
      let paid = subst (λ ns. Performed truths None PayWake (owes_more ns) me now) some p in
      let e = does truths None PayWake (Paid (has_some others)) me now paid in
      let left : (the now.0).at.owed ≡ others = ap (λ (x : SeatView C N). x.owed) paid.did.becomes ∙ (ap (λ (q : Part C N). q.owed) e.3 ∙ ap rest_of (sym e.2 ∙ some)) in (
        left,
        subst (λ ns. HasReached truths (asked_of walk) (got_of N walk (Paid (has_some ns))) now) (sym left) (goes truths walk PayWake (Paid (has_some others)) (got_of N walk (Paid (has_some others))) me now at pays.free refl refl paid),
      )

  pub all_paid : (walk : Walk C) (me : SeatOf C N) → (the me.0).at.owed ≡ [] → HasReached truths (asked_of walk) (got_of N walk (Paid (has_some (the me.0).at.owed))) me → HasReached truths (asked_of walk) (got_of N walk (Paid false)) me
  all_paid walk me none led = subst (λ ns. HasReached truths (asked_of walk) (got_of N walk (Paid (has_some ns))) me) none led
