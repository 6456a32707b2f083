-- While no call begins, a round that doesn't begin at rest has a step that counts; so rounds come to rest.
use Rattle.std.proofs.Common.{Bool, List, None, Option, Some, [], ap, arith, cond, eq-eqb, eqb, false, inl, inr, length, ne_eqb, refl, subst, sym, true, ℕ, ◌++◌, ◌+◌, ◌<◌, ◌∷◌, ◌≡◌, ◌≢◌, ◌≤◌, ◌⊎◌}
use Rattle.ns_word.proofs.Prelude.{AreApart, AwaitWakeInWait, Event, Found, InWait, IsLawful, LockState, LookOut, QuietKeeps, SeatStep, SeatView, Step, Truths, Walk, both_ways, cases_Bool, cases_eq, got_of, one_if, one_most, place_after, walk_at, ◌∙◌}
use Rattle.ns_word.specs.Progress.{cost_of, counts, steps_left}
use Rattle.ns_word.specs.Rests.{AllRest, rests_at}
use Rattle.ns_word.specs.Turns.{BeginsNone, IsMade, IsRound, Rounds, Run, Turn, cost_at, counted, paid, turns_of}
use Rattle.ns_model.proofs.Tallies.{every_both}
use Rattle.ns_word.proofs.Rests.{step_goes_on}
use Rattle.ns_word.proofs.Others.{every_at}
use Rattle.ns_word.proofs.Idles.{idle_same}
use Rattle.ns_word.proofs.Turns.{made_lawful, run_pays}
use Rattle.ns_word.proofs.Views.{apart_parts, walk_here, walk_there}

-- it is at its look while it waits, the one turn that counts nothing and is left to one that doesn't rest
abbrev looks : {C : Type 0} → Walk C → Bool
looks (InWait wait LookOut) = true
looks walk = false

-- where nothing is counted, the first counts nothing, and neither do the others
none_counted : (b : Bool) (n : ℕ) → one_if b + n ≡ 0 → (b ≡ false) × (n ≡ 0)
none_counted true n e = absurd (omega (arith, e))
none_counted false n e = (refl, omega (arith, e))

module _ {C : Type 0} {N : ℕ} (truths : Truths C) where
  -- a turn that begins no call is a step of a call in progress
  abbrev StepAt : LockState C N → SeatView C N → Turn C → LockState C N → List (Event C N) → Type 0
  StepAt old view turn next commits = (step : Step truths old view turn.found next commits) × (step.walk ≡ turn.walk)

  plain_step : (old : LockState C N) (turn : Turn C) (next : LockState C N) (commits : List (Event C N)) → (m : IsMade truths old turn next commits) → turn.begins ≡ false → StepAt old m.view turn next commits
  plain_step old turn next commits m none = by turn.begins none m.made m.place where
    by : (begins : Bool) → begins ≡ false → (made : SeatStep truths old m.view (cond begins (Some turn.walk) None) turn.found next commits) → made.step.walk ≡ turn.walk → StepAt old m.view turn next commits
    by false e made place = subst (λ s. StepAt s m.view turn next commits) made.begins (made.step, place)
    by true e made place = absurd (cc)

  -- What a turn leaves that counts nothing: the word, the flags, and the places of the others.
  record Idles (old : LockState C N) (seat : ℕ) (walk : Walk C) (found : Found) (new : LockState C N) : Type 0 where
    word : new.word ≡ old.word
    flags : new.flags ≡ old.flags
    was : walk_at seat old.views ≡ Some walk
    becomes : walk_at seat new.views ≡ place_after (got_of N walk found)
    others : (other : ℕ) → seat ≢ other → walk_at other new.views ≡ walk_at other old.views

  idles : (old : LockState C N) (turn : Turn C) (new : LockState C N) (commits : List (Event C N)) → AreApart old.views → IsMade truths old turn new commits → turn.begins ≡ false → counts N turn.walk turn.found ≡ false → Idles old turn.seat turn.walk turn.found new
  idles old turn new commits apart m none still =
      let at = plain_step old turn new commits m none in
      let step = at.0 in
      let view = m.view in
      let same = (idle_same truths old new view turn.found commits step (ap (λ walk. counts N walk turn.found) at.1 ∙ still)).1 in
      let next : SeatView C N = record { seat = view.seat; walk = place_after (got_of N step.walk turn.found); held = step.held; owed = step.owed } in
      let front = (apart_parts step.front view step.back (subst AreApart step.was apart)).0 in
      let idle : Idles old view.seat step.walk turn.found new = record {
        word = ap (λ s. s.word) same;
        flags = ap (λ s. s.flags) same;
        was = ap (walk_at view.seat) step.was ∙ walk_here step.front view step.back front ∙ step.walks;
        becomes = ap (walk_at view.seat) step.becomes ∙ walk_here step.front next step.back front;
        others = λ other ne. ap (walk_at other) step.becomes ∙ walk_there other step.front view next step.back ne refl ∙ sym (ap (walk_at other) step.was);
      } in
      subst (λ walk. Idles old turn.seat walk turn.found new) at.1 (subst (λ seat. Idles old seat step.walk turn.found new) m.whose idle)

  -- a seat makes so few of the turns at most, and its call goes on
  abbrev Stays : ℕ → ℕ → List (Turn C) → LockState C N → Type 0
  Stays most seat turns new = (turns_of seat turns ≤ most) × (walk_at seat new.views ≢ None)

  module _ (some : 0 < N) (small : N ≤ 16) (quiet : QuietKeeps N truths) (seats : ℕ) (few : seats ≤ 64) where
    -- Who doesn't rest makes one such turn at most: a look, behind which the wait finds its flag clear.
    idle_turns : (h : List (Event C N)) (old : LockState C N) (turns : List (Turn C)) (new : LockState C N) (seat : ℕ) (walk : Walk C) → IsLawful truths seats h old → Run truths old turns new → BeginsNone turns → counted N turns ≡ 0 →
        walk_at seat old.views ≡ Some walk → rests_at N old.word (old.flags seat) (Some walk) ≡ false → Stays (one_if (looks walk)) seat turns new
    idle_turns h old [] new seat walk p r begun still is goes = (omega arith, λ over. let never : Some walk ≡ None = sym is ∙ sym (ap (λ s. walk_at seat s.views) r) ∙ over in absurd (cc))
    idle_turns h old (turn ∷ turns) new seat walk p r begun still is goes =
        let first = none_counted (counts N turn.walk turn.found) (counted N turns) still in
        let idle = idles old turn r.0 r.1 p.apart r.2 begun.0 first.0 in
        let after_all = made_lawful truths some small quiet seats few h old turn r.0 r.1 p r.2 in
        elim (cases_eq turn.seat seat) [
          | inl e ↦
              let at = plain_step old turn r.0 r.1 r.2 begun.0 in
              let here : r.2.view.seat ≡ seat = r.2.whose ∙ e in
              let same : Some turn.walk ≡ Some walk = sym idle.was ∙ ap (λ s. walk_at s old.views) e ∙ is in
              let stirs : rests_at N old.word (old.flags r.2.view.seat) r.2.view.walk ≡ false = rw (at.0.walks ∙ ap Some at.1 ∙ same, here) goes in
              elim (step_goes_on truths old r.2.view turn.found r.0 r.1 at.0 stirs) [
                | inl moved ↦ absurd (both_ways (counts N turn.walk turn.found) first.0 (sym (ap (λ w. counts N w turn.found) at.1) ∙ moved))
                | inr look ↦
                    let out : turn.walk ≡ InWait look.wait LookOut = sym at.1 ∙ look.place in
                    let back : walk_at seat r.0.views ≡ Some (InWait look.wait AwaitWakeInWait) = sym (ap (λ s. walk_at s r.0.views) e) ∙ idle.becomes ∙ (λ i. place_after (got_of N (out i) (look.nothing i))) in
                    let clear : r.0.flags seat ≢ 1 = λ set. look.clear (ap old.flags here ∙ sym (ap (λ f. f seat) idle.flags) ∙ set) in
                    let rest = idle_turns (h ++ r.1) r.0 turns new seat (InWait look.wait AwaitWakeInWait) after_all r.3 begun.1 first.1 back (ne_eqb (r.0.flags seat) 1 clear) in
                    let one : one_if (eqb turn.seat seat) ≡ 1 = ap one_if (eq-eqb turn.seat seat e) in
                    let own : walk ≡ turn.walk = cc in
                    (omega (arith, one, rest.0, ap (λ w. one_if (looks w)) (own ∙ out)), rest.1)
              ]
          | inr ne ↦
              let rest = idle_turns (h ++ r.1) r.0 turns new seat walk after_all r.3 begun.1 first.1 (idle.others seat ne ∙ is) (rw (idle.word, ap (λ f. f seat) idle.flags) goes) in
              let none : one_if (eqb turn.seat seat) ≡ 0 = ap one_if (ne_eqb turn.seat seat ne) in (omega (arith, none, rest.0), rest.1)
        ]

    -- a round that counts nothing began at rest
    rested : (h : List (Event C N)) (old : LockState C N) (turns : List (Turn C)) (new : LockState C N) → IsLawful truths seats h old → Run truths old turns new → BeginsNone turns → IsRound old turns new → counted N turns ≡ 0 → AllRest old
    rested h old turns new p r begun round still = every_both (λ view. walk_at view.seat old.views ≡ view.walk) _ (λ view. rests_at N old.word (old.flags view.seat) view.walk ≡ true) each old.views (every_at old.views p.apart) round where
      each : (view : SeatView C N) → walk_at view.seat old.views ≡ view.walk → (rests_at N old.word (old.flags view.seat) view.walk ≡ true) ⊎ (2 ≤ turns_of view.seat turns) ⊎ (walk_at view.seat new.views ≡ None) → rests_at N old.word (old.flags view.seat) view.walk ≡ true
      each view own made = by view.walk own made where
        by : (walk : Option (Walk C)) → walk_at view.seat old.views ≡ walk → (rests_at N old.word (old.flags view.seat) walk ≡ true) ⊎ (2 ≤ turns_of view.seat turns) ⊎ (walk_at view.seat new.views ≡ None) → rests_at N old.word (old.flags view.seat) walk ≡ true
        by None own made = refl
        by (Some walk) own made = elim (cases_Bool (rests_at N old.word (old.flags view.seat) (Some walk))) [
          | inl rests ↦ rests
          | inr goes ↦ let stays = idle_turns h old turns new view.seat walk p r begun still own goes in elim made [
            | inl rests ↦ absurd (both_ways (rests_at N old.word (old.flags view.seat) (Some walk)) goes rests)
            | inr (inl two) ↦ absurd (omega (arith, two, stays.0, one_most (looks walk)))
            | inr (inr over) ↦ absurd (stays.1 over)
          ]
        ]

    none_paid : (turns : List (Turn C)) → BeginsNone turns → paid N turns ≡ 0
    none_paid [] begun = refl
    none_paid (turn ∷ turns) begun = let rest = none_paid turns begun.1 in let here : cost_at N turn ≡ 0 = ap (λ b. cond b (cost_of N turn.walk) 0) begun.0 in omega (arith, rest, here)

    run_lawful : (h : List (Event C N)) (old : LockState C N) (turns : List (Turn C)) (new : LockState C N) → IsLawful truths seats h old → Run truths old turns new → (g : List (Event C N)) × IsLawful truths seats g new
    run_lawful h old [] new p r = (h, subst (IsLawful truths seats h) (sym r) p)
    run_lawful h old (turn ∷ turns) new p r = run_lawful (h ++ r.1) r.0 turns new (made_lawful truths some small quiet seats few h old turn r.0 r.1 p r.2) r.3

    -- More rounds than steps are left come to rest before.
    pub rounds_rest : (h : List (Event C N)) (old : LockState C N) (rounds : List (List (Turn C))) (new : LockState C N) → IsLawful truths seats h old → Rounds truths old rounds new → steps_left truths old < length rounds →
        (before after : List (List (Turn C))) × (s : LockState C N) × (rounds ≡ before ++ after) × Rounds truths old before s × Rounds truths s after new × (length before ≤ steps_left truths old) × AllRest s
    rounds_rest h old [] new p r long = absurd (omega (arith, long))
    rounds_rest h old (turns ∷ rounds) new p r long = elim (cases_eq (counted N turns) 0) [
      | inl none ↦ ([], turns ∷ rounds, old, refl, refl, r, omega arith, rested h old turns r.0 p r.1 r.2 r.3 none)
      | inr some_count ↦
          let after_all = run_lawful h old turns r.0 p r.1 in
          let run = run_pays truths some small quiet seats few turns h old r.0 p r.1 in
          let none = none_paid turns r.2 in
          let rest = rounds_rest after_all.0 r.0 rounds new after_all.1 r.4 (omega (arith, long, run, some_count, none)) in
          (turns ∷ rest.0, rest.1, rest.2, ap (λ xs. turns ∷ xs) rest.3, (r.0, r.1, r.2, r.3, rest.4), rest.5, omega (arith, rest.6, run, some_count, none), rest.7)
    ]
