-- What stays as it is where a step changes nothing, or nothing but a flag.
use Rattle.std.proofs.Common.{None, [], ap, false, refl, subst, sym, true, ℕ, ◌++◌, ◌∙◌, ◌∷◌, ◌≡◌}
use Rattle.ns_gate.proofs.Prelude.{Act, ArmFlag, Carries, Effect, Found, GateView, Lists, Made, Part, Performed, SeatOf, SeatView, Truths, awaits, has_queues, part_of, stands_nowhere, the, times}
use Rattle.ns_gate.proofs.Findings.{does}

-- the seat has the same slots, the same section in hand, and knows the lists to stand as they did
pub record HasKeptItsQueues {C : Type 0} {N : ℕ} (me now : SeatOf C N) : Type 0 where
  pub slots : now.1 ≡ me.1
  pub stood : (the now.0).stood ≡ (the me.0).stood
  pub held : (the now.0).at.held ≡ (the me.0).at.held
  pub seat : (the now.0).at.seat ≡ (the me.0).at.seat

module _ {C : Type 0} {N : ℕ} where
  pub stays_itself : (me : SeatOf C N) → HasKeptItsQueues me me
  stays_itself me = record { slots = refl; stood = refl; held = refl; seat = refl }

  pub stays_through : (me mid now : SeatOf C N) → HasKeptItsQueues me mid → HasKeptItsQueues mid now → HasKeptItsQueues me now
  stays_through me mid now s t = record { slots = t.slots ∙ s.slots; stood = t.stood ∙ s.stood; held = t.held ∙ s.held; seat = t.seat ∙ s.seat }

  -- lists in hand that are made of what the seat knows
  pub still_carries : (made : GateView C N → Lists C) (me now : SeatOf C N) → made (the now.0) ≡ made (the me.0) → HasKeptItsQueues me now → Carries (made (the me.0)) me → Carries (made (the now.0)) now
  still_carries made me now same s carries = s.slots ∙ (carries ∙ ap (λ lists. (0, lists) ∷ []) (sym same))

module _ {C : Type 0} {N : ℕ} (truths : Truths C) where
  -- what a step of a call in progress does to the state that it found
  pub effect_of : (act : Act C) (found : Found) (me now : SeatOf C N) (p : Performed truths None act found me now) → Effect truths (the me.0).at.seat act (part_of p.did.old (the me.0).at.held (the me.0).at.owed) found (part_of p.did.new p.did.made.step.held p.did.made.step.owed) p.did.commits
  effect_of act found me now p =
      let d = p.did in
      subst (λ s. Effect truths (the me.0).at.seat act (part_of s (the me.0).at.held (the me.0).at.owed) found (part_of d.new d.made.step.held d.made.step.owed) d.commits) d.made.begins (does truths None act found me now p)

  pub stays_by : (act : Act C) (found : Found) (me now : SeatOf C N) (p : Performed truths None act found me now) → has_queues (the me.0).at.walk ≡ true → now.1 ≡ me.1 → p.did.new.lists ≡ p.did.old.lists → p.did.made.step.held ≡ (the me.0).at.held → HasKeptItsQueues me now
  stays_by act found me now p has slots lists held = record {
    slots = slots;
    stood = p.did.stood_now ∙ (lists ∙ sym (p.did.stood_was has));
    held = ap (λ (x : SeatView C N). x.held) p.did.becomes ∙ held;
    seat = ap (λ (x : SeatView C N). x.seat) p.did.becomes;
  }

  -- a flag that is set
  pub stays_arming : (me now : SeatOf C N) → Performed truths None ArmFlag Made me now → has_queues (the me.0).at.walk ≡ true → HasKeptItsQueues me now
  stays_arming me now p has = let e = effect_of ArmFlag Made me now p in
      stays_by ArmFlag Made me now p has p.carried (ap (λ (q : Part C N). q.lists) e.0) (ap (λ (q : Part C N). q.held) e.0)

  -- a seat whose call doesn't wait to be woken stands in no list
  pub nowhere_now : (act : Act C) (found : Found) (me now : SeatOf C N) → Performed truths None act found me now → awaits (the now.0).at.walk ≡ false → times (the now.0).at.seat (the now.0).stood ≡ 0
  nowhere_now act found me now p waits =
      let d = p.did in let s = d.made.step in
      let stands : d.new.views ≡ s.front ++ (the now.0).at ∷ s.back = s.becomes ∙ ap (λ (x : SeatView C N). s.front ++ x ∷ s.back) (sym d.becomes) in
      subst (λ (lists : Lists C). times (the now.0).at.seat lists ≡ 0) (sym d.stood_now) (stands_nowhere truths (the me.0).seat_count d.few (d.history ++ d.commits) d.new s.front (the now.0).at s.back stands d.lawful_now waits)
