-- How far a call has come whose seat is bound to its gate.
use Rattle.std.proofs.Common.{None, Option, refl, subst, sym, ℕ, ◌∙◌}
use Rattle.ns_monitor.proofs.Prelude.{Act, Bounded, Found, HasMade, HasMadeSteps, HasSince, HasWorked, Truths, Walk, come_by, since, since_itself, since_then, the}

module _ {C : Type 0} {N : ℕ} where
  pub gone_itself : (seat : Bounded C N) → HasMadeSteps None seat seat
  gone_itself seat = record { gate = refl; lent = refl; by = since_itself (the seat.me.0) }

  -- the steps of one call, and further steps of it
  pub gone_then : (b : Option (Walk C)) (old mid new : Bounded C N) → HasMadeSteps b old mid → HasMadeSteps None mid new → HasMadeSteps b old new
  gone_then b old mid new s t = record { gate = t.gate ∙ s.gate; lent = t.lent ∙ s.lent; by = since_then b (the old.me.0) (the mid.me.0) (the new.me.0) s.by t.by }

  -- one step
  pub gone_by : {truths : Truths C} {b : Option (Walk C)} {act : Act C} {found : Found} {old new : Bounded C N} → HasMade truths b act found old new → HasMadeSteps b old new
  gone_by {truths} {b} {act} {found} {old} {new} did = come_by old new did (since truths b act found old.me new.me)

  -- work in hand is no step
  pub gone_working : (b : Option (Walk C)) (old mid new : Bounded C N) → HasMadeSteps b old mid → HasWorked mid new → HasMadeSteps b old new
  gone_working b old mid new s w = record { gate = w.gate ∙ s.gate; lent = w.lent ∙ s.lent; by = subst (λ vs. HasSince b (the old.me.0) (the vs)) (sym w.by) s.by }

  pub worked_then : (old mid new : Bounded C N) → HasWorked old mid → HasWorked mid new → HasWorked old new
  worked_then old mid new v w = record { gate = w.gate ∙ v.gate; lent = w.lent ∙ v.lent; by = w.by ∙ v.by }

  pub gone_behind : (b : Option (Walk C)) (old mid new : Bounded C N) → HasWorked old mid → HasMadeSteps b mid new → HasMadeSteps b old new
  gone_behind b old mid new w s = record { gate = s.gate ∙ w.gate; lent = s.lent ∙ w.lent; by = subst (λ vs. HasSince b (the vs) (the new.me.0)) w.by s.by }
