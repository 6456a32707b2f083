-- Two callers that meet.
use Rattle.std.proofs.Common.{ap, subst, ℕ, ◌≡◌}
use Rattle.ns_monitor.proofs.Prelude.{HasLearned, IsAtRest, Known, SeatHasLearned, SeatOf, SeatView, TableId, Truths, known_of, the}

module _ {C : Type 0} {N : ℕ} (truths : Truths C) where
  -- what a seat has learned that rests, as its caller sees it
  pub learned : (old : Known C N) (was is : TableId) (me now : SeatOf C N) → known_of was me ≡ old → is ≡ old.monitor → IsAtRest truths now → SeatHasLearned truths (the me.0) (the now.0) → HasLearned truths old (known_of is now)
  learned old was is me now view same rest h = subst (λ (k : Known C N). is ≡ k.monitor → HasLearned truths k (known_of is now)) view
      (λ same. record { monitor = same; seat_count = h.seat_count; seat = ap (λ (x : SeatView C N). x.seat) h.at; begins = h.begins; mine = h.mine; begun = h.begun; held = ap (λ (x : SeatView C N). x.held) h.at; true_to = h.true_to; over = rest.over; owes = rest.owes; empty = rest.empty }) same
