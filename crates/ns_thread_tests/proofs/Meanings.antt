-- What words of contracts mean, said without them: a line that is wrong in such a word and in what it is proved by, too, is refused here.
use Rattle.std.proofs.Common.{◌≡◌, ◌⊎◌, ℕ, zero, suc, ◌+◌, List, [], ◌∷◌, Some, slice_get, sym, ap, ◌∙◌, inl, inr, ⊎_elim, arith}
use Rattle.ns_model.specs.Beginnings.{BeginsWith}
use Rattle.ns_model.specs.Histories.{own as own_of}
use Rattle.ns_monitor.specs.Known.{Known, AreNew, AreOfOneHistory, new_seat}

-- each seat of a new monitor has its own number, and has seen and done nothing
pub new_at : {C : Type 0} {N : ℕ} (seat_count : ℕ) (monitor : _) (from : ℕ) (seats : List (Known C N)) (i : ℕ) (seat : Known C N) → AreNew seat_count monitor from seats → slice_get seats i ≡ Some seat → seat ≡ new_seat monitor seat_count (from + i)
new_at seat_count monitor from [] i seat are at = absurd (cc)
new_at seat_count monitor from (x ∷ xs) zero seat are at = let is : x ≡ seat = cc in let e : from ≡ from + 0 = omega arith in sym is ∙ (are.0 ∙ ap (new_seat monitor seat_count) e)
new_at seat_count monitor from (x ∷ xs) (suc i) seat are at = let e : suc from + i ≡ from + suc i = omega arith in new_at seat_count monitor (suc from) xs i seat are.1 at ∙ ap (new_seat monitor seat_count) e

-- of two callers that were compared, one has seen all that the other had seen, and in that just the own events of both
pub compared : {C : Type 0} {N : ℕ} (one other : Known C N) → AreOfOneHistory one other
    → (BeginsWith one.seen other.seen × (own_of one.seen one.seat ≡ one.mine) × (own_of one.seen other.seat ≡ other.mine)) ⊎ (BeginsWith other.seen one.seen × (own_of other.seen other.seat ≡ other.mine) × (own_of other.seen one.seat ≡ one.mine))
compared one other so = ⊎_elim (λ s. inl (s.begins, s.own, s.theirs)) (λ s. inr (s.begins, s.own, s.theirs)) so
