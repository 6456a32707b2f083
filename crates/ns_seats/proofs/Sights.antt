-- Two seats of one history.
use Rattle.std.proofs.Common.{◌≡◌, ℕ, List, ◌++◌, ap, ◌∙◌, subst, inl, inr, ⊎_elim}
use Rattle.ns_model.specs.Beginnings.{BeginsWith}
use Rattle.ns_model.proofs.Beginnings.{begins_either, begins_both}
use Rattle.ns_seats.specs.Sights.{Sight, OwnIn, HasSight, SawAllOf, AreOfOneHistory}

module _ {E : Type 0} (own_of : OwnIn E) (own_append : (seat : ℕ) (front rest : List E) → own_of (front ++ rest) seat ≡ own_of front seat ++ own_of rest seat) where
  own_begins : (l p : List E) (seat : ℕ) → BeginsWith l p → BeginsWith (own_of l seat) (own_of p seat)
  own_begins l p seat b = (own_of b.0 seat, ap (λ k. own_of k seat) b.1 ∙ own_append seat p b.0)

  -- a history between what a seat has seen and one with the same events of its own has those too
  own_between : (h k p mine : List E) (seat : ℕ) → BeginsWith h k → BeginsWith k p → own_of h seat ≡ mine → own_of p seat ≡ mine → own_of k seat ≡ mine
  own_between h k p mine seat b d most least = begins_both (own_of k seat) mine (subst (BeginsWith (own_of k seat)) least (own_begins k p seat d)) (subst (λ z. BeginsWith z (own_of k seat)) most (own_begins h k seat b))

  saw_all : (h : List E) (a b : Sight E) → HasSight own_of h a → HasSight own_of h b → BeginsWith a.seen b.seen → SawAllOf own_of a b
  saw_all h a b f g begins = record { begins = begins; own = f.own_seen; theirs = own_between h a.seen b.seen b.mine b.seat f.begins begins g.own g.own_seen }

  -- of two that have seen of one history, one has seen all that the other has
  pub one_history : (h : List E) (a b : Sight E) → HasSight own_of h a → HasSight own_of h b → AreOfOneHistory own_of a b
  one_history h a b f g = ⊎_elim (λ begins. inl (saw_all h a b f g begins)) (λ begins. inr (saw_all h b a g f begins)) (begins_either h a.seen b.seen f.begins g.begins)
