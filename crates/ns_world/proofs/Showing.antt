-- What is shown of a front of the seats, and of the rest.
use Rattle.std.proofs.Common.{Bool, List, [], ap, append-nil, arith, cond, drop, drop-cons, false, get_or, length, length-append, map, refl, suc, sym, take, take-append-drop, true, ℕ, ◌++◌, ◌+◌, ◌<◌, ◌∙◌, ◌∷◌, ◌≡◌, ◌≤◌}
use Rattle.ns_world.proofs.Prelude.{Lists, Seat, Truths, drop_all, flat_map-append, hand_of, has_queues, lists_by, take_more, wakes_by, wakes_owed, walk_of}

module _ {C : Type 0} {N : ℕ} (seats : List (Seat C N)) (i : ℕ) (seat : Seat C N) (within : i < length seats) (is : seat ≡ get_or seats i seat) where
  pub wakes_more : wakes_owed (take (i + 1) seats) ≡ wakes_owed (take i seats) ++ map (λ wake. (seat.number, wake.seat)) seat.owed.items
  wakes_more =
      ap wakes_owed (take_more seats i seat within ∙ ap (λ s. take i seats ++ s ∷ []) (sym is)) ∙ flat_map-append wakes_by (take i seats) (seat ∷ []) ∙ ap (λ ws. wakes_owed (take i seats) ++ ws) (append-nil (wakes_by seat))

  module _ (truths : Truths C) (row : List ℕ) (lists : Lists C) where
    by_bit : (b : Bool) → has_queues (walk_of seat.doing) ≡ b → lists_by truths row lists (drop i seats) ≡ cond b (hand_of truths seat.number (walk_of seat.doing) row lists) (lists_by truths row lists (drop (suc i) seats))
    by_bit b e = ap (lists_by truths row lists) (drop-cons seats i seat within ∙ ap (λ s. s ∷ drop (suc i) seats) (sym is)) ∙ ap (λ b. cond b (hand_of truths seat.number (walk_of seat.doing) row lists) (lists_by truths row lists (drop (suc i) seats))) e

    -- the lists as this seat has them, where it has them
    pub queues_here : has_queues (walk_of seat.doing) ≡ true → lists_by truths row lists (drop i seats) ≡ hand_of truths seat.number (walk_of seat.doing) row lists
    queues_here e = by_bit true e

    -- and as a later one has them, where it has not
    pub queues_later : has_queues (walk_of seat.doing) ≡ false → lists_by truths row lists (drop i seats) ≡ lists_by truths row lists (drop (suc i) seats)
    queues_later e = by_bit false e

-- a front of the seats owes no more than all
pub wakes_front : {C : Type 0} {N : ℕ} (seats : List (Seat C N)) (i : ℕ) → length (wakes_owed (take i seats)) ≤ length (wakes_owed seats)
wakes_front seats i =
    let all : wakes_owed seats ≡ wakes_owed (take i seats) ++ wakes_owed (drop i seats) = ap wakes_owed (sym (take-append-drop i seats)) ∙ flat_map-append wakes_by (take i seats) (drop i seats) in
    let long : length (wakes_owed seats) ≡ length (wakes_owed (take i seats)) + length (wakes_owed (drop i seats)) = ap length all ∙ length-append _ _ in
    omega (arith, long)

-- where no seat is left, the lists stand at home
pub none_left : {C : Type 0} {N : ℕ} (seats : List (Seat C N)) (i : ℕ) → length seats ≤ i → (truths : Truths C) (row : List ℕ) (lists : Lists C) → lists ≡ lists_by truths row lists (drop i seats)
none_left seats i past truths row lists = rw (drop_all i seats past) refl
