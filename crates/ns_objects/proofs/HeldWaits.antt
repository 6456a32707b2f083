-- Waits for condition variables among notes and counters: which variables those are, and what the parts of such a wait tell together.
use Rattle.std.proofs.Common.{Bool, List, None, Option, Some, [], ap, append_assoc, arith, cond, eq-eqb, eqb-true, false, map, max, refl, slice_get, subst, suc, sym, true, zero, ℕ, ◌%◌, ◌++◌, ◌+◌, ◌-◌, ◌<◌, ◌^◌, ◌||◌, ◌∙◌, ◌∷◌, ◌≡◌, ◌≤◌}
use Rattle.ns_objects.proofs.Prelude.{AnyItem, AnyWait, AreAmong, AreSome, BothKnown, Counter, Cv, Cvs, Every, HasBegunToWait, HasComeBackFromAny, HasWaitedForAny, Held, InHand, IsByOneOf, IsLow, IsNamed, Known, KnowsTruly, Mode, Note, Past, PlaceBy, PlainItem, Setup, Truths, Ty, WaitKnown}
use Rattle.ns_objects.proofs.Prelude.{WaitsOn, align, are_some, begins_itself, begins_through, false≢true, is_among, is_this, item_of, leave_any_told, low_if_among, place_in, room, room_enough, section_of, size, up}

-- an item that is named is no variable above 3
low_too : (now : BothKnown) (item : AnyItem) → IsNamed now.0 now.1 item → IsLow (item_of item)
low_too now (Note note) named = tt
low_too now (Counter counter) named = tt
low_too now (Cv k) named = named

pub all_low : (items : List AnyItem) (now : BothKnown) → Every (IsNamed now.0 now.1) items → Every IsLow (map item_of items)
all_low [] now named = tt
all_low (item ∷ items) now named = (low_too now item named.0, all_low items now named.1)

module _ {C : Type 0} {N : ℕ} where
  pub waits_on_itself : (truths : Truths C) (a : WaitKnown C N) → KnowsTruly truths a.known → a.known.owed ≡ [] → a.known.carries ≡ [] → WaitsOn truths a a
  waits_on_itself truths a seen owes empty = record {
    variables = refl;
    monitor = refl;
    seat_count = refl;
    seat = refl;
    begins = begins_itself a.known.seen;
    begun = refl;
    mine = refl;
    true_to = seen;
    call = refl;
    held = refl;
    owes = owes;
    empty = empty;
  }

  -- who waits on, and then on
  pub waits_through : (truths : Truths C) (a b c : WaitKnown C N) → WaitsOn truths a b → WaitsOn truths b c → WaitsOn truths a c
  waits_through truths a b c s t = record {
    variables = t.variables ∙ s.variables;
    monitor = t.monitor ∙ s.monitor;
    seat_count = t.seat_count ∙ s.seat_count;
    seat = t.seat ∙ s.seat;
    begins = begins_through c.known.seen b.known.seen a.known.seen t.begins s.begins;
    begun = t.begun ∙ s.begun;
    mine = t.mine ∙ s.mine;
    true_to = t.true_to;
    call = t.call ∙ s.call;
    held = t.held ∙ s.held;
    owes = t.owes;
    empty = t.empty;
  }

  module _ (truths : Truths C) (mode : Mode) (by : Option ℕ) where
    -- who waited on, and then has come back
    pub back_from_wait : (a b : WaitKnown C N) (new : Known C N) → WaitsOn truths a b → HasComeBackFromAny truths mode by b new → HasComeBackFromAny truths mode by a new
    back_from_wait a b new s t = record {
      monitor = t.monitor ∙ s.monitor;
      seat_count = t.seat_count ∙ s.seat_count;
      seat = t.seat ∙ s.seat;
      begins = begins_through new.seen b.known.seen a.known.seen t.begins s.begins;
      begun = t.begun ∙ s.begun;
      mine = t.mine ∙ (λ i. s.mine i ++ leave_any_told (s.seat i) (s.variables i) by);
      among = subst (λ cvs. IsByOneOf cvs by) s.variables t.among;
      back = t.back;
      true_to = t.true_to;
      over = t.over;
      owes = t.owes;
      empty = t.empty;
    }

    -- who has begun to wait, and come back
    pub waited : (cvs : Cvs) (old : Known C N) (w : WaitKnown C N) (new : Known C N) → HasBegunToWait truths mode cvs old w → HasComeBackFromAny truths mode by w new → HasWaitedForAny truths mode cvs by old new
    waited cvs old w new b t = record {
      grows = record {
        monitor = t.monitor ∙ b.monitor;
        seat_count = t.seat_count ∙ b.seat_count;
        seat = t.seat ∙ b.seat;
        begins = begins_through new.seen w.known.seen old.seen t.begins b.begins;
        begun = t.begun ∙ b.begun;
        true_to = t.true_to;
        over = t.over;
        owes = t.owes;
        empty = t.empty;
      };
      mine = told old.held b.mine;
      among = subst (λ set. IsByOneOf set by) b.variables t.among;
      back = t.back;
    } where
      told : (held : Option (Held C N)) → InHand held (λ was. w.known.mine ≡ old.mine ++ section_of truths.holds old.seat was (AnyWait cvs) ∷ []) → InHand held (λ was. new.mine ≡ old.mine ++ section_of truths.holds old.seat was (AnyWait cvs) ∷ leave_any_told old.seat cvs by)
      told None m = m
      told (Some was) m = t.mine ∙ ((λ i. m i ++ leave_any_told (b.seat i) (b.variables i) by) ∙ append_assoc old.mine (section_of truths.holds old.seat was (AnyWait cvs) ∷ []) (leave_any_told old.seat cvs by))

mod_most : (a k : ℕ) → a % k ≤ a
mod_most a k = omega arith

up_most : (k e : ℕ) → up k e ≤ e + k
up_most k e = omega (arith, mod_most (k - e % k) k)

-- what is aligned to a, and takes s, fits with a few bytes before it
beside_small : (a s n k : ℕ) → n ≤ 2 → k ≤ a + 1 → a + s < 2 ^ 40 → up k (up a n + s) < 2 ^ 63
beside_small a s n k few most small = omega (arith, up_most a n, up_most k (up a n + s), few, most, small)

-- what takes little by the bound is small; of any type, so that no size is worked out
aligned_small : (τ : Ty) → room τ < 2 ^ 40 → align τ + size τ < 2 ^ 40
aligned_small τ few = let most = room_enough τ in omega (arith, most, few)

-- a section in hand fits, where what stands for it takes little
pub hand_fits : (τ : Ty) → room τ < 2 ^ 40 → up (max 1 (max 1 (max 1 (max (align τ) 1)))) (up (align τ) 2 + size τ) < 2 ^ 63
hand_fits τ few = beside_small (align τ) (size τ) 2 (max 1 (max 1 (max 1 (max (align τ) 1)))) (omega arith) (omega arith) (aligned_small τ few)

-- the wait is for variables that there are, where one is among the items
pub some_wait : (cvs : Cvs) (items : List PlainItem) (k : ℕ) → cvs.0 < 256 → AreAmong cvs items → Every IsLow items → is_among k items ≡ true → AreSome cvs
some_wait cvs items k byte are low one = are_some cvs k byte (are k ∙ one) (λ j is. low_if_among items j low (sym (are j) ∙ is))

this_is : (k : ℕ) (item : AnyItem) → is_this k (item_of item) ≡ true → item ≡ Cv k
this_is k (Note note) is = absurd (false≢true is)
this_is k (Counter counter) is = absurd (false≢true is)
this_is k (Cv j) is = ap Cv (eqb-true j k is)

-- at the place of a variable it stands
stands_at : (k : ℕ) (items : List AnyItem) → is_among k (map item_of items) ≡ true → slice_get items (place_in k (map item_of items)) ≡ Some (Cv k)
stands_at k [] is = absurd (false≢true is)
stands_at k (item ∷ items) is = by (is_this k (item_of item)) refl (λ some. stands_at k items some) is where
  by : (b : Bool) → is_this k (item_of item) ≡ b → (is_among k (map item_of items) ≡ true → slice_get items (place_in k (map item_of items)) ≡ Some (Cv k)) → (b || is_among k (map item_of items)) ≡ true → slice_get (item ∷ items) (cond b 0 (suc (place_in k (map item_of items)))) ≡ Some (Cv k)
  by true this rest some = ap Some (this_is k item this)
  by false this rest some = rest some

-- and nowhere before
stands_first : (k : ℕ) (items : List AnyItem) (i : ℕ) → i < place_in k (map item_of items) → slice_get items i ≡ Some (Cv k) → ⊥
stands_first k [] i low is = absurd (omega (arith, low))
stands_first k (item ∷ items) i low is = by (is_this k (item_of item)) refl (λ j below there. stands_first k items j below there) i low is where
  by : (b : Bool) → is_this k (item_of item) ≡ b → ((j : ℕ) → j < place_in k (map item_of items) → slice_get items j ≡ Some (Cv k) → ⊥) → (i : ℕ) → i < cond b 0 (suc (place_in k (map item_of items))) → slice_get (item ∷ items) i ≡ Some (Cv k) → ⊥
  by true this rest i low is = absurd (omega (arith, low))
  by false this rest zero low is =
      let same : Some item ≡ Some (Cv k) = is in
      let here : item ≡ Cv k = cc in
      false≢true (sym this ∙ ap (λ (x : AnyItem). is_this k (item_of x)) here ∙ eq-eqb k k refl)
  by false this rest (suc i) low is = rest i (omega (arith, low)) is

-- the place of the variable that has woken a wait
pub place_by : (setup : Setup) (items : List AnyItem) (deadline : Option ℕ) (from to : Past) (cvs : Cvs) (k place : ℕ) → AreAmong cvs (map item_of items) → IsByOneOf cvs (Some k) → place ≡ place_in k (map item_of items) → PlaceBy setup items deadline from to (Some k) place
place_by setup items deadline from to cvs k place are by at = subst (λ p. PlaceBy setup items deadline from to (Some k) p) (sym at) (stands_at k items (sym (are k) ∙ by), stands_first k items)
