-- Seats of new objects, and seats that meet.
use Rattle.std.proofs.Common.{List, [], arith, eqb, refl, subst, suc, sym, zero, ℕ, ◌+◌, ◌∙◌, ◌∷◌, ◌≤◌}
use Rattle.ns_objects.proofs.Prelude.{Grows, Allows, AreObjectsBySeats, ArePair, Every, HasSight, HasWords, HaveMet, Holds, IsBySums, IsLawful, IsLegalObjects, IsRuled, Learned, Me, ObjectEvent, ObjectView, Setup, TableId, ViewFits, begins_itself, fresh, fresh_seat, joined_learn, known_of}
use Rattle.ns_objects.proofs.Prelude.{no_setup, none_twice, numbered_count, objects_own, one_history, one_if, own-append, sight_of}

-- the rule reads the views by sums over what has to do with their numbers, and by what holds of each
pub by_sums : (S : Type 0) (setup : Setup) → IsBySums {S = S} {K = ℕ} (λ (v : ObjectView). v.seat) (ViewFits setup) (λ words homes views history. IsRuled setup words views history)
by_sums S setup = record {
  each = λ words homes views h rule. rule.each;
  same = λ words homes views views' h rule same each. record {
    lawful = rule.lawful;
    seats = same (λ k. 1) ∙ rule.seats;
    once = λ seat. let e = same (λ k. one_if (eqb k seat)) in let was = rule.once seat in omega (arith, e, was);
    each = each;
  };
}

-- ---- two that are joined see one history

abbrev seen_now : List ObjectEvent → ObjectView → ObjectView
seen_now h v = record { setup = v.setup; seat = v.seat; place = v.place; seen = h; mine = v.mine }

has_sight : (setup : Setup) (h : List ObjectEvent) (v : ObjectView) (objects : TableId) → ViewFits setup h v → HasSight objects_own h (sight_of (known_of objects v))
has_sight setup h v objects f = record { begins = f.seen; own = f.mine; own_seen = f.mine_seen }

fits_now : (setup : Setup) (h : List ObjectEvent) (v : ObjectView) → ViewFits setup h v → ViewFits setup h (seen_now h v)
fits_now setup h v f = record { made = f.made; below = f.below; seen = begins_itself h; mine = f.mine; mine_seen = f.mine; place = f.place }

-- a seat that has seen it all has seen more, of a history that stays true
grown : (setup : Setup) (words : List ℕ) (h : List ObjectEvent) → IsLawful setup words h → (v : ObjectView) → ViewFits setup h v → (objects : TableId) → Grows (known_of objects v) (known_of objects (seen_now h v))
grown setup words h law v f objects =
    let legal = subst (λ (s : Setup). IsLegalObjects s h) (sym f.made) law.legal in let by_seats = subst (λ (s : Setup). AreObjectsBySeats s h) (sym f.made) law.by_seats in
    record { objects = refl; setup = refl; seat = refl; begins = f.seen; true_to = record { room = subst HasWords (sym f.made) law.room; legal = legal; by_seats = by_seats; own = f.mine } }

have_met : (setup : Setup) (words : List ℕ) (h : List ObjectEvent) → IsLawful setup words h → (v u : ObjectView) → ViewFits setup h v → ViewFits setup h u → HaveMet v u (seen_now h v) (seen_now h u)
have_met setup words h law v u f g = record {
  first = grown setup words h law v f;
  second = grown setup words h law u g;
  first_mine = refl;
  second_mine = refl;
  first_place = refl;
  second_place = refl;
  same = refl;
  before = λ objects. one_history objects_own (λ seat front rest. own-append front rest seat) h (sight_of (known_of objects v)) (sight_of (known_of objects u)) (has_sight setup h v objects f) (has_sight setup h u objects g);
}

-- two seats that are joined may learn
pub learns : (S : Type 0) (setup : Setup) (id slots : ℕ) (me : Me S (List ObjectView)) → ArePair me.0 → Allows (Holds setup) slots id me 0 (λ n. n) (λ found now. Learned me now)
learns S setup id slots me two = joined_learn (by_sums S setup) (fresh_seat no_setup 0) HaveMet seen_now (λ h v. refl)
    (λ words homes views h rule. fits_now setup h) (λ id words homes views h rule v u at. have_met setup words h rule.lawful v u) slots id me two

-- ---- a table at its start

fresh_fits : (setup : Setup) (from k : ℕ) → from + k ≤ setup.seats → Every (ViewFits setup []) (fresh setup from k)
fresh_fits setup from zero h = tt
fresh_fits setup from (suc k) h = (record { made = refl; below = omega (arith, h); seen = ([], refl); mine = refl; mine_seen = refl; place = tt }, fresh_fits setup (suc from) k (omega (arith, h)))

pub begins : (setup : Setup) (words : List ℕ) → IsLawful setup words [] → (h : List ObjectEvent) × IsRuled setup words (fresh setup 0 setup.seats ∷ []) h
begins setup words lawful = (
  [],
  record {
    lawful = lawful;
    seats = let a = numbered_count (fresh_seat setup) 0 setup.seats in omega (arith, a);
    once = λ seat. let a = none_twice (fresh_seat setup) (λ v. v.seat) (λ k. refl) setup.seats seat in omega (arith, a);
    each = (fresh_fits setup 0 setup.seats (omega arith), tt);
  },
)
