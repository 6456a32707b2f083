-- Seats of a new environment, and seats that meet.
use Rattle.std.proofs.Common.{List, [], append-nil, arith, eqb, refl, replicate, subst, suc, sym, zero, ℕ, ◌+◌, ◌∙◌, ◌∷◌, ◌≡◌, ◌≤◌}
use Rattle.ns_note.proofs.Prelude.{Adds, Allows, ArePair, EnvEvent, EnvView, Every, HasSight, HaveLearned, Holds, IsBySums, IsEnvBySeats, IsLawful, IsLegalEnv, IsRuled, Learned, Making, Me, TableId, ViewFits, adds, begins_itself, env_own, env_own-append, fresh, fresh_plain, fresh_seat, is_adding}
use Rattle.ns_note.proofs.Prelude.{joined_learn, known_of, new_lawful, none_twice, numbered_count, one_history, one_if, sight_of, tally, total}
use Rattle.ns_note.proofs.Words.{zeros_are}

-- the rule reads the views by sums over what has to do with their numbers and with what they make, and by what holds of each
pub by_sums : (S : Type 0) (seat_count : ℕ) → IsBySums {S = S} {K = ℕ × Making} (λ (v : EnvView). (v.seat, v.making)) (ViewFits seat_count) (λ words homes views history. IsRuled seat_count words views history)
by_sums S seat_count = record {
  each = λ words homes views h rule. rule.each;
  same = λ words homes views views' h rule same each. record {
    plain = rule.plain;
    words_are = rule.words_are;
    lawful = subst (λ n. IsLawful seat_count rule.plain n h) (sym (same (λ k. adds k.1))) rule.lawful;
    few = rule.few;
    seats = same (λ k. 1) ∙ rule.seats;
    once = λ w. let e = same (λ k. one_if (eqb k.0 w)) in let was = rule.once w in omega (arith, e, was);
    each = each;
  };
}

-- ---- two that are joined see one history

has_sight : (seat_count : ℕ) (h : List EnvEvent) (v : EnvView) (env : TableId) → ViewFits seat_count h v → HasSight env_own h (sight_of (known_of env v))
has_sight seat_count h v env f = record { begins = f.seen; own = f.mine; own_seen = f.mine_seen }

abbrev seen_now : List EnvEvent → EnvView → EnvView
seen_now h v = record { seat_count = v.seat_count; seat = v.seat; making = v.making; seen = h; mine = v.mine }

fits_now : (seat_count : ℕ) (h : List EnvEvent) (v : EnvView) → ViewFits seat_count h v → ViewFits seat_count h (seen_now h v)
fits_now seat_count h v f = record { limited = f.limited; below = f.below; seen = begins_itself h; mine = f.mine; mine_seen = f.mine; making = f.making }

tells_now : (seat_count : ℕ) (h : List EnvEvent) → IsLegalEnv h → IsEnvBySeats seat_count h → (v : EnvView) → ViewFits seat_count h v → Adds [] v (seen_now h v)
tells_now seat_count h legal by_seats v f = record {
  grows = λ env. record { env = refl; seat_count = refl; seat = refl; begins = f.seen; true_to = record { legal = legal; by_seats = subst (λ (k : ℕ). IsEnvBySeats k h) (sym f.limited) by_seats; own = f.mine } };
  mine = sym (append-nil v.mine);
}

have_learned : (seat_count : ℕ) (h : List EnvEvent) → IsLegalEnv h → IsEnvBySeats seat_count h → (v u : EnvView) → ViewFits seat_count h v → ViewFits seat_count h u → HaveLearned v u (seen_now h v) (seen_now h u)
have_learned seat_count h legal by_seats v u f g = record {
  first = tells_now seat_count h legal by_seats v f;
  second = tells_now seat_count h legal by_seats u g;
  first_making = refl;
  second_making = refl;
  same = refl;
  before = λ env. one_history env_own (λ seat front rest. env_own-append front rest seat) h (sight_of (known_of env v)) (sight_of (known_of env u)) (has_sight seat_count h v env f) (has_sight seat_count h u env g);
}

-- two seats that are joined may learn
pub learns : (S : Type 0) (seat_count id slots : ℕ) (me : Me S (List EnvView)) → ArePair me.0 → Allows (Holds seat_count) slots id me 0 (λ n. n) (λ found now. Learned me now)
learns S seat_count id slots me two = joined_learn (by_sums S seat_count) (fresh_seat 0 0) HaveLearned seen_now (λ h v. refl)
    (λ words homes views h rule. fits_now seat_count h) (λ id words homes views h rule v u at. have_learned seat_count h rule.lawful.meets.legal rule.lawful.by_seats v u) slots id me two

-- ---- a table at its start

fresh_total : (f : EnvView → ℕ) (seat_count from k : ℕ) → ((w : ℕ) → f (fresh_seat seat_count w) ≡ 0) → total f (fresh seat_count from k) ≡ 0
fresh_total f seat_count from zero h = refl
fresh_total f seat_count from (suc k) h = let a = h from in let b = fresh_total f seat_count (suc from) k h in omega arith

fresh_fits : (seat_count from k : ℕ) → from + k ≤ seat_count → Every (ViewFits seat_count []) (fresh seat_count from k)
fresh_fits seat_count from zero h = tt
fresh_fits seat_count from (suc k) h = (record { limited = refl; below = omega arith; seen = ([], refl); mine = refl; mine_seen = refl; making = tt }, fresh_fits seat_count (suc from) k (omega arith))

begins : (seat_count k : ℕ) → seat_count ≤ 64 → k ≡ 130 → (h : List EnvEvent) × IsRuled seat_count (replicate k 0) (fresh seat_count 0 seat_count ∷ []) h
begins seat_count k few is = (
  [],
  record {
    plain = fresh_plain;
    words_are = zeros_are k is;
    lawful = new_lawful seat_count (tally is_adding (fresh seat_count 0 seat_count ∷ [])) (let a = fresh_total is_adding seat_count 0 seat_count (λ w. refl) in omega (arith, a));
    few = few;
    seats = let a = numbered_count (fresh_seat seat_count) 0 seat_count in omega (arith, a);
    once = λ w. let a = none_twice (fresh_seat seat_count) (λ v. v.seat) (λ k. refl) seat_count w in omega (arith, a);
    each = (fresh_fits seat_count 0 seat_count (omega arith), tt);
  },
)

pub begins_with : (seat_count : ℕ) (words : List ℕ) → seat_count ≤ 64 → words ≡ replicate 130 0 → (h : List EnvEvent) × IsRuled seat_count words (fresh seat_count 0 seat_count ∷ []) h
begins_with seat_count words few is = subst (λ (l : List ℕ). (h : List EnvEvent) × IsRuled seat_count l (fresh seat_count 0 seat_count ∷ []) h) (sym is) (begins seat_count 130 few refl)
