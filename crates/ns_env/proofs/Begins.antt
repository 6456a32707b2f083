-- How a clock and notes begin that stand as plain data, and how a call on them begins.
use Rattle.std.proofs.Common.{length, ◌≡◌, ℕ, zero, suc, List, [], replicate, Option, None, Some, slice_get, refl, sym, ap, subst, arith}
use Rattle.std.proofs.lemmas.List.{length-set}
use Rattle.std.proofs.lemmas.Option.{slice_get_within}
use Rattle.ns_env.specs.Prelude.{Advancing, AskFits, EnvBegins, EnvEvent, EnvState, EnvWalk, ExpiryLoad, IsEnvBySeats, IsFirstAsk, IsLawful, IsLawfulEnv, MakeNote, MakingFits, NoteLoad, NoteStanding, Nothing, TakeNumber, adders, adds, env_after, fresh_asks, fresh_plain, making_of}
use Rattle.ns_env.proofs.Asks.{adders_set, set_each}

-- ---- a new environment

nobody : (seats seat : ℕ) (walk : EnvWalk) → slice_get (replicate {A = Option EnvWalk} seats None) seat ≡ Some (Some walk) → ⊥
nobody zero seat walk e = absurd (cc)
nobody (suc seats) zero walk e = absurd (cc)
nobody (suc seats) (suc seat) walk e = nobody seats seat walk e

none_adds : (seats : ℕ) → ◌≡◌ {A = ℕ} (adders (replicate {A = Option EnvWalk} seats None)) 0
none_adds zero = refl
none_adds (suc seats) = let rest = none_adds seats in omega (arith, rest)

pub new_lawful : (seats adders : ℕ) → ◌≡◌ {A = ℕ} adders 0 → IsLawful seats fresh_plain adders []
new_lawful seats adders none = record { meets = record { legal = tt; clock = refl; takes = refl; notes = refl }; by_seats = tt; room = omega (arith, none) }

pub fresh_lawful : (seats : ℕ) → IsLawfulEnv [] (fresh_asks seats)
fresh_lawful seats = record {
  lawful = new_lawful (length (fresh_asks seats).askings) (adders (fresh_asks seats).askings) (none_adds seats);
  making = λ seat walk e. absurd (nobody seats seat walk e);
  each = λ seat walk e. absurd (nobody seats seat walk e);
}

-- ---- a call begins

-- it begins to make no note yet
first_makes : (notes : ℕ → NoteStanding) (walk : EnvWalk) → IsFirstAsk notes walk → making_of walk ≡ Nothing
first_makes notes (TakeNumber parent deadline) p = absurd p
first_makes notes (MakeNote note parent deadline) p = absurd p
first_makes notes other p = refl

first_fits : (h : List EnvEvent) (walk : EnvWalk) → IsFirstAsk (env_after h).notes walk → AskFits h walk
first_fits h (TakeNumber parent deadline) p = absurd p
first_fits h (MakeNote note parent deadline) p = absurd p
first_fits h (Advancing moment) p = tt
first_fits h (NoteLoad chain clock note) p = absurd p
first_fits h (ExpiryLoad asked note least) p = subst (λ (z : ℕ × Option ℕ). AskFits h (ExpiryLoad asked z.0 z.1)) (λ i. (sym p.0 i, sym p.1 i)) (p.2, p.2, refl)
first_fits h other p = p

pub begins_env : (h : List EnvEvent) (old new : EnvState) (seat : ℕ) (walk : EnvWalk) → EnvBegins old seat walk new → IsLawfulEnv h old → IsLawfulEnv h new
begins_env h old new seat walk p lawful =
    let long = length-set old.askings seat (Some walk) in
    let none : making_of walk ≡ Nothing = first_makes old.plain.notes walk p.first in
    let within = slice_get_within old.askings seat None p.over in
    subst (IsLawfulEnv h) (sym p.becomes) (record {
      lawful = record {
        meets = lawful.lawful.meets;
        by_seats = subst (λ (n : ℕ). IsEnvBySeats n h) (sym long) lawful.lawful.by_seats;
        room = let set = adders_set old.askings seat None (Some walk) p.over in let zero : ◌≡◌ {A = ℕ} (adds (making_of walk)) 0 = ap adds none in let room = lawful.lawful.room in omega (arith, set, zero, long, room);
      };
      making = set_each (λ other ask. MakingFits (env_after h) other (making_of ask)) old.askings seat (Some walk) within (subst (MakingFits (env_after h) seat) (sym none) tt) (λ other ask ne at. lawful.making other ask at);
      each = set_each (λ other ask. AskFits h ask) old.askings seat (Some walk) within (first_fits h walk (subst (λ (notes : ℕ → NoteStanding). IsFirstAsk notes walk) lawful.lawful.meets.notes p.first)) (λ other ask ne at. lawful.each other ask at);
    })
