-- One step of one caller, and all who look on.
use Rattle.std.proofs.Common.{◌≡◌, ◌≢◌, ℕ, ◌+◌, ◌<◌, Bool, cond, List, [], ◌∷◌, ◌++◌, refl, sym, ap, ◌∙◌, subst, append-nil, eq-eqb, ne_eqb}
use Rattle.ns_env.specs.Prelude.{BeginsWith, CanAct, EnvAct, EnvEvent, EnvPlain, EnvView, Every, HasActed, IsEnvBySeats, IsLawful, IsLegalEnv, Making, NotifyNote, Outcome, StoreNote, ViewFits, acted, adds, env_after, env_own, env_who, making_after, outcome}
use Rattle.ns_model.proofs.Beginnings.{begins_itself, begins_through}
use Rattle.ns_model.proofs.Environments.{env_own-append, made_begins}
use Rattle.ns_env.proofs.Asks.{parent_later}
use Rattle.ns_env.proofs.Keeps.{StepKeeps, outcome_by, step_keeps, others_make}

-- ---- callers

-- events of one caller are all its own, and none of another's
pub env_own_all : (seat : ℕ) (events : List EnvEvent) → Every (λ e. env_who e ≡ seat) events → env_own events seat ≡ events
env_own_all seat [] are = refl
env_own_all seat (e ∷ events) are = ap (λ (b : Bool). cond b (e ∷ env_own events seat) (env_own events seat)) (eq-eqb (env_who e) seat are.0) ∙ ap (λ rest. e ∷ rest) (env_own_all seat events are.1)

pub env_own_none : (who seat : ℕ) (events : List EnvEvent) → who ≢ seat → Every (λ e. env_who e ≡ who) events → env_own events seat ≡ []
env_own_none who seat [] apart are = refl
env_own_none who seat (e ∷ events) apart are = ap (λ (b : Bool). cond b (e ∷ env_own events seat) (env_own events seat)) (ne_eqb (env_who e) seat (λ is. apart (sym are.0 ∙ is))) ∙ env_own_none who seat events apart are.1

-- ---- what a caller has seen is so later, too

can_later : (h seen : List EnvEvent) (making : Making) (act : EnvAct) → IsLegalEnv h → BeginsWith h seen → CanAct (env_after seen) making act → CanAct (env_after h) making act
can_later h seen making (StoreNote note parent deadline) legal begins can = (can.0, parent_later seen h legal begins note parent can.1)
can_later h seen making (NotifyNote note) legal begins can = (can.0, made_begins h seen note legal begins can.1)
can_later h seen making other legal begins can = can

-- ---- the step

module _ (seats others : ℕ) (plain : EnvPlain) (h : List EnvEvent) (view : EnvView) (few : others < seats) (law : IsLawful seats plain (others + adds view.making) h) (fits : ViewFits seats h view) (act : EnvAct) (can : CanAct (env_after view.seen) view.making act) where
  abbrev left : Outcome
  left = outcome view.seat act plain

  keeps : StepKeeps seats others view.seat h left (making_after act plain view.making)
  keeps = step_keeps seats others view.seat plain view.making h few fits.below law fits.making act (can_later h view.seen view.making act law.meets.legal fits.seen can)

  -- The law holds after it.
  pub acted_lawful : IsLawful seats left.plain (others + adds (making_after act plain view.making)) (h ++ left.events)
  acted_lawful = keeps.lawful

  own_now : env_own (h ++ left.events) view.seat ≡ view.mine ++ left.events
  own_now = env_own-append h left.events view.seat ∙ (λ i. fits.mine i ++ env_own_all view.seat left.events (outcome_by view.seat act plain) i)

  -- Its caller knows what fits,
  pub acted_fits : ViewFits seats (h ++ left.events) (acted act plain h view)
  acted_fits = record {
    limited = fits.limited;
    below = fits.below;
    seen = begins_itself (h ++ left.events);
    mine = own_now;
    mine_seen = own_now;
    making = keeps.fits;
  }

  -- and so does each other seat.
  pub others_fit : (other : EnvView) → other.seat ≢ view.seat → ViewFits seats h other → ViewFits seats (h ++ left.events) other
  others_fit other apart theirs = record {
    limited = theirs.limited;
    below = theirs.below;
    seen = begins_through (h ++ left.events) h other.seen (left.events, refl) theirs.seen;
    mine = env_own-append h left.events other.seat ∙ ((λ i. theirs.mine i ++ env_own_none view.seat other.seat left.events (λ is. apart (sym is)) (outcome_by view.seat act plain) i) ∙ append-nil other.mine);
    mine_seen = theirs.mine_seen;
    making = others_make h left.events view.seat other.seat other.making law.meets.legal keeps.more (λ is. apart (sym is)) (outcome_by view.seat act plain) theirs.making;
  }

  -- What the caller knows of the step.
  pub has_acted : HasActed act plain view (acted act plain h view)
  has_acted = record {
    seat_count = refl;
    seat = refl;
    point = h;
    since = fits.seen;
    meets = law.meets;
    seen = refl;
    mine = refl;
    making = refl;
    legal = keeps.lawful.meets.legal;
    by_seats = subst (λ (n : ℕ). IsEnvBySeats n (h ++ left.events)) (sym fits.limited) keeps.lawful.by_seats;
    own = own_now;
  }
