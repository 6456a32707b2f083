use Rattle.std.proofs.Common.{subst, sym, ℕ, ◌≡◌}
use Rattle.ns_world.proofs.Prelude.{EnvAct, EnvEffect, EnvFound, EnvPlain, outcome, plain_of}
use Rattle.ns_world.proofs.environment.Environment.make.Goals as goal

-- the act is the one that was matched
made : (act is : EnvAct) (old new : EnvPlain) (found : EnvFound) → act ≡ is → ((seat : ℕ) → EnvEffect seat is old found new (outcome seat is old).events) → (seat : ℕ) → EnvEffect seat act old found new (outcome seat act old).events
made act is old new found same effect seat = subst (λ (a : EnvAct). EnvEffect seat a old found new (outcome seat a old).events) (sym same) (effect seat)

pub returns-in-StoreNote : goal.returns-in-StoreNote
returns-in-StoreNote c = made _ _ (plain_of c.args.self.now) (plain_of c.store_note.new.self) c.store_note.result c.in-StoreNote.is c.store_note.ensures

pub returns-in-NotifyNote : goal.returns-in-NotifyNote
returns-in-NotifyNote c = made _ _ (plain_of c.args.self.now) (plain_of c.notify.new.self) c.notify.result c.in-NotifyNote.is c.notify.ensures
