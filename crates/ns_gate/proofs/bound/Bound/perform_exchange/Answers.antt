use Rattle.std.proofs.Common.{Bool, arith, refl, ◌≡◌}
use Rattle.ns_gate.proofs.Prelude.{Acquire, Act, Aim, Arrival, Change, IsOnWord, Release, ReleaseReturning, Releasing, ReturnQueues, TakeQueues, Taking, Wait, WaitReturning, Word, beside_fits}
use Rattle.ns_gate.proofs.bound.Bound.perform_exchange.Goals as goal

-- an exchange is one of these
off_word : {C : Type 0} (act : Act C) → IsOnWord act → ((aim : Aim C) (arrival : Arrival) (last : Word) → act ≡ Acquire aim arrival last → ⊥) → ((taking : Taking) (last : Word) → act ≡ TakeQueues taking last → ⊥) → ((releasing : Releasing) (last : Word) → act ≡ Release releasing last → ⊥)
    → ((change : Change) (last : Word) → act ≡ ReturnQueues change last → ⊥) → ((releasing : Releasing) (last : Word) → act ≡ ReleaseReturning releasing last → ⊥) → ((wait : Wait C) (again : Bool) (last : Word) → act ≡ WaitReturning wait again last → ⊥) → ⊥
off_word (Acquire aim arrival last) kind acquire take release back leave wait = acquire aim arrival last refl
off_word (TakeQueues taking last) kind acquire take release back leave wait = take taking last refl
off_word (Release releasing last) kind acquire take release back leave wait = release releasing last refl
off_word (ReturnQueues change last) kind acquire take release back leave wait = back change last refl
off_word (ReleaseReturning releasing last) kind acquire take release back leave wait = leave releasing last refl
off_word (WaitReturning waits again last) kind acquire take release back leave wait = wait waits again last refl
off_word other kind acquire take release back leave wait = kind

pub exchange_to_acquire-tries-requires : goal.exchange_to_acquire-tries-requires
exchange_to_acquire-tries-requires g c = let is = c.in-Acquire.is in let needs = rw is at c.requires.needs in let word = c.new.ensures in
    (omega arith, (rw word needs.1, rw word (rw is at c.requires.can)))

pub exchange_to_take-tries-requires : goal.exchange_to_take-tries-requires
exchange_to_take-tries-requires g c = let is = c.in-TakeQueues.is in let needs = rw is at c.requires.needs in let word = c.new-in-TakeQueues.ensures in
    (omega arith, (rw word needs.1, rw word (rw is at c.requires.can)))

pub exchange_to_release-tries-requires : goal.exchange_to_release-tries-requires
exchange_to_release-tries-requires g c = let is = c.in-Release.is in let needs = rw is at c.requires.needs in let word = c.new-in-Release.ensures in
    (omega arith, (rw word needs.1, rw word (rw is at c.requires.can)))

pub put_back-requires : goal.put_back-requires
put_back-requires g c = let is = c.in-ReturnQueues.is in let needs = rw is at c.requires.needs in
    (omega arith, (beside_fits g.row.C g.row.N g.met.C.Condition.has_room, (rw is at c.requires.can, needs.1)))

pub put_back-requires-in-ReleaseReturning : goal.put_back-requires-in-ReleaseReturning
put_back-requires-in-ReleaseReturning g c = let is = c.in-ReleaseReturning.is in let needs = rw is at c.requires.needs in
    (omega arith, (beside_fits g.row.C g.row.N g.met.C.Condition.has_room, (rw is at c.requires.can, needs.1)))

pub put_back-requires-in-WaitReturning : goal.put_back-requires-in-WaitReturning
put_back-requires-in-WaitReturning g c = let is = c.in-WaitReturning.is in let needs = rw is at c.requires.needs in
    (omega arith, (beside_fits g.row.C g.row.N g.met.C.Condition.has_room, (rw is at c.requires.can, needs.1)))

pub found_by-requires : goal.found_by-requires
found_by-requires g c = c.exchange_to_acquire-tries.ensures.word

pub found_by-requires-in-TakeQueues : goal.found_by-requires-in-TakeQueues
found_by-requires-in-TakeQueues g c = c.exchange_to_take-tries.ensures.word

pub found_by-requires-in-Release : goal.found_by-requires-in-Release
found_by-requires-in-Release g c = c.exchange_to_release-tries.ensures.word

pub returns-in-Acquire : goal.returns-in-Acquire
returns-in-Acquire g c = rw c.in-Acquire.is (rw c.found_by.ensures (rw c.new.ensures at c.exchange_to_acquire-tries.ensures.did))

pub returns-in-TakeQueues : goal.returns-in-TakeQueues
returns-in-TakeQueues g c = rw c.in-TakeQueues.is (rw c.found_by-in-TakeQueues.ensures (rw c.new-in-TakeQueues.ensures at c.exchange_to_take-tries.ensures.did))

pub returns-in-Release : goal.returns-in-Release
returns-in-Release g c = rw c.in-Release.is (rw c.found_by-in-Release.ensures (rw c.new-in-Release.ensures at c.exchange_to_release-tries.ensures.did))

pub returns-in-ReturnQueues : goal.returns-in-ReturnQueues
returns-in-ReturnQueues g c = rw c.in-ReturnQueues.is c.put_back.ensures

pub returns-in-ReleaseReturning : goal.returns-in-ReleaseReturning
returns-in-ReleaseReturning g c = rw c.in-ReleaseReturning.is c.put_back-in-ReleaseReturning.ensures

pub returns-in-WaitReturning : goal.returns-in-WaitReturning
returns-in-WaitReturning g c = rw c.in-WaitReturning.is c.put_back-in-WaitReturning.ensures

pub unreachable-requires : goal.unreachable-requires
unreachable-requires g c = off_word c.args.act c.requires.kind c.in_default.not-Acquire c.in_default.not-TakeQueues c.in_default.not-Release c.in_default.not-ReturnQueues c.in_default.not-ReleaseReturning c.in_default.not-WaitReturning
