use Rattle.std.proofs.Common.{◌∙◌}
use Rattle.ns_world.proofs.Prelude.{[], append-nil, refl, sym}
use Rattle.ns_world.proofs.Exchanged.{finds_another}
use Rattle.ns_world.proofs.lock.Lock.make.Goals as goal

pub returns-then-not-is_same : goal.returns-then-not-is_same
returns-then-not-is_same g c = finds_another g.C.Condition.means c.args.self.now c.args.seat.now c.args.act (rw c.expected.ensures at c.if-not-is_same.ensures.another refl)

pub acquire-requires : goal.acquire-requires
acquire-requires g c = (g.met.C.Seated.lock_fits, (g.met.C.Seated.seat_fits, rw (← (rw c.in-Acquire.is at (c.if-not-is_same.ensures.same refl ∙ c.expected.ensures))) at (rw c.in-Acquire.is at c.requires.fits)))

pub returns-in-Acquire : goal.returns-in-Acquire
returns-in-Acquire g c = rw (c.in-Acquire.is, ← (rw c.in-Acquire.is at (c.if-not-is_same.ensures.same refl ∙ c.expected.ensures))) c.acquire.ensures

pub take_queues-requires : goal.take_queues-requires
take_queues-requires g c = (g.met.C.Seated.lock_fits, rw (← (rw c.in-TakeQueues.is at (c.if-not-is_same.ensures.same refl ∙ c.expected.ensures))) at (rw c.in-TakeQueues.is at c.requires.fits))

pub returns-in-TakeQueues : goal.returns-in-TakeQueues
returns-in-TakeQueues g c = rw (c.in-TakeQueues.is, ← (rw c.in-TakeQueues.is at (c.if-not-is_same.ensures.same refl ∙ c.expected.ensures))) (c.take_queues.ensures c.args.seat.now)

pub return_queues-requires : goal.return_queues-requires
return_queues-requires g c = (g.met.C.Seated.lock_fits, (g.met.C.Seated.seat_fits, rw c.in-ReturnQueues.is at c.requires.fits))

pub returns-in-ReturnQueues : goal.returns-in-ReturnQueues
returns-in-ReturnQueues g c = rw (c.in-ReturnQueues.is, ← (rw c.in-ReturnQueues.is at (c.if-not-is_same.ensures.same refl ∙ c.expected.ensures))) c.return_queues.ensures

pub release-requires : goal.release-requires
release-requires g c = (g.met.C.Seated.lock_fits, (g.met.C.Seated.seat_fits, rw c.in-Release.is at c.requires.fits))

pub returns-in-Release : goal.returns-in-Release
returns-in-Release g c = rw (c.in-Release.is, ← (rw c.in-Release.is at (c.if-not-is_same.ensures.same refl ∙ c.expected.ensures))) c.release.ensures

pub release_returning-requires : goal.release_returning-requires
release_returning-requires g c = (g.met.C.Seated.lock_fits, (g.met.C.Seated.seat_fits, rw c.in-ReleaseReturning.is at c.requires.fits))

pub returns-in-ReleaseReturning : goal.returns-in-ReleaseReturning
returns-in-ReleaseReturning g c = rw (c.in-ReleaseReturning.is, ← (rw c.in-ReleaseReturning.is at (c.if-not-is_same.ensures.same refl ∙ c.expected.ensures))) c.release_returning.ensures

pub wait_returning-requires : goal.wait_returning-requires
wait_returning-requires g c = (g.met.C.Seated.lock_fits, (g.met.C.Seated.seat_fits, rw c.in-WaitReturning.is at c.requires.fits))

pub returns-in-WaitReturning : goal.returns-in-WaitReturning
returns-in-WaitReturning g c = rw (c.in-WaitReturning.is, ← (rw c.in-WaitReturning.is at (c.if-not-is_same.ensures.same refl ∙ c.expected.ensures))) c.wait_returning.ensures

pub judge-requires : goal.judge-requires
judge-requires g c = (g.met.C.Seated.seat_fits, (rw c.in-JudgeQuiet.is at c.requires.fits).0)

pub returns-in-JudgeQuiet : goal.returns-in-JudgeQuiet
returns-in-JudgeQuiet g c = rw c.in-JudgeQuiet.is (c.judge.ensures c.args.self.now)

pub judge_met-requires : goal.judge_met-requires
judge_met-requires g c = (g.met.C.Seated.seat_fits, (rw c.in-JudgeMet.is at c.requires.fits).0)

pub returns-in-JudgeMet : goal.returns-in-JudgeMet
returns-in-JudgeMet g c = rw c.in-JudgeMet.is (c.judge_met.ensures c.args.self.now)

pub store-requires : goal.store-requires
store-requires g c = (g.met.C.Seated.lock_fits, (g.met.C.Seated.seat_fits, rw c.in-StoreCell.is at c.requires.fits))

pub returns-in-StoreCell : goal.returns-in-StoreCell
returns-in-StoreCell g c = rw c.in-StoreCell.is c.store.ensures

pub arm_flag-requires : goal.arm_flag-requires
arm_flag-requires g c = (g.met.C.Seated.lock_fits, (g.met.C.Seated.seat_fits, rw c.in-ArmFlag.is at c.requires.fits))

pub returns-in-ArmFlag : goal.returns-in-ArmFlag
returns-in-ArmFlag g c = rw c.in-ArmFlag.is c.arm_flag.ensures

pub pay_wake-requires : goal.pay_wake-requires
pay_wake-requires g c = (g.met.C.Seated.lock_fits, (g.met.C.Seated.seat_fits, rw c.in-PayWake.is at c.requires.fits))

pub returns-in-PayWake : goal.returns-in-PayWake
returns-in-PayWake g c = rw c.in-PayWake.is c.pay_wake.ensures

pub returns-in-LoadWord : goal.returns-in-LoadWord
returns-in-LoadWord g c = rw c.in-LoadWord.is record { commits = []; effect = (refl, refl, refl); grows = sym (append-nil c.args.self.now.history.items); stays = refl }

pub returns-in-LoadCell : goal.returns-in-LoadCell
returns-in-LoadCell g c = rw c.in-LoadCell.is record { commits = []; effect = (refl, refl, refl); grows = sym (append-nil c.args.self.now.history.items); stays = refl }

pub returns-in-LoadFlag : goal.returns-in-LoadFlag
returns-in-LoadFlag g c = rw c.in-LoadFlag.is record { commits = []; effect = (refl, refl, refl); grows = sym (append-nil c.args.self.now.history.items); stays = refl }

pub bounds-self-i : goal.bounds-self-i
bounds-self-i g c = rw c.in-LoadCell.is at c.requires.fits

pub bounds-self-seat : goal.bounds-self-seat
bounds-self-seat g c = rw c.in-LoadFlag.is at c.requires.fits

pub unreachable-requires : goal.unreachable-requires
unreachable-requires g c = let no = rw c.in-Look.is at c.requires.inside in absurd (cc)
