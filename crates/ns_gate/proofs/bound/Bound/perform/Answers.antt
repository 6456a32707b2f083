use Rattle.std.proofs.Common.{Bool, List, None, Option, arith, refl, slice_index, slice_set, ℕ, ◌≡◌}
use Rattle.ns_gate.proofs.Prelude.{Acquire, Act, ArmFlag, IsOnWord, JudgeMet, JudgeQuiet, Limits, LoadCell, LoadFlag, LoadWord, Look, Needs, PayWake, Release, ReleaseReturning, ReturnQueues, SeatOf, StoreCell, TakeQueues, Truths, WaitReturning, Walk, before_in, beside_fits, row_in, the}
use Rattle.ns_gate.specs.Names.{Beside}
use Rattle.ns_gate.proofs.bound.Bound.perform.Goals as goal

-- what a test says of a row in which this cell was set, it says of the whole row
by_cell : (test : List ℕ → Bool) (row whole : List ℕ) (i j cell : ℕ) (is : Bool) → is ≡ test (slice_set row j cell) → j ≡ i → cell ≡ slice_index whole i → slice_set row i (slice_index whole i) ≡ whole → is ≡ test whole
by_cell test row whole i j cell is told place tells but = cc

-- an act that is none of the others is an exchange
on_word : {C : Type 0} (act : Act C) → (act ≡ LoadWord → ⊥) → ((i : ℕ) → act ≡ LoadCell i → ⊥) → ((i : ℕ) → act ≡ JudgeQuiet i → ⊥) → ((i : ℕ) (condition : C) → act ≡ JudgeMet i condition → ⊥) → ((i value : ℕ) → act ≡ StoreCell i value → ⊥)
    → (act ≡ ArmFlag → ⊥) → (act ≡ PayWake → ⊥) → (act ≡ LoadFlag → ⊥) → ((limits : Limits) (again : Bool) → act ≡ Look limits again → ⊥) → IsOnWord act
on_word LoadWord word cell quiet met store arm pay flag look = absurd (word refl)
on_word (LoadCell i) word cell quiet met store arm pay flag look = absurd (cell i refl)
on_word (JudgeQuiet i) word cell quiet met store arm pay flag look = absurd (quiet i refl)
on_word (JudgeMet i condition) word cell quiet met store arm pay flag look = absurd (met i condition refl)
on_word (StoreCell i value) word cell quiet met store arm pay flag look = absurd (store i value refl)
on_word ArmFlag word cell quiet met store arm pay flag look = absurd (arm refl)
on_word PayWake word cell quiet met store arm pay flag look = absurd (pay refl)
on_word LoadFlag word cell quiet met store arm pay flag look = absurd (flag refl)
on_word (Look limits again) word cell quiet met store arm pay flag look = absurd (look limits again refl)
on_word other word cell quiet met store arm pay flag look = tt

-- an exchange begins no call
begins_none : {C : Type 0} {N : ℕ} (truths : Truths C) (begins : Option (Walk C)) (act : Act C) (beside : Beside N) (me : SeatOf C N) → IsOnWord act → Needs truths begins act beside me → begins ≡ None
begins_none truths begins (Acquire aim arrival last) beside me on needs = needs.0
begins_none truths begins (TakeQueues taking last) beside me on needs = needs.0
begins_none truths begins (Release releasing last) beside me on needs = needs.0
begins_none truths begins (ReturnQueues change last) beside me on needs = needs.0
begins_none truths begins (ReleaseReturning releasing last) beside me on needs = needs.0
begins_none truths begins (WaitReturning wait again last) beside me on needs = needs.0
begins_none truths begins act beside me on needs = absurd on

pub load-requires : goal.load-requires
load-requires g c = let is = c.in-LoadWord.is in
    (omega arith, rw is at c.requires.can)

pub load_cell-requires : goal.load_cell-requires
load_cell-requires g c = let is = c.in-LoadCell.is in let needs = rw is at c.requires.needs in
    (omega arith, (needs, rw is at c.requires.can))

pub judge_quiet-requires : goal.judge_quiet-requires
judge_quiet-requires g c = let is = c.in-JudgeQuiet.is in let needs = rw is at c.requires.needs in
    (omega arith, (needs.0, rw is at c.requires.can))

pub judge_met-requires : goal.judge_met-requires
judge_met-requires g c = let is = c.in-JudgeMet.is in let needs = rw is at c.requires.needs in
    (omega arith, (needs.0, rw is at c.requires.can))

pub load_flag-requires : goal.load_flag-requires
load_flag-requires g c = let is = c.in-LoadFlag.is in let needs = rw is at c.requires.needs in
    (omega arith, rw needs at (rw is at c.requires.can))

pub look-requires : goal.look-requires
look-requires g c = let is = c.in-Look.is in let needs = rw is at c.requires.needs in
    (omega arith, (needs.1, rw needs.0 at (rw is at c.requires.can)))

pub store_cell-requires : goal.store_cell-requires
store_cell-requires g c = let is = c.in-StoreCell.is in let needs = rw is at c.requires.needs in
    (omega arith, (needs.1, rw needs.0 at (rw is at c.requires.can)))

pub arm_flag-requires : goal.arm_flag-requires
arm_flag-requires g c = let is = c.in-ArmFlag.is in let needs = rw is at c.requires.needs in
    (omega arith, rw needs at (rw is at c.requires.can))

pub pay_wake-requires : goal.pay_wake-requires
pay_wake-requires g c = let is = c.in-PayWake.is in let needs = rw is at c.requires.needs in
    (omega arith, ((needs.1, needs.2), rw needs.0 at (rw is at c.requires.can)))

pub offset_bounds-row-from : goal.offset_bounds-row-from
offset_bounds-row-from g c = let needs = rw c.in-JudgeQuiet.is at c.requires.needs in let below = needs.0 in let is = c.from.ensures in let few = g.met.C.Condition.has_cells.1 in omega (arith, is, below, few)

pub bounds-row-from : goal.bounds-row-from
bounds-row-from g c = let needs = rw c.in-JudgeQuiet.is at c.requires.needs in let below = needs.0 in let is = c.from.ensures in omega (arith, is, below)

pub quiet-requires : goal.quiet-requires
quiet-requires g c = omega (arith, g.met.C.Condition.has_cells)

pub offset_bounds-row-from-in-JudgeMet : goal.offset_bounds-row-from-in-JudgeMet
offset_bounds-row-from-in-JudgeMet g c = let needs = rw c.in-JudgeMet.is at c.requires.needs in let below = needs.0 in let is = c.from-in-JudgeMet.ensures in let few = g.met.C.Condition.has_cells.1 in omega (arith, is, below, few)

pub bounds-row-from-in-JudgeMet : goal.bounds-row-from-in-JudgeMet
bounds-row-from-in-JudgeMet g c = let needs = rw c.in-JudgeMet.is at c.requires.needs in let below = needs.0 in let is = c.from-in-JudgeMet.ensures in omega (arith, is, below)

pub test-requires : goal.test-requires
test-requires g c = omega (arith, g.met.C.Condition.has_cells)

pub perform_exchange-requires : goal.perform_exchange-requires
perform_exchange-requires g c =
    let on = on_word c.args.act c.in_default.not-LoadWord c.in_default.not-LoadCell c.in_default.not-JudgeQuiet c.in_default.not-JudgeMet c.in_default.not-StoreCell c.in_default.not-ArmFlag c.in_default.not-PayWake c.in_default.not-LoadFlag c.in_default.not-Look in
    let none = begins_none g.C.Condition.means c.args.begins c.args.act c.args.beside.now c.args.self.now.me on c.requires.needs in
    (omega arith, (beside_fits g.row.C g.row.N g.met.C.Condition.has_room, (on, (rw none at c.requires.can, rw none at c.requires.needs))))

pub parts-requires : goal.parts-requires
parts-requires g c = c.load.ensures.word

pub returns-in-LoadWord : goal.returns-in-LoadWord
returns-in-LoadWord g c = rw c.in-LoadWord.is (rw c.parts.ensures c.load.ensures.did)

pub returns-in-LoadCell : goal.returns-in-LoadCell
returns-in-LoadCell g c = rw c.in-LoadCell.is c.load_cell.ensures

pub returns-in-JudgeQuiet : goal.returns-in-JudgeQuiet
returns-in-JudgeQuiet g c = let needs = rw c.in-JudgeQuiet.is at c.requires.needs in let means = g.C.Condition.means in let held = (the c.args.self.now.me.0).at.held in
    let same : c.quiet.result ≡ means.quiet (before_in held) (row_in held) =
    rw needs.1 at (by_cell (means.quiet c.args.beside.now.before) c.args.beside.now.row (row_in held) c.in-JudgeQuiet.i c.from.result c.judge_quiet.result c.quiet.result c.quiet.ensures c.from.ensures c.judge_quiet.ensures.cell needs.2) in
    rw c.in-JudgeQuiet.is (rw same c.judge_quiet.ensures.did)

pub returns-in-JudgeMet : goal.returns-in-JudgeMet
returns-in-JudgeMet g c = let needs = rw c.in-JudgeMet.is at c.requires.needs in let means = g.C.Condition.means in let held = (the c.args.self.now.me.0).at.held in
    let same : c.test.result ≡ means.holds c.in-JudgeMet.condition (row_in held) =
    by_cell (means.holds c.in-JudgeMet.condition) c.args.beside.now.row (row_in held) c.in-JudgeMet.i c.from-in-JudgeMet.result c.judge_met.result c.test.result c.test.ensures c.from-in-JudgeMet.ensures c.judge_met.ensures.cell needs.1 in
    rw c.in-JudgeMet.is (rw same c.judge_met.ensures.did)

pub returns-in-LoadFlag : goal.returns-in-LoadFlag
returns-in-LoadFlag g c = let needs = rw c.in-LoadFlag.is at c.requires.needs in rw c.in-LoadFlag.is (rw needs c.load_flag.ensures)

pub returns-in-Look : goal.returns-in-Look
returns-in-Look g c = let needs = rw c.in-Look.is at c.requires.needs in rw c.in-Look.is (rw needs.0 c.look.ensures)

pub returns-in-StoreCell : goal.returns-in-StoreCell
returns-in-StoreCell g c = let needs = rw c.in-StoreCell.is at c.requires.needs in rw c.in-StoreCell.is (rw needs.0 c.store_cell.ensures)

pub returns-in-ArmFlag : goal.returns-in-ArmFlag
returns-in-ArmFlag g c = let needs = rw c.in-ArmFlag.is at c.requires.needs in rw c.in-ArmFlag.is (rw needs c.arm_flag.ensures)

pub returns-in-PayWake : goal.returns-in-PayWake
returns-in-PayWake g c = let needs = rw c.in-PayWake.is at c.requires.needs in rw c.in-PayWake.is (rw needs.0 (rw needs.3 c.pay_wake.ensures))

pub returns-in_default : goal.returns-in_default
returns-in_default g c =
    let on = on_word c.args.act c.in_default.not-LoadWord c.in_default.not-LoadCell c.in_default.not-JudgeQuiet c.in_default.not-JudgeMet c.in_default.not-StoreCell c.in_default.not-ArmFlag c.in_default.not-PayWake c.in_default.not-LoadFlag c.in_default.not-Look in
    let none = begins_none g.C.Condition.means c.args.begins c.args.act c.args.beside.now c.args.self.now.me on c.requires.needs in
    rw none c.perform_exchange.ensures
