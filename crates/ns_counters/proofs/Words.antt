-- The words of counters and once cells: each tells of what it was made for, and what a mark leaves of a counter's.
use Rattle.std.proofs.Common.{Bool, ap, arith, bit_or, eqb, false, if◌then◌else◌, refl, true, ℕ, ◌%◌, ◌*◌, ◌+◌, ◌/◌, ◌^◌, ◌∙◌, ◌≡◌, ◌≤◌}
use Rattle.ns_counters.proofs.Prelude.{CounterState, Stage, Unused, and_le_r, counter_of, counter_word, most, or_block, or_disjoint, stage_of, stage_word}

by_mark : (value : ℕ) (waited : Bool) → value ≤ most → counter_of (counter_word (record { value = value; waited = waited })) ≡ record { value = value; waited = waited }
by_mark value true few = let v : (value + 2 ^ 32) % 2 ^ 32 ≡ value = omega arith in let w : ((value + 2 ^ 32) / 2 ^ 32) % 2 ≡ 1 = omega arith in λ i. record { value = v i; waited = ap (λ (n : ℕ). eqb n 1) w i }
by_mark value false few = let v : (value + 0) % 2 ^ 32 ≡ value = omega arith in let w : ((value + 0) / 2 ^ 32) % 2 ≡ 0 = omega arith in λ i. record { value = v i; waited = ap (λ (n : ℕ). eqb n 1) w i }

-- a counter's word tells of the counter
pub counter_of-counter_word : (counter : CounterState) → counter.value ≤ most → counter_of (counter_word counter) ≡ counter
counter_of-counter_word counter few = by_mark counter.value counter.waited few

-- a cell's word tells how far the cell has come
pub stage_of-stage_word : (at : Stage) → stage_of (stage_word at) ≡ at
stage_of-stage_word Unused = refl
stage_of-stage_word other = refl

or_none : (n : ℕ) → bit_or n 0 ≡ n
or_none n = let low = and_le_r n 0 in or_disjoint n 0 (omega arith) ∙ (let e : n + 0 ≡ n = omega arith in e)

-- the mark of a wait changes the mark alone, whether or not it was there
pub marked : (counter : CounterState) → counter.value ≤ most → bit_or (counter_word counter) (2 ^ 32) ≡ counter_word (record { value = counter.value; waited = true })
marked counter few = by counter.waited where
  block : (high : ℕ) → bit_or (high * 2 ^ 32 + counter.value) (1 * 2 ^ 32 + 0) ≡ bit_or high 1 * 2 ^ 32 + bit_or counter.value 0
  block high = or_block 32 high 1 counter.value 0 (omega arith) (omega arith)

  by : (waited : Bool) → bit_or (counter.value + (if waited then 2 ^ 32 else 0)) (2 ^ 32) ≡ counter.value + 2 ^ 32
  by true = let left : counter.value + 2 ^ 32 ≡ 1 * 2 ^ 32 + counter.value = omega arith in ap (λ n. bit_or n (2 ^ 32)) left ∙ (block 1 ∙ (let r = or_none counter.value in omega (arith, r)))
  by false = let left : counter.value + 0 ≡ 0 * 2 ^ 32 + counter.value = omega arith in ap (λ n. bit_or n (2 ^ 32)) left ∙ (block 0 ∙ (let r = or_none counter.value in omega (arith, r)))
