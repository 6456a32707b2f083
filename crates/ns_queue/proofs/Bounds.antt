-- Bounds and tests over plain numbers, so that nothing else is read where they are needed.
use Rattle.std.proofs.Common.{Bool, Fits, IsTrue, arith, false, refl, suc, true, w64, w8, zero, ℕ, ◌*◌, ◌+◌, ◌-◌, ◌<◌, ◌^◌, ◌≡◌, ◌≤◌}
use Rattle.ns_queue.specs.Prelude.{one_if}
use Rattle.std.proofs.Math.Nat.{mul-le-mul_right}
use Rattle.std.specs.Bool.{OnFalse}

-- where the lists of the variables lie, in bytes
pub offset_fits : (k size : ℕ) → k < 4 → size < 2 ^ 60 → Fits w64 (k * size)
offset_fits k size low small = let most : k * size ≤ 4 * size = mul-le-mul_right size (omega arith) in omega (arith, most)

-- what a list takes in memory is below the bound that is asked of it
pub list_small : (size : ℕ) → size < 2 ^ 60 → size < 2 ^ 63
list_small size small = omega arith

-- ---- where a loop stands, over plain numbers, so that nothing else is read

pub at_most : (i n : ℕ) → i < n → i ≤ n
at_most i n low = omega arith

pub still_in : (i n m : ℕ) → i < n → m ≡ n → i < m
still_in i n m low same = omega arith

pub last_in : (left n : ℕ) → 0 < left → left ≤ n → left - 1 < n
last_in left n some within = omega arith

pub one_down : (left : ℕ) → 0 < left → left - 1 < left
one_down left some = omega arith

pub less_within : (left n : ℕ) → left ≤ n → left - 1 ≤ n
less_within left n within = omega arith

pub room_at : (got i n : ℕ) → got ≡ i → i < n → n ≤ 64 → got < 64
room_at got i n same low most = omega arith

-- how many bytes short lists take
pub bytes_72 : 72 < 2 ^ 63
bytes_72 = omega arith

pub bytes_136 : 136 < 2 ^ 63
bytes_136 = omega arith

-- where an entry lies, in bytes
pub entry_at : (seat size : ℕ) → seat < 64 → size < 2 ^ 50 → Fits w64 (seat * size)
entry_at seat size low small = let most : seat * size ≤ 64 * size = mul-le-mul_right size (omega arith) in omega (arith, most)

-- a seat is a place, and numbers like these fit
pub seat_place : (seat : ℕ) → seat < 64 → seat < 65
seat_place seat low = omega arith

pub place_fits : (place : ℕ) → place < 65 → Fits w64 place
place_fits place low = omega arith

pub entry_there : (seat n : ℕ) → seat < 64 → n ≡ 64 → seat < n
entry_there seat n low all = omega arith

-- a count goes up by one, or down, at most
pub one_fits : (n : ℕ) → n < 64 → Fits w8 (n + 1)
one_fits n room = omega arith

pub more_fits : (n most more : ℕ) (is : Bool) → n ≤ most → most < 64 → more ≡ one_if is → Fits w8 (n + more)
more_fits n most more true few room by = omega arith
more_fits n most more false few room by = omega arith

pub one_in : (n less : ℕ) (is same : Bool) → one_if is ≤ n → less ≡ one_if same → same ≡ is → less ≤ n
one_in n less is same few by e = rw (by, e) few

-- what a test told
pub told_yes : (b : Bool) (n : ℕ) → b ≡ true → (IsTrue b → 0 < n) → 0 < n
told_yes b n is tells = tells is

pub told_no : (b : Bool) (n : ℕ) → b ≡ false → (0 < n → IsTrue b) → n ≡ 0
told_no b zero is tells = refl
told_no b (suc n) is tells = let other = tells (omega arith) in cc

pub on_none : (b : Bool) (n : ℕ) → (0 < n → IsTrue b) → OnFalse b (n ≡ 0)
on_none true n tells = tt
on_none false zero tells = refl
on_none false (suc n) tells = let other = tells (omega arith) in cc

-- one who stands in neither part
pub neither : (m n : ℕ) → m ≡ 0 → n ≡ 0 → (IsTrue false → 0 < m + n) × (0 < m + n → IsTrue false)
neither m n none out = (λ no. absurd (cc), λ here. absurd (omega (arith, here, none, out)))
