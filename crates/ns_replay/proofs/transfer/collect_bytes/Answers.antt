use Rattle.std.proofs.Common.{List, arith, length, length-append, length-take-le, take, ℕ, ◌++◌, ◌+◌, ◌≡◌, ◌≤◌}
use Rattle.ns_replay.proofs.Prelude.{Consumes-trans, IsEnough, err_from_is_err_and, max_bytes, max_piece}
use Rattle.ns_replay.proofs.transfer.collect_bytes.Goals as goal

-- few bytes, and one read more
is_enough : (few buffer : List ℕ) (n last : ℕ) → length few ≤ max_bytes → n ≤ length buffer → length buffer ≤ max_piece → last ≡ n → IsEnough (few ++ take n buffer) last
is_enough few buffer n last bound fits room same =
    let front : length (take n buffer) ≡ n = length-take-le n buffer fits in
    let all : length (few ++ take n buffer) ≡ length few + length (take n buffer) = length-append few (take n buffer) in
    record { before = omega arith; piece = omega arith }

pub returns-in_err-extend_from_slice-in-Bytes-clause-bytes :
    goal.returns-in_err-extend_from_slice-in-Bytes-clause-bytes
returns-in_err-extend_from_slice-in-Bytes-clause-bytes g c =
    let p = err_from_is_err_and c.from_residual.result c.from_residual.ensures.1 in
    let room : length c.read.new.buffer ≤ max_piece = omega arith in
    (_, Consumes-trans _ _ _ _ _ c.loop.invariant.gave c.in-Bytes.ensures.bytes.1, (is_enough _ _ _ _ c.loop.invariant.few c.in-Bytes.ensures.bytes.0 room c.in-Bytes.ensures.gave, rw (p.1, p.2) tt))

-- each exit in the loop is by the read of its round
pub returns-in-Bytes-eq0-clause-asked : goal.returns-in-Bytes-eq0-clause-asked
returns-in-Bytes-eq0-clause-asked g c = (c.loop.counter + 1, omega arith, omega arith)

pub returns-in_err-extend_from_slice-in-Bytes-clause-asked :
    goal.returns-in_err-extend_from_slice-in-Bytes-clause-asked
returns-in_err-extend_from_slice-in-Bytes-clause-asked g c = (c.loop.counter + 1, omega arith, omega arith)

pub returns-then-len-gt-MAX_BYTES-clause-asked : goal.returns-then-len-gt-MAX_BYTES-clause-asked
returns-then-len-gt-MAX_BYTES-clause-asked g c = (c.loop.counter + 1, omega arith, omega arith)

pub returns-in-Failed-clause-asked : goal.returns-in-Failed-clause-asked
returns-in-Failed-clause-asked g c = (c.loop.counter + 1, omega arith, omega arith)
