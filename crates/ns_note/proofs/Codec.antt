-- The word of a note: what it tells, and what a mark leaves of it.
use Rattle.std.proofs.Common.{Bool, IfSome, None, Option, Some, ap, arith, bit_and, bit_or, eqb, false, if◌then◌else◌, le-ltb, ne_eqb, refl, suc, true, ℕ, ◌%◌, ◌*◌, ◌+◌, ◌-◌, ◌/◌, ◌<◌, ◌^◌, ◌∙◌, ◌≡◌, ◌≤◌}
use Rattle.ns_note.proofs.Prelude.{NoteWord, WordFits, and_mask, deadline_at, deadline_code, flag, note_of, or_add_and, parent_at, parent_code, word_of}

flag_most : (b : Bool) → flag b ≤ 1
flag_most true = omega arith
flag_most false = omega arith

flag_is : (b : Bool) → eqb (flag b) 1 ≡ b
flag_is true = refl
flag_is false = refl

parent_most : (o : Option ℕ) → IfSome o (λ p. p < 64) → parent_code o ≤ 64
parent_most None h = omega arith
parent_most (Some p) h = omega arith

parent_is : (o : Option ℕ) → parent_at (parent_code o) ≡ o
parent_is None = refl
parent_is (Some p) = let e : p + 1 ≡ suc p = omega arith in let m : (p + 1) - 1 ≡ p = omega arith in ap (λ (b : Bool). if b then None else Some ((p + 1) - 1)) (ne_eqb (p + 1) 0 (λ z. omega arith)) ∙ ap Some m

deadline_is : (o : Option ℕ) → deadline_at (deadline_code o) ≡ o
deadline_is None = refl
deadline_is (Some d) = let m : (2 ^ 54 + d) - 2 ^ 54 ≡ d = omega arith in ap (λ (b : Bool). if b then None else Some ((2 ^ 54 + d) - 2 ^ 54)) (le-ltb (2 ^ 54 + d) (2 ^ 54) (omega arith)) ∙ ap Some m

parts : (n m k d : ℕ) → n ≤ 1 → m ≤ 1 → k ≤ 64 → let w = n + 2 * m + 4 * k + 512 * d in (w % 2 ≡ n) × ((w / 2) % 2 ≡ m) × ((w / 4) % 128 ≡ k) × (w / 512 ≡ d)
parts n m k d a b c = (omega arith, omega arith, omega arith, omega arith)

-- a word tells of the note that it was made for
pub note_of-word_of : (note : NoteWord) → WordFits note → note_of (word_of note) ≡ note
note_of-word_of note fits =
    let p = parts (flag note.notified) (flag note.made) (parent_code note.parent) (deadline_code note.deadline) (flag_most note.notified) (flag_most note.made) (parent_most note.parent fits.0) in λ i.
    record { notified = (ap (λ (k : ℕ). eqb k 1) p.0 ∙ flag_is note.notified) i; made = (ap (λ (k : ℕ). eqb k 1) p.1 ∙ flag_is note.made) i; parent = (ap parent_at p.2 ∙ parent_is note.parent) i; deadline = (ap deadline_at p.3 ∙ deadline_is note.deadline) i }

-- setting the first bit
or_one : (n rest : ℕ) → n ≤ 1 → bit_or (n + 2 * rest) 1 ≡ 1 + 2 * rest
or_one n rest h = let sum = or_add_and (n + 2 * rest) 1 in let mask : bit_and (n + 2 * rest) 1 ≡ (n + 2 * rest) % 2 = and_mask (n + 2 * rest) 1 in let m : (n + 2 * rest) % 2 ≡ n = omega arith in omega arith

pub marked : (note : NoteWord) → bit_or (word_of note) 1 ≡ word_of (record { notified = true; made = note.made; parent = note.parent; deadline = note.deadline })
marked note = let rest = flag note.made + 2 * parent_code note.parent + 256 * deadline_code note.deadline in
    let is : word_of note ≡ flag note.notified + 2 * rest = omega arith in ap (λ (k : ℕ). bit_or k 1) is
    ∙ (or_one (flag note.notified) rest (flag_most note.notified)
    ∙ (let same : 1 + 2 * rest ≡ 1 + 2 * flag note.made + 4 * parent_code note.parent + 512 * deadline_code note.deadline = omega arith in same))
