-- Words that are the same part by part.
use Rattle.std.proofs.Common.{Bool, eqb, eqb-true, false, refl, true, ◌&&◌, ◌≡◌}
use Rattle.ns_word.proofs.Prelude.{Word, and_parts, beq}

same_bit : (a b : Bool) → beq a b ≡ true → a ≡ b
same_bit true true e = refl
same_bit false false e = refl
same_bit true false e = absurd (cc)
same_bit false true e = absurd (cc)

pub same_word : (v w : Word) →
    (beq v.write w.write && (beq v.spin w.spin && (beq v.waiting w.waiting && (beq v.desig w.desig && (beq v.cond w.cond && (beq v.writer_waits w.writer_waits && (beq v.all_false w.all_false && (beq v.long w.long && eqb v.readers w.readers)))))))) ≡ true →
    v ≡ w
same_word v w e =
    let a = and_parts _ _ e in
    let b = and_parts _ _ a.1 in
    let c = and_parts _ _ b.1 in
    let d = and_parts _ _ c.1 in
    let f = and_parts _ _ d.1 in
    let g = and_parts _ _ f.1 in
    let h = and_parts _ _ g.1 in
    let k = and_parts _ _ h.1 in
    λ i. record {
      write = same_bit v.write w.write a.0 i;
      spin = same_bit v.spin w.spin b.0 i;
      waiting = same_bit v.waiting w.waiting c.0 i;
      desig = same_bit v.desig w.desig d.0 i;
      cond = same_bit v.cond w.cond f.0 i;
      writer_waits = same_bit v.writer_waits w.writer_waits g.0 i;
      all_false = same_bit v.all_false w.all_false h.0 i;
      long = same_bit v.long w.long k.0 i;
      readers = eqb-true v.readers w.readers k.1 i;
    }
