use Rattle.ns_model.proofs.Prelude.{arith, cases_lt, inl, inr, le-ltb, lt-ltb, ne_eqb, refl, w8}
use Rattle.ns_model.proofs.Sets.{bit_set}
use Rattle.ns_model.proofs.cvs.Cvs.with.Goals as goal

pub returns : goal.returns
returns c = λ n. elim (cases_lt n 8) [
  | inl low ↦ rw (lt-ltb n 8 low) (bit_set w8 c.args.self.0 c.args.k n c.requires)
  | inr high ↦ rw (le-ltb n 8 high, ne_eqb n c.args.k (λ e. absurd (omega (arith, e, high, c.requires)))) refl
]
