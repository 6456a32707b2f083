use Rattle.ns_gate.proofs.Prelude.{IsPackable, LoadWord, arith, refl, subst, sym}
use Rattle.ns_gate.proofs.Bounds.{come_by}
use Rattle.ns_gate.proofs.Findings.{saw_word, word_packs}
use Rattle.ns_gate.proofs.bound.Bound.load.Goals as goal

pub load_at-requires : goal.load_at-requires
load_at-requires g c = (omega arith, (omega arith, record { act = LoadWord; can = c.requires; loads = tt; there = refl }))

pub returns : goal.returns
returns g c = let loaded = c.load_at.ensures LoadWord c.requires in record {
  word = subst IsPackable (sym c.of.ensures) (word_packs _ _ _ _ _ loaded.by);
  did = come_by _ _ loaded (saw_word _ _ _ _ _ _ c.of.ensures);
}
