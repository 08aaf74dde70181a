use Rattle.std.proofs.Common.{subst, sym}
use Rattle.term_bank.specs.Shapes.{Each, IsNode}
use Rattle.bitvectors.proofs.ReadLemmas.{flat-nodes}
use Rattle.bitvectors.proofs.reads.plain_roots.Goals as goal

pub are_plain-requires : goal.are_plain-requires
are_plain-requires c = subst (Each (IsNode c.flat_roots.new.bank)) (sym c.as_slice.ensures) (flat-nodes c.flat_roots.new.bank c.args.roots.now c.in-Ok.flat c.in-Ok.ensures.nodes)
