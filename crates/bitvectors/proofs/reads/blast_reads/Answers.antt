use Rattle.std.proofs.Common.{subst, sym}
use Rattle.std.specs.Prelude.{IfSome}
use Rattle.term_bank.specs.Shapes.{Each, IsNode}
use Rattle.bitvectors.specs.Blasts.{IsBlasted}
use Rattle.bitvectors.specs.Reads.{ArePlainFor}
use Rattle.bitvectors.proofs.ReadLemmas.{blasted-back, flat-nodes, nodes-grown}
use Rattle.bitvectors.proofs.reads.blast_reads.Goals as goal

pub blast-requires-clause-roots : goal.blast-requires-clause-roots
blast-requires-clause-roots c =
    let bank = c.plain_roots.new.bank in
    let are = subst (λ o. IfSome o (ArePlainFor bank c.args.roots.now)) c.in-Some.is c.in_ok-plain_roots.ensures.flat in
    subst (Each (IsNode bank)) (sym c.as_slice.ensures) (flat-nodes bank c.args.roots.now c.in-Some.flat are.images)

pub returns-in_ok-blasted-in-Some-clause-blasted : goal.returns-in_ok-blasted-in-Some-clause-blasted
returns-in_ok-blasted-in-Some-clause-blasted c =
    let bank = c.plain_roots.new.bank in
    let are = subst (λ o. IfSome o (ArePlainFor bank c.args.roots.now)) c.in-Some.is c.in_ok-plain_roots.ensures.flat in
    blasted-back bank c.args.roots.now c.in-Some.flat c.in_ok-blasted-in-Some.blasted
    (nodes-grown c.args.bank.now bank c.args.roots.now c.in_ok-plain_roots.ensures.grows c.requires.roots) are.images
    (subst (λ f. IsBlasted bank f c.in_ok-blasted-in-Some.blasted) c.as_slice.ensures c.in_ok-blasted-in-Some.ensures.blasted)
