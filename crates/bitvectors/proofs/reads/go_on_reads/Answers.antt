use Rattle.std.proofs.Common.{subst, sym}
use Rattle.std.specs.Prelude.{IfSome}
use Rattle.term_bank.specs.Shapes.{Each, IsNode}
use Rattle.bitvectors.specs.Blasts.{IsMore}
use Rattle.bitvectors.specs.Reads.{ArePlainFor}
use Rattle.bitvectors.proofs.FormulaLemmas.{ready-grown}
use Rattle.bitvectors.proofs.ReadLemmas.{flat-nodes, more-back, nodes-grown}
use Rattle.bitvectors.proofs.reads.go_on_reads.Goals as goal

pub go_on-requires-clause-roots : goal.go_on-requires-clause-roots
go_on-requires-clause-roots c =
    let bank = c.plain_roots.new.bank in
    let are = subst (λ o. IfSome o (ArePlainFor bank c.args.roots.now)) c.in-Some.is c.in_ok-plain_roots.ensures.flat in
    subst (Each (IsNode bank)) (sym c.as_slice.ensures) (flat-nodes bank c.args.roots.now c.in-Some.flat are.images)

pub go_on-requires-clause-ready : goal.go_on-requires-clause-ready
go_on-requires-clause-ready c =
    ready-grown c.args.bank.now c.plain_roots.new.bank c.args.blasted.now c.in_ok-plain_roots.ensures.grows c.requires.ready

pub returns-in_ok-more-in-Some-clause-more : goal.returns-in_ok-more-in-Some-clause-more
returns-in_ok-more-in-Some-clause-more c =
    let bank = c.plain_roots.new.bank in
    let are = subst (λ o. IfSome o (ArePlainFor bank c.args.roots.now)) c.in-Some.is c.in_ok-plain_roots.ensures.flat in
    more-back bank c.args.roots.now c.in-Some.flat c.args.blasted.now c.in_ok-more-in-Some.more
    (nodes-grown c.args.bank.now bank c.args.roots.now c.in_ok-plain_roots.ensures.grows c.requires.roots) are.images
    (subst (λ f. IsMore bank f c.args.blasted.now c.in_ok-more-in-Some.more) c.as_slice.ensures c.in_ok-more-in-Some.ensures)
