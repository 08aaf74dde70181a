use mir.Val.{SFits}
use mir.Syntax.{w128}
use Rattle.std.proofs.Common.{[], ◌∷◌, rules, subst}
use Rattle.std.specs.Prelude.{IfSome}
use Rattle.std.proofs.lemmas.Int.{to_z-of_z}
use Rattle.term_bank.specs.declared.sort.Sort.TheVariants.{Truth}
use Rattle.term_bank.proofs.TermLemmas.{node_of}
use Rattle.bitvectors.specs.Blasts.{IsMore}
use Rattle.bitvectors.proofs.FormulaLemmas.{ready-grown}
use Rattle.query_core.proofs.KeepLemmas.{made-none, made-some}
use Rattle.query_core.proofs.others.made_other.Goals as goal

pub go_on_reads-requires-clause-roots : goal.go_on_reads-requires-clause-roots
go_on_reads-requires-clause-roots c = (node_of _ Truth c.in_ok-node.node c.in_ok-node.ensures.term, tt)

pub go_on_reads-requires-clause-ready : goal.go_on_reads-requires-clause-ready
go_on_reads-requires-clause-ready c = ready-grown c.args.bank _ c.args.blasted.now c.in_ok-node.ensures.grows c.requires.ready

pub returns-in-None : goal.returns-in-None
returns-in-None c =
    made-none c.args.bank _ _ c.args.formula.now c.args.blasted.now c.args.watch c.args.value.now c.in_ok-node.ensures.grows
    c.go_on_reads.ensures.grows c.go_on_reads.ensures.bank

pub returns-else-value-gt170141183460469231731687303715884105727 : goal.returns-else-value-gt170141183460469231731687303715884105727
returns-else-value-gt170141183460469231731687303715884105727 c =
    let fits : SFits w128 c.args.value.now = search rules in
    let same = to_z-of_z w128 c.args.value.now fits in
    let more = subst (λ o. IfSome o (IsMore c.go_on_reads.new.bank (c.in_ok-node.node ∷ []) c.args.blasted.now)) c.in-Some.is c.in_ok-go_on_reads.ensures.more in
    let numbered = rw c.as_slice.ensures at c.watch_numbered-seen.ensures in
    rw same
    (made-some c.args.bank _ _ c.args.formula.now c.args.blasted.now c.args.watch c.args.value.now c.watch_numbered-seen.result c.in_ok-node.node
    c.in-Some.more c.requires.from numbered c.in_ok-node.ensures c.go_on_reads.ensures.grows c.go_on_reads.ensures.bank more)
