use Rattle.std.proofs.Common.{◌+◌, length, subst, sym, arith}
use Rattle.format_match.specs.Beginning.{Leads}
use Rattle.format_match.proofs.Markings.{AreBelow, below_none, below_more, below_all}
use Rattle.format_match.proofs.Onwards.{leads_within}
use Rattle.format_match.proofs.marking.leading_on.Goals as goal

pub positions-init : goal.positions-init
positions-init c =
    let a = c.args in
    subst (λ l. AreBelow (λ y. Leads a.piece.now a.log.now a.marks.now 1 y) 0 l) (sym c.new-on.ensures.items) (below_none (λ y. Leads a.piece.now a.log.now a.marks.now 1 y))

pub positions-preserved : goal.positions-preserved
positions-preserved c =
    let a = c.args in
    let n = c.positions.from in
    subst (λ l. AreBelow (λ y. Leads a.piece.now a.log.now a.marks.now 1 y) (n + 1) l) (sym c.in_ok-push.ensures.items)
    (below_more (λ y. Leads a.piece.now a.log.now a.marks.now 1 y) n c.positions.on.items c.in_ok-leads.leads c.in_ok-leads.ensures c.positions.invariant)

pub returns : goal.returns
returns c =
    let a = c.args in
    below_all (λ y. Leads a.piece.now a.log.now a.marks.now 1 y) (length a.log.now + 1) c.positions.from c.positions.on.items c.positions-test.false c.positions.invariant
    (λ y l. omega (arith, leads_within a.piece.now a.log.now a.marks.now 1 y l))
