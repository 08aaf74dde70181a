use Rattle.std.proofs.Common.{◌≡◌, subst, arith}
use Rattle.cdcl.specs.Ranks.{IsUnset, first_at}
use Rattle.cdcl.proofs.RankLemmas.{root-first, root-open, tree-of}
use Rattle.cdcl.proofs.ranking.Ranking.first.Goals as goal

pub returns-then-first-eq0-clause-none : goal.returns-then-first-eq0-clause-none
returns-then-first-eq0-clause-none c = λ _ v o.
    let r = c.args.self.now in
    let f = root-first r.unset.items r.activities.items r.firsts.items v (tree-of r c.requires) o in
    let zero : first_at r.unset.items r.firsts.items 1 ≡ 0 = omega (arith, c.first_at-first.ensures, c.if-first-eq0.true) in
    c.requires.none (subst (IsUnset r.unset.items) zero f.unset_too)

pub returns-clause-first : goal.returns-clause-first
returns-clause-first c =
    let r = c.args.self.now in
    let t = tree-of r c.requires in
    let some = root-open r.unset.items r.activities.items r.firsts.items t (λ z. absurd (omega (arith, z, c.first_at-first.ensures, c.if-first-eq0.false))) in
    rw c.first_at-first.ensures (root-first r.unset.items r.activities.items r.firsts.items (first_at r.unset.items r.firsts.items 1) t some)
