use Rattle.std.proofs.Common.{arith}
use Rattle.cdcl.proofs.RankLemmas.{tree-of, weighed}
use Rattle.cdcl.proofs.ranking.Ranking.weigh_closed.Goals as goal

pub returns-clause-ranked : goal.returns-clause-ranked
returns-clause-ranked c =
    let r = c.args.self.now in
    let t = c.requires.ranked in
    record {
      sizes = record { activities = t.sizes.activities; firsts = t.sizes.firsts; small = t.sizes.small };
      none = t.none;
      right = λ i one less _. weighed r.unset.items r.activities.items r.firsts.items c.args.variable c.args.activity (tree-of r t) c.requires.from_one c.requires.closed i one (omega (arith, r.firsts.ok.0));
    }
