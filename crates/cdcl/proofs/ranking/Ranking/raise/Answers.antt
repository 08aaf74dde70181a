use Rattle.std.proofs.Common.{◌≡◌, ◌∙◌, ap, true, Some}
use Rattle.std.specs.List.{slice_get}
use Rattle.std.proofs.lemmas.Option.{slice_get_read}
use Rattle.cdcl.proofs.RankLemmas.{closed-opened}
use Rattle.cdcl.proofs.ranking.Ranking.raise.Goals as goal

pub returns-clause-unset : goal.returns-clause-unset
returns-clause-unset c =
    let unset = c.args.self.now.unset in
    let held : slice_get unset.items c.args.variable ≡ Some true = slice_get_read unset.items unset.len c.args.variable c.index-2.result.now unset.ok.0 c.requires.within c.index-2.ensures ∙ ap (λ t. Some t) c.if-not-index.false in
    rw (c.set-2.ensures.unset, c.weigh_closed-2.ensures.unset, c.set.ensures.unset) (closed-opened unset.items c.args.variable held)
