use Rattle.acceptance.proofs.Keeping.{kept_ok}
use Rattle.acceptance.proofs.accepting.core_by.Goals as goal

pub returns-in-None-clause-kept : goal.returns-in-None-clause-kept
returns-in-None-clause-kept c =
    kept_ok c.args.source.now.externals.now c.args.source.now.profile.now c.in_ok-judged_by.field-0 c.made_of.result
    c.in-None.is c.in_ok-judged_by.ensures
