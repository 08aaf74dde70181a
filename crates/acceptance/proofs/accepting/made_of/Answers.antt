use Rattle.acceptance.proofs.Keeping.{has_a_core, has_functions, no_core}
use Rattle.acceptance.proofs.accepting.made_of.Goals as goal

pub returns-in-Some-clause-core : goal.returns-in-Some-clause-core
returns-in-Some-clause-core c =
    has_a_core c.args.source.now.externals.now c.args.source.now.profile.now c.in_ok-core.field-0 c.in-Some.core c.in-Some.is
    c.in_ok-core.ensures

pub returns-in-Some-clause-functions : goal.returns-in-Some-clause-functions
returns-in-Some-clause-functions c =
    has_functions c.args.source.now.externals.now c.args.source.now.profile.now c.in_ok-core.field-0 c.in-Some.core
    c.in-Some.is c.in_ok-core.ensures

pub returns-in-None-clause-refused : goal.returns-in-None-clause-refused
returns-in-None-clause-refused c =
    no_core c.args.source.now.externals.now c.args.source.now.profile.now c.in_ok-core.field-0 c.in-None.is
    c.in_ok-core.ensures
