use Rattle.core_exprs.proofs.CallLaws as laws
use Rattle.core_exprs.proofs.calls.uncalled.Goals as goal

pub returns : goal.returns
returns c n f ps same shown none h =
    laws.uncalled_found n c.args.at c.args.name f ps c.args.scope.now c.args.shown c.args.xs c.in_ok-told.told
    c.in_ok-built.built c.plain.result same shown none h c.in_ok-told.ensures c.in_ok-built.ensures c.plain.ensures
