use Rattle.sherlog.proofs.source.accepted.Goals as goal

pub returns-in-Err-Refused-clause-refused : goal.returns-in-Err-Refused-clause-refused
returns-in-Err-Refused-clause-refused c =
    c.refused_for.ensures.told c.args.externals c.args.profile
    (rw c.in-Err-Refused.field-0-is at c.in-Err-Refused.ensures.refused)
