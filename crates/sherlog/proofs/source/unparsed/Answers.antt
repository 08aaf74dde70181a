use Rattle.sherlog.proofs.Standing.{start_within}
use Rattle.sherlog.proofs.source.unparsed.Goals as goal

pub bad_source-requires-clause-within : goal.bad_source-requires-clause-within
bad_source-requires-clause-within c =
    rw (c.start_of-at.ensures, c.as_slice.ensures)
    (start_within c.args.bytes.now c.args.tokens.now.tokens c.in-Syntax.number c.requires.stands)

pub bad_source-requires-in-TooDeep-clause-within : goal.bad_source-requires-in-TooDeep-clause-within
bad_source-requires-in-TooDeep-clause-within c =
    rw (c.start_of-at-in-TooDeep.ensures, c.as_slice-in-TooDeep.ensures)
    (start_within c.args.bytes.now c.args.tokens.now.tokens c.in-TooDeep.number c.requires.stands)
