use Rattle.std.proofs.Common.{rules, ◌∙◌}
use Rattle.bitvectors.proofs.WalkLemmas.{in-width, parts-have, spelled-anew, spelled-known}
use Rattle.bitvectors.proofs.blasting.node_bits.Goals as goal

pub returns-in_ok-word-in-Some : goal.returns-in_ok-word-in-Some
returns-in_ok-word-in-Some c =
    spelled-known c.args.bank.now c.args.gates.now c.args.inputs.now c.args.known.now c.args.number c.in-Some.word.now
    c.in_ok-word-in-Some.word c.requires.inputs c.requires.known (search rules) (c.in_ok-word-in-Some.ensures ∙ c.as_slice.ensures)

pub blast_shape-requires-clause-parts : goal.blast_shape-requires-clause-parts
blast_shape-requires-clause-parts c =
    parts-have c.args.bank.now c.args.gates.now c.args.inputs.now c.args.signals.now c.args.number c.args.shape c.requires.bank
    c.requires.stands c.requires.parts

pub blast_shape-requires-clause-within : goal.blast_shape-requires-clause-within
blast_shape-requires-clause-within c = in-width c.args.bank.now c.args.number c.args.shape c.requires.bank c.requires.stands

pub returns-in_ok-word-in-None : goal.returns-in_ok-word-in-None
returns-in_ok-word-in-None c =
    spelled-anew c.args.bank.now c.args.gates.now _ c.args.inputs.now _ c.args.signals.now c.args.number c.args.shape
    c.in_ok-word-in-None.word c.requires.bank c.requires.stands c.requires.parts c.in_ok-word-in-None.ensures
