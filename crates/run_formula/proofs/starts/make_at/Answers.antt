use Rattle.std.proofs.Common.{rules}
use Rattle.term_bank.proofs.BankLemmas.{grows_on}
use Rattle.term_bank.proofs.TermLemmas.{term_grown}
use Rattle.run_formula.proofs.Started.{object_made}
use Rattle.run_formula.proofs.starts.make_at.Goals as goal

pub made-requires-clause-object : goal.made-requires-clause-object
made-requires-clause-object c = term_grown _ _ _ c.in_ok-number.number c.in_ok-bytes.ensures.grows c.in_ok-number.ensures.node

pub made-requires-clause-memory : goal.made-requires-clause-memory
made-requires-clause-memory c =
    term_grown _ _ _ c.args.memory (grows_on c.in_ok-number.ensures.grows c.in_ok-bytes.ensures.grows) c.requires

pub returns : goal.returns
returns c =
    object_made _ _ _ _ c.args.memory c.in_ok-number.number c.in_ok-bytes.bytes c.in_ok-node.node c.args.place c.args.size c.args.kind
    (search rules) c.in_ok-number.ensures c.in_ok-bytes.ensures c.in_ok-node.ensures
