use Rattle.std.proofs.Common.{not}
use Rattle.plain_data.specs.declared.run.Finish.TheVariants as finish
use Rattle.plain_data.specs.declared.run.Undefined.TheVariants.{Dereference}
use Rattle.c_store.specs.Access.{can_access}
use Rattle.term_bank.proofs.TermLemmas.{term_grown}
use Rattle.term_bank.specs.Memories.{octets}
use Rattle.path_steps.proofs.AccessLemmas.{guards_none, guards_some}
use Rattle.path_steps.proofs.accesses.access_exit.Goals as goal

pub can_access-requires-clause-memory : goal.can_access-requires-clause-memory
can_access-requires-clause-memory c = term_grown _ _ _ c.args.memory c.in_ok-length.ensures.grows c.requires.memory

pub can_access-requires-clause-address : goal.can_access-requires-clause-address
can_access-requires-clause-address c = term_grown _ _ _ c.args.address c.in_ok-length.ensures.grows c.requires.address

pub returns-then-not-is_tested : goal.returns-then-not-is_tested
returns-then-not-is_tested c =
    guards_none c.args.bank.now (finish.Stopped Dereference c.args.at) c.args.is_tested
    (λ v. not (can_access (v c.args.memory.index).store (v c.args.address.index).word (octets c.args.width))) c.if-not-is_tested.true

pub returns : goal.returns
returns c =
    guards_some c.args.bank.now c.word.new.self c.can_access.new.bank c.not.new.self (finish.Stopped Dereference c.args.at) c.args.is_tested
    (octets c.args.width) c.octets.result c.in_ok-length.length c.in_ok-allowed.allowed c.in_ok-truth.truth
    (λ v n. can_access (v c.args.memory.index).store (v c.args.address.index).word n) c.if-not-is_tested.false c.octets.ensures
    c.in_ok-length.ensures c.in_ok-allowed.ensures c.in_ok-truth.ensures
