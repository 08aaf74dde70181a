use Rattle.std.proofs.Common.{refl, arith}
use Rattle.term_bank.specs.Memories.{octets}
use Rattle.mem_terms.proofs.SeenLemmas.{alike_on, under_itself, under_on}
use Rattle.mem_terms.proofs.passing.seen.Goals as goal

pub changes-init : goal.changes-init
changes-init c = record { stands = record { sorted = c.requires.memory.stands }; alike = record { alike = λ e v m. refl }; most = omega arith; under = under_itself c.args.bank.now c.args.memory.index }

pub before-requires-clause-memory : goal.before-requires-clause-memory
before-requires-clause-memory c = c.changes.invariant.stands

pub changes-preserved : goal.changes-preserved
changes-preserved c =
    let b = c.in-Some.ensures in
    record { stands = b.stands; alike = alike_on c.args.bank.now (octets c.args.width) c.args.address c.args.memory.index c.changes.index c.in-Some.old c.changes.invariant.alike b.alike; most = omega (arith, c.changes.invariant.most, b.smaller); under = under_on c.args.bank.now c.args.memory.index c.changes.index c.in-Some.old c.changes.invariant.under b.under }

pub returns-clause-node : goal.returns-clause-node
returns-clause-node c = record { stands = c.changes.invariant.stands.sorted; same = refl }

pub returns-clause-alike : goal.returns-clause-alike
returns-clause-alike c = c.changes.invariant.alike
