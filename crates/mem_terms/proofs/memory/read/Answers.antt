use Rattle.std.proofs.Common.{◌∙◌, Some, ap, sym}
use Rattle.term_bank.specs.declared.shape.Shape.TheVariants.{Read}
use Rattle.term_bank.proofs.Equality.{width_true}
use Rattle.term_bank.proofs.TermLemmas.{made}
use Rattle.mem_terms.proofs.SeenLemmas.{forwarded, read_mapped}
use Rattle.mem_terms.proofs.memory.read.Goals as goal

pub returns-in-Some-Write : goal.returns-in-Some-Write
returns-in-Some-Write c =
    let w = c.in-Some-Write in
    let same = rw w.written-is at c.eq.ensures in
    forwarded c.args.bank.now c.args.width w.written w.to c.args.address c.seen-seen.result.index c.args.memory.index w.field-0-1 w.value c.shape.ensures.bank c.seen-seen.ensures.alike
    (sym c.shape.ensures.shape ∙ w.is ∙ ap (λ t. Some t) w.field-0-is) (width_true w.written c.args.width (sym same ∙ c.if-eq.true)) c.if-to-address.true

pub returns-in_default : goal.returns-in_default
returns-in_default c =
    let e = c.add.ensures in
    made c.args.bank.now c.add.new.self (Read c.args.width c.args.memory.index c.args.address.index) c.add.result e.node e.sort
    (read_mapped c.args.bank.now c.add.new.self c.args.width c.args.address c.args.memory.index c.seen-seen.result.index c.add.result e.grows c.seen-seen.ensures.alike e.value) e.grows e.err e.bank
