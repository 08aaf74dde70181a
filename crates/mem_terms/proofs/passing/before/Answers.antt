use Rattle.std.proofs.Common.{◌∙◌, Some, ap, sym, subst}
use Rattle.term_bank.specs.Memories.{octets}
use Rattle.mem_terms.specs.Reads.{AreApart}
use Rattle.mem_terms.proofs.SeenLemmas.{before_write, before_made, before_ended, written_at}
use Rattle.mem_terms.proofs.passing.before.Goals as goal

pub are_apart-requires-clause-from : goal.are_apart-requires-clause-from
are_apart-requires-clause-from c =
    let w = c.in-Some-Write in
    written_at c.args.bank.now c.args.memory w.written w.old w.to w.field-0-3 w.ensures.bank (sym w.ensures.shape ∙ ap (λ t. Some t) w.field-0-is)

pub returns-in-Some-Write : goal.returns-in-Some-Write
returns-in-Some-Write c =
    let w = c.in-Some-Write in
    let apart = subst (λ k. AreApart c.args.bank.now w.to k c.args.address.index (octets c.args.width)) c.octets.ensures (c.are_apart.ensures c.if-are_apart.true) in
    before_write c.args.bank.now (octets c.args.width) c.args.address c.args.memory w.written w.old w.to w.field-0-3 w.ensures.bank (sym w.ensures.shape ∙ ap (λ t. Some t) w.field-0-is) apart

pub returns-in-Some-Made : goal.returns-in-Some-Made
returns-in-Some-Made c =
    let w = c.in-Some-Made in
    before_made c.args.bank.now (octets c.args.width) c.args.address c.args.memory w.field-0-0 w.old w.field-0-2 w.field-0-3 w.ensures.bank (sym w.ensures.shape ∙ ap (λ t. Some t) w.field-0-is)

pub returns-in-Some-Ended : goal.returns-in-Some-Ended
returns-in-Some-Ended c =
    let w = c.in-Some-Ended in
    before_ended c.args.bank.now (octets c.args.width) c.args.address c.args.memory w.old w.field-0-1 w.ensures.bank (sym w.ensures.shape ∙ ap (λ t. Some t) w.field-0-is)
