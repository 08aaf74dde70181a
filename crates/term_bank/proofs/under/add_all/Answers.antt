use Rattle.std.proofs.Common.{take}
use Rattle.std.specs.Prelude.{slice_index}
use Rattle.std.proofs.lemmas.List.{take_more}
use Rattle.term_bank.proofs.UnderLemmas.{adds_more}
use Rattle.term_bank.proofs.under.add_all.Goals as goal

pub loop-number-preserved : goal.loop-number-preserved
loop-number-preserved c =
    let i = c.loop-number.number-index in
    let xs = c.args.numbers.now in
    rw (take_more xs i 0 c.loop-number-test.true) (adds_more c.args.set.now c.loop-number.set c.insert.new.self (take i xs) (slice_index xs i) c.loop-number.invariant c.in_ok-insert.ensures.updates)
