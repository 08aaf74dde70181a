use Rattle.path_numbers.proofs.Operated.{no_fault, a_fault, of_not_true, of_not_false}
use Rattle.path_numbers.proofs.operators.signed_fault.Goals as goal

pub returns-then-not-word : goal.returns-then-not-word
returns-then-not-word c =
    no_fault c.args.bank.now c.args.word c.args.kind c.args.test c.args.words.left c.args.words.right c.keeps_bank.ensures
    (of_not_true c.args.word.is_signed c.if-not-word.true)

pub returns : goal.returns
returns c =
    a_fault c.args.bank.now c.test.new.self c.args.word c.args.kind c.args.test c.args.words.left c.args.words.right c.in_ok-truth.truth
    (of_not_false c.args.word.is_signed c.if-not-word.false) c.in_ok-truth.ensures
