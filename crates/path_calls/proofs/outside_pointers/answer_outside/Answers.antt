use Rattle.path_calls.proofs.ReplyLemmas.{replies_nothing, replies_number}
use Rattle.path_calls.proofs.outside_pointers.answer_outside.Goals as goal

pub returns-in_ok-number-in-Nothing : goal.returns-in_ok-number-in-Nothing
returns-in_ok-number-in-Nothing c =
    rw c.in-Nothing.is
    (replies_nothing c.args.bank.now c.constant.new.bank c.args.bounds.now.outside c.args.place c.args.memory c.in_ok-number-in-Nothing.number
    c.requires c.in_ok-number-in-Nothing.ensures)

pub returns-in_ok-number-in-Number : goal.returns-in_ok-number-in-Number
returns-in_ok-number-in-Number c =
    rw c.in-Number.is
    (replies_number c.args.bank.now c.outside_word.new.bank c.args.bounds.now.outside c.args.place c.args.memory c.in_ok-number-in-Number.number
    c.requires c.in_ok-number-in-Number.ensures)

pub returns-in_ok-reply-in-Pointer : goal.returns-in_ok-reply-in-Pointer
returns-in_ok-reply-in-Pointer c = rw c.in-Pointer.is c.in_ok-reply-in-Pointer.ensures
