use Rattle.path_calls.proofs.ReplyLemmas.{object_bytes, object_text}
use Rattle.path_calls.proofs.outside_pointers.object.Goals as goal

pub returns-in-Bytes : goal.returns-in-Bytes
returns-in-Bytes c =
    let size = rw c.in-Bytes.is at c.in_ok-size.ensures in
    rw c.in-Bytes.is
    (object_bytes c.args.bank.now c.new_object.new.bank c.args.bounds.now.outside c.args.place c.in-Bytes.size c.in_ok-size.size c.args.memory
    c.in_ok-made.made size c.in_ok-made.ensures)

pub returns-in_ok-ended-in-Text : goal.returns-in_ok-ended-in-Text
returns-in_ok-ended-in-Text c =
    let size = rw c.in-Text.is at c.in_ok-size.ensures in
    rw c.in-Text.is
    (object_text c.args.bank.now c.new_object.new.bank c.end_text.new.bank c.args.bounds.now.outside c.args.place c.in_ok-size.size c.args.memory
    c.in_ok-made.made c.in_ok-ended-in-Text.ended size c.in_ok-made.ensures c.in_ok-ended-in-Text.ensures)
