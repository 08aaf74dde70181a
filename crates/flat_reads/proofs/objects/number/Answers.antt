use Rattle.flat_reads.proofs.ToldLemmas.{number_live, number_of_kind, number_of_size}
use Rattle.flat_reads.proofs.objects.number.Goals as goal

pub returns-in-Live : goal.returns-in-Live
returns-in-Live c = number_live c.args.bank.now c.object_number.new.bank c.args.question c.in-Live.address _ c.object_number.result c.in-Live.is c.object_number.ensures

pub returns-in-Kind : goal.returns-in-Kind
returns-in-Kind c = number_of_kind c.args.bank.now c.args.question _ c.in-Kind.object c.in-Kind.is c.requires.bank c.requires.operands

pub returns-in-Size : goal.returns-in-Size
returns-in-Size c = number_of_size c.args.bank.now c.args.question c.in-Size.object c.in-Size.is c.requires.bank c.requires.operands
