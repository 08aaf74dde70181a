use Rattle.program_facts.proofs.Gathering.{puts_none, puts_more, puts_all}
use Rattle.program_facts.proofs.marks.put_marks.Goals as goal

pub marks-init : goal.marks-init
marks-init c =
    let x = c.args.listing.now in
    puts_none x.functions.now x.log.now x.last c.args.out.now

pub marks-preserved : goal.marks-preserved
marks-preserved c =
    let x = c.args.listing.now in
    puts_more x.functions.now x.log.now x.last c.args.marks.now c.marks.mark-index c.mark-item.result c.args.out.now c.marks.out c.put_mark.new.out
    c.marks-test.true c.mark-item.is c.marks.invariant c.in_ok-put_mark.ensures

pub returns : goal.returns
returns c =
    let x = c.args.listing.now in
    puts_all x.functions.now x.log.now x.last c.args.marks.now c.marks.mark-index c.args.out.now c.marks.out c.marks-test.false c.marks.invariant
