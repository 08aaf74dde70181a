use Rattle.program_facts.proofs.LineLaws.{prints_found}
use Rattle.program_facts.proofs.prints.put_prints.Goals as goal

pub returns : goal.returns
returns c =
    let a = c.args in
    prints_found a.log.now a.site.now c.bytes.result.now a.table.now c.as_slice.result.now c.as_slice-3.result.now c.in_ok-starts.starts c.in_ok-lines.lines
    c.as_slice-2.result.now a.out.now c.put_line_prints.new.out
    c.bytes.ensures.value c.requires c.as_slice.ensures.value c.as_slice-3.ensures.value c.as_slice-2.ensures c.as_slice-3.ensures.ordered
    c.in_ok-starts.ensures c.in_ok-lines.ensures c.in_ok-put_line_prints.ensures
