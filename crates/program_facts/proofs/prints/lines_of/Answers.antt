use Rattle.std.proofs.Common.{ℕ, List, [], get_or, refl, sym, subst}
use Rattle.std.proofs.lemmas.List.{get_or_default}
use Rattle.std.specs.Prelude.{slice_get}
use Rattle.program_facts.specs.Prints.{IsAmongLines}
use Rattle.program_facts.proofs.LineLaws.{line_step, no_lines, all_lines}
use Rattle.program_facts.proofs.prints.lines_of.Goals as goal

pub starts-init : goal.starts-init
starts-init c k = subst (λ (l : List ℕ). IsAmongLines c.args.table.now [] k l) (sym c.new-lines.ensures) (no_lines c.args.table.now k)

pub starts-preserved : goal.starts-preserved
starts-preserved c k =
    let table = c.args.table.now in
    let starts = c.args.starts.now in
    let i = c.starts.start-index in
    let start = get_or starts i 0 in
    line_step table starts i start c.starts-test.true (get_or_default starts i 0 start c.starts-test.true) (slice_get table start) c.starts.lines
    c.put_line.new.lines refl c.in_ok-put_line.ensures c.starts.invariant k

pub returns : goal.returns
returns c k = all_lines c.args.table.now c.args.starts.now c.starts.lines c.starts.start-index c.starts-test.false c.starts.invariant k
