use Rattle.std.proofs.Common.{◌≡◌, ◌∙◌, ◌++◌, ◌∷◌, [], length, ap, arith}
use Rattle.program_facts.specs.Prints.{line_table}
use Rattle.program_facts.proofs.LineLaws.{table_more}
use Rattle.program_facts.proofs.prints.line_table.Goals as goal

pub positions-preserved : goal.positions-preserved
positions-preserved c =
    table_more c.args.log.now c.positions.position c.positions.table c.push.new.self c.positions.invariant
    (c.in_ok-push.ensures.ok ∙ ap (λ x. c.positions.table ++ x ∷ []) c.line_of-line.ensures)

pub returns : goal.returns
returns c =
    let same = ap length c.bytes-count.ensures.value in
    let all : c.positions.position ≡ length c.args.log.now = omega arith in
    c.positions.invariant ∙ ap (line_table c.args.log.now) all
