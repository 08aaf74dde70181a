use Rattle.std.proofs.Common.{arith, refl}
use Rattle.plain_data.specs.declared.fact.Fact.TheVariants as fact
use Rattle.program_facts.proofs.Gathering.{line_more}
use Rattle.program_facts.proofs.entries.put_call_lines.Goals as goal

pub lines-preserved : goal.lines-preserved
lines-preserved c =
    line_more (λ line. fact.CallIn c.args.at line) c.lines.index c.args.out.now c.lines.out c.put_fact.new.out c.lines.invariant c.in_ok-put_fact.ensures
