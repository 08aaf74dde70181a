use Rattle.log_text.proofs.prefix.Prefix.new.Goals as goal

pub returns-in-Err-Syntax-clause-bad : goal.returns-in-Err-Syntax-clause-bad
returns-in-Err-Syntax-clause-bad c = λ _. record {
  kind = c.in-Err-Syntax.field-0-0.kind;
  refused = c.in-Err-Syntax.ensures.refused c.in-Err-Syntax.field-0-0 c.in-Err-Syntax.field-0-is;
  no_memory = rw c.in-Err-Syntax.field-0-is at c.in-Err-Syntax.ensures.kind;
}
