use Rattle.std.proofs.Common.{ap, ◌∙◌, map, arith}
use Rattle.proof_check.specs.Steps.{clause_of}
use Rattle.cdcl.proofs.KeptSteps.{numbered-over}
use Rattle.cdcl.proofs.Lessons.{renumbered}
use Rattle.cdcl.proofs.Numbering.{shifted-clauses}
use Rattle.cdcl.proofs.clauses.Clauses.renumber.Goals as goal

pub returns-clause-learnt : goal.returns-clause-learnt
returns-clause-learnt c = numbered-over c.args.self.now.given c.args.before _ c.args.self.now.learnt c.in_ok-self.field-0 (omega (arith, c.len.ensures)) (λ none. absurd (omega arith)) c.requires.before (omega (arith, c.requires.few)) c.in_ok-self.ensures

pub returns-clause-valid : goal.returns-clause-valid
returns-clause-valid c = renumbered c.args.self.now.given c.args.before _ c.args.self.now.learnt c.in_ok-self.field-0 c.requires.before (omega (arith, c.len.ensures)) c.requires.few c.in_ok-self.ensures

pub returns-clause-clauses : goal.returns-clause-clauses
returns-clause-clauses c = ap (map clause_of) c.in_ok-self.ensures ∙ shifted-clauses c.args.before _ c.args.self.now.learnt
