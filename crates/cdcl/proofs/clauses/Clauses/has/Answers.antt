use Rattle.std.proofs.Common.{arith}
use borrow.Author.Tests.{ltb-true}
use Rattle.cdcl.proofs.Naming.{given-named, learnt-named}
use Rattle.cdcl.proofs.clauses.Clauses.has.Goals as goal

pub returns-in-Given-clause-there : goal.returns-in-Given-clause-there
returns-in-Given-clause-there c = λ t. rw c.in-Given.is (given-named c.args.self.now c.in-Given.index (omega (arith, c.len.ensures, ltb-true c.in-Given.index c.len.result t)))

pub returns-in-Learnt-clause-there : goal.returns-in-Learnt-clause-there
returns-in-Learnt-clause-there c = λ t. rw c.in-Learnt.is (learnt-named c.args.self.now c.in-Learnt.index (omega (arith, c.len-in-Learnt.ensures, ltb-true c.in-Learnt.index c.len-in-Learnt.result t)))
