use Rattle.std.proofs.Common.{◌-◌, arith, Some, None, subst}
use Rattle.c_grammar.specs.Reading.{a_literal}
use Rattle.c_reading.specs.Cursor.{here, Takes}
use Rattle.c_reading.proofs.Lists.{run_goes, run_stops, run_out}
use Rattle.c_reading.proofs.cursor.Source.literals.Goals as goal

pub run-preserved : goal.run-preserved
run-preserved c =
    let s = here c.args.self.now c.run.c in
    let z = here c.args.self.now c.take_literal.new.c in
    let takes : Takes a_literal (Some c.in-Some.piece) s z = subst (λ o. Takes a_literal o s z) c.in-Some.is
    c.in_ok-piece.ensures in
    rw (c.in_ok-push-in-Some.ensures.ok)
    (run_goes a_literal (c.run.left - 1) c.run.left c.run.all c.in-Some.piece s z _ (omega arith) takes
    c.run.invariant)

pub returns-in-None : goal.returns-in-None
returns-in-None c =
    let s = here c.args.self.now c.run.c in
    let z = here c.args.self.now c.take_literal.new.c in
    let takes : Takes a_literal None s z = subst (λ o. Takes a_literal o s z) c.in-None.is c.in_ok-piece.ensures in
    run_stops a_literal (c.run.left - 1) c.run.left c.run.all s z _ (omega arith) takes c.run.invariant

pub returns : goal.returns
returns c = run_out a_literal c.run.left c.run.all (here c.args.self.now c.run.c) _ (omega arith) c.run.invariant
