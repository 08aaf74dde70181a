use Rattle.std.proofs.Common.{[], subst}
use Rattle.std.specs.Prelude.{IfOk}
use Rattle.c_means.specs.Units.{source_run}
use Rattle.query_core.specs.Claims.{with_kept}
use Rattle.must_facts.specs.Inquiries.{RunsAlong, IsFound}
use Rattle.must_facts.specs.Verdicts.{IsDiagnosis}
use Rattle.must_facts.proofs.whole.diagnose_source.Goals as goal

pub returns-clause-diagnosed : goal.returns-clause-diagnosed
returns-clause-diagnosed c =
    let p = c.args.program.now in
    let b = c.args.bounds.now in
    let log = c.args.log.now in
    let q = c.in_ok-query.query in
    record {
      facts = c.in_ok-facts.ensures;
      query = q;
      runs = subst (λ fs. RunsAlong p.core b log fs q) c.as_slice.ensures c.in_ok-query.ensures.query;
      run = c.in_ok-found.ensures.found.run;
      is = subst (λ fs. IsDiagnosis (record { run = λ w. source_run p.externals p.profile w b; log = log; query = with_kept q []; conflicts = c.args.conflicts })
          fs c.in_ok-found.found.diagnosis) c.as_slice-3.ensures c.in_ok-found.ensures.found.diagnosis;
    }
