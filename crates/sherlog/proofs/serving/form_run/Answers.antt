use Rattle.std.proofs.Common.{sym}
use Rattle.std.proofs.lemmas.Result.{err_from_is_err_and}
use Rattle.sherlog.proofs.Outputs.{formed_of, not_formed, program_of}
use Rattle.sherlog.proofs.serving.form_run.Goals as goal

pub returns-in_err-program : goal.returns-in_err-program
returns-in_err-program g c =
    let p = err_from_is_err_and c.from_residual-in_err-program.result c.from_residual-in_err-program.ensures.1 in
    rw p.1 (not_formed _ _ _ c.in_ok-config.field-0 _ _ c.in_ok-config.ensures
    (rw c.as_slice.ensures at c.in_err-program.ensures.refused) p.2)

pub run_in_world-output-requires-clause-runnable : goal.run_in_world-output-requires-clause-runnable
run_in_world-output-requires-clause-runnable g c = record {
  of = c.in_ok-config.field-0;
  program = program_of _ _ _ c.in_ok-config.field-0 c.in_ok-program.program _ c.in_ok-config.ensures
      c.in_ok-program.ensures.externals c.in_ok-program.ensures.profile c.bounds_of-bounds.ensures;
  is_bytes = sym c.as_slice-2.ensures;
}

pub returns : goal.returns
returns g c = formed_of _ _ _ _ c.in_ok-config.field-0 _ c.in_ok-config.ensures c.run_in_world-output.ensures
