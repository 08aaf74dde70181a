use Rattle.std.proofs.Common.{refl, sym}
use Rattle.std.proofs.lemmas.Result.{err_from_is_err_and}
use Rattle.sherlog.proofs.Outputs.{formed_of, not_formed, program_of}
use Rattle.sherlog.proofs.serving.form_report.Goals as goal

pub returns-in_err-program : goal.returns-in_err-program
returns-in_err-program g c =
    let p = err_from_is_err_and c.from_residual-in_err-program.result c.from_residual-in_err-program.ensures.1 in
    rw p.1 (not_formed _ _ _ c.in_ok-config.field-0 _ _ c.in_ok-config.ensures
    (rw c.as_slice.ensures at c.in_err-program.ensures.refused) p.2)

pub report_along-output-requires-clause-traced : goal.report_along-output-requires-clause-traced
report_along-output-requires-clause-traced g c = record {
  of = c.in_ok-config.field-0;
  program = program_of _ _ _ c.in_ok-config.field-0 c.in_ok-program.program _ c.in_ok-config.ensures
      c.in_ok-program.ensures.externals c.in_ok-program.ensures.profile c.bounds_of-bounds.ensures;
  is_places = sym c.get.ensures;
  is_prefix = refl;
  is_drops = refl;
}

pub returns : goal.returns
returns g c = formed_of _ _ _ _ c.in_ok-config.field-0 _ c.in_ok-config.ensures c.report_along-output.ensures
