use Rattle.std.proofs.Common.{refl}
use Rattle.std.proofs.lemmas.Result.{err_from_is_err_and}
use Rattle.sherlog.proofs.Outputs.{here, kept_of, run_formed, too_large, world_not_read}
use Rattle.sherlog.proofs.serving.run_in_world.Goals as goal

pub returns-in_err-world : goal.returns-in_err-world
returns-in_err-world g c =
    let p = err_from_is_err_and c.from_residual.result c.from_residual.ensures.1 in
    let t = c.requires.runnable in
    rw p.1 (world_not_read _ _ _ _ t.of _ _ c.requires.command (here _ _ t.of t.program.parsed)
    (kept_of _ _ t.of _ _ t.program) c.in_err-world.ensures p.2)

pub returns-then-branch-gt-MAX_SIZE : goal.returns-then-branch-gt-MAX_SIZE
returns-then-branch-gt-MAX_SIZE g c =
    let t = c.requires.runnable in
    too_large _ _ _ _ t.of c.in_ok-world.world _ c.in_ok-unrolled_size.field-0 c.requires.command
    (here _ _ t.of t.program.parsed) (kept_of _ _ t.of _ _ t.program) c.in_ok-world.ensures t.program.in_force
    (rw (t.program.externals, t.program.profile) at c.in_ok-unrolled_size.ensures) c.if-branch-gt-MAX_SIZE.true

pub returns : goal.returns
returns g c =
    let t = c.requires.runnable in
    run_formed _ _ _ _ t.of c.in_ok-world.world _ c.in_ok-unrolled_size.field-0 c.in_ok-run.run' _ _ c.requires.command
    (here _ _ t.of t.program.parsed) (kept_of _ _ t.of _ _ t.program) c.in_ok-world.ensures t.program.in_force
    (rw (t.program.externals, t.program.profile) at c.in_ok-unrolled_size.ensures) c.if-branch-gt-MAX_SIZE.false
    (rw (t.program.externals, t.program.profile) at c.in_ok-run.ensures.runs) t.is_bytes refl c.in_ok-end.ensures refl
