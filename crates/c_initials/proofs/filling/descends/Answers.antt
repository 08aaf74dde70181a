use Rattle.std.proofs.Common.{◌≡◌, suc, ◌-◌, ap, sym, ◌∙◌, arith}
use Rattle.c_language.specs.Typing.{typed_in}
use Rattle.c_language.specs.Initials.{descends, with_part_left}
use Rattle.c_initials.proofs.Descending.{deeper, found}
use Rattle.c_initials.proofs.filling.descends.Goals as goal

pub returns-in-Ok : goal.returns-in-Ok
returns-in-Ok c =
    let e : c.levels.levels ≡ suc (c.levels.levels - 1) = omega arith in
    sym (found c.levels.levels (c.levels.levels - 1) c.args.scope.now.tables (typed_in c.args.told.now c.args.scope.now)
    c.in-Some.frame c.pop.new.self c.in-Ok.found e (sym c.in_ok-found-in-Some.ensures ∙ c.in-Ok.is))
    ∙ ap (λ fs. descends c.levels.levels c.args.scope.now.tables (typed_in c.args.told.now c.args.scope.now) fs)
    (sym c.in-Some.ensures)
    ∙ c.levels.invariant

pub levels-preserved : goal.levels-preserved
levels-preserved c =
    let e : c.levels.levels ≡ suc (c.levels.levels - 1) = omega arith in
    ap (λ fs. descends (c.levels.levels - 1) c.args.scope.now.tables (typed_in c.args.told.now c.args.scope.now) fs)
    (c.with_part_left-frames.ensures ∙ ap (λ tables. with_part_left tables c.in-Err.deeper) c.tables.ensures)
    ∙ sym (deeper c.levels.levels (c.levels.levels - 1) c.args.scope.now.tables
    (typed_in c.args.told.now c.args.scope.now) c.in-Some.frame c.pop.new.self c.in-Err.deeper e
    (sym c.in_ok-found-in-Some.ensures ∙ c.in-Err.is))
    ∙ ap (λ fs. descends c.levels.levels c.args.scope.now.tables (typed_in c.args.told.now c.args.scope.now) fs)
    (sym c.in-Some.ensures)
    ∙ c.levels.invariant
