use Rattle.std.proofs.Common.{◌∙◌, sym}
use Rattle.c_scope.proofs.Found.{found_over, found_under}
use Rattle.c_scope.proofs.levels.find_over.Goals as goal

pub returns-in-Some : goal.returns-in-Some
returns-in-Some c =
    sym (found_over c.args.name.now c.args.level.now.over_file c.args.level.now.names c.args.file.now c.in-Some.is_type
    (sym c.find.ensures ∙ c.in-Some.is))

pub returns-in-None : goal.returns-in-None
returns-in-None c =
    c.find-in-None.ensures ∙ sym (found_under c.args.name.now c.args.level.now.over_file c.args.level.now.names c.args.file.now
    (sym c.is_over_file.ensures ∙ c.if-is_over_file.true) (sym c.find.ensures ∙ c.in-None.is))
