use Rattle.std.proofs.lemmas.Result.{IfOk-weaker}
use Rattle.c_language.specs.Units.{function_says}
use Rattle.c_item_notes.specs.Levels.{judged}
use Rattle.c_program_notes.specs.Summaries.{defined_outer}
use Rattle.c_program_notes.proofs.EachOuter.{assembled}
use Rattle.c_program_notes.proofs.outers.defined_notes.Goals as goal

pub returns : goal.returns
unfolding defined_outer
returns c =
    let f = function_says c.args.specifiers.now c.args.declarator.now c.args.scope.now in
    IfOk-weaker c.function_notes.result _ _ (λ x made. assembled (judged c.args.source.now) f c.args.specifiers.now
    c.args.declarator.now c.args.body.now c.args.names c.in_ok-of_head.of_head c.args.scope.now c.into_body.new.scope
    c.body_notes.new.scope c.go_out.new.scope c.in_ok-outside.outside c.in_ok-head.head c.in_ok-inside.inside
    c.unread_in.result x c.in_ok-of_head.ensures c.in_ok-outside.ensures c.in_ok-head.ensures.head
    c.in_ok-head.ensures.scope c.in_ok-inside.ensures c.go_out.ensures c.unread_in.ensures made)
    c.function_notes.ensures
