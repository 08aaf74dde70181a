use Rattle.core_functions.proofs.Making as making
use Rattle.core_functions.proofs.definitions.inside.Goals as goal

pub returns-in-Read : goal.returns-in-Read
returns-in-Read g c =
    making.if_both c.content.result _ _ _
    (λ y. making.read_inside (g.P.Parts.numbering c.args.parts.now) c.args.body.now c.in-Read.block c.get.result.now
    c.args.head.now c.context.result c.args.scope.now y c.content.new.scope c.in-Read.is c.get.ensures
    c.context.ensures)
    c.content.ensures.content c.content.ensures.block

pub returns-in-Unread : goal.returns-in-Unread
returns-in-Unread g c f head =
    making.unread_inside (g.P.Parts.numbering c.args.parts.now) c.args.body.now c.in-Unread.at c.args.scope.now
    c.nothing.result c.in-Unread.is c.nothing.ensures f
