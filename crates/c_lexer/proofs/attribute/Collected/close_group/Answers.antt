use Rattle.std.proofs.Common.{◌++◌, ◌∷◌, [], ap, ◌∙◌}
use Rattle.c_lexer.specs.Attributes.{keep}
use Rattle.c_lexer.proofs.Attributes.{close_kept, close_nested}
use Rattle.c_lexer.proofs.attribute.Collected.close_group.Goals as goal

pub returns-in_ok-push-in-Some-None-clause-ok : goal.returns-in_ok-push-in-Some-None-clause-ok
returns-in_ok-push-in-Some-None-clause-ok c =
    let closed = c.in-Some-None.ensures.items ∙ ap (λ w. c.pop.new.self.items ++ w ∷ []) c.in-Some-None.field-0-is in
    λ rest. close_kept c.args.self.now c.args.token c.requires.nested c.push.new.self.items
    c.in_ok-push-in-Some-None.ensures.items c.pop.new.self.items closed _ c.requires.role (keep rest)

pub returns-in_ok-push-in-Some-None-clause-nested :
    goal.returns-in_ok-push-in-Some-None-clause-nested
returns-in_ok-push-in-Some-None-clause-nested c =
    let closed = c.in-Some-None.ensures.items ∙ ap (λ w. c.pop.new.self.items ++ w ∷ []) c.in-Some-None.field-0-is in
    close_nested c.args.self.now c.args.token c.requires.nested c.push.new.self.items
    c.in_ok-push-in-Some-None.ensures.items c.pop.new.self.items closed
