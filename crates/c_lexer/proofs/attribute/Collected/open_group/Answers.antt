use Rattle.std.proofs.Common.{◌++◌, ◌∷◌, [], ap, ◌∙◌}
use Rattle.c_lexer.specs.Attributes.{keep}
use Rattle.c_lexer.proofs.Attributes.{open_kept, open_nested}
use Rattle.c_lexer.proofs.attribute.Collected.open_group.Goals as goal

pub returns-clause-ok : goal.returns-clause-ok
returns-clause-ok c =
    let old = c.args.self.now in
    let opened = c.in_ok-push.ensures.items ∙ ap (λ w. old.open_groups.items ++ w ∷ []) c.group_word-word.ensures in
    λ rest. open_kept old c.args.token c.requires.nested c.push-2.new.self.items c.in_ok-push-2.ensures.items
    c.push.new.self.items opened _ c.requires.role (keep rest)

pub returns-clause-nested : goal.returns-clause-nested
returns-clause-nested c =
    let old = c.args.self.now in
    let opened = c.in_ok-push.ensures.items ∙ ap (λ w. old.open_groups.items ++ w ∷ []) c.group_word-word.ensures in
    open_nested old c.args.token c.requires.nested c.push-2.new.self.items c.in_ok-push-2.ensures.items
    c.push.new.self.items opened
