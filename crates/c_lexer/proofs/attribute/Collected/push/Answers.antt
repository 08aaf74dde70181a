use Rattle.std.proofs.Common.{sym}
use Rattle.c_lexer.specs.Attributes.{keep}
use Rattle.c_lexer.proofs.Attributes.{other_kept, word_kept, still_nested, word_nested}
use Rattle.c_lexer.proofs.attribute.Collected.push.Goals as goal

pub returns-in_ok-push-in-Attribute-clause-ok : goal.returns-in_ok-push-in-Attribute-clause-ok
returns-in_ok-push-in-Attribute-clause-ok c =
    λ rest. word_kept c.args.self.now c.args.token c.requires.nested c.push.new.self.items
    c.in_ok-push-in-Attribute.ensures.items _ (sym c.in-Attribute.ensures) (keep rest)

pub returns-in_ok-push-in-Attribute-clause-nested :
    goal.returns-in_ok-push-in-Attribute-clause-nested
returns-in_ok-push-in-Attribute-clause-nested c =
    word_nested c.args.self.now c.args.token c.requires.nested c.push.new.self.items
    c.in_ok-push-in-Attribute.ensures.items

pub returns-in_ok-push-in-Other-clause-ok : goal.returns-in_ok-push-in-Other-clause-ok
returns-in_ok-push-in-Other-clause-ok c =
    λ rest. other_kept c.args.self.now c.args.token c.requires.nested c.push-in-Other.new.self.items
    c.in_ok-push-in-Other.ensures.items _ (sym c.in-Other.ensures) (keep rest)

pub returns-in_ok-push-in-Other-clause-nested : goal.returns-in_ok-push-in-Other-clause-nested
returns-in_ok-push-in-Other-clause-nested c =
    still_nested c.args.self.now c.args.token c.requires.nested c.push-in-Other.new.self.items
    c.in_ok-push-in-Other.ensures.items
