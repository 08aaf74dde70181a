use Rattle.std.proofs.Common.{◌≡◌, sym, ap, ◌∙◌}
use Rattle.c_grammar.specs.Reading as spec
use Rattle.c_reading.specs.Cursor.{here}
use Rattle.c_exprs.proofs.Extending.{others, gives_as}
use Rattle.c_exprs.proofs.below.Below.extend_by.Goals as goal

pub returns-in_default : goal.returns-in_default
returns-in_default g c =
    let r = spec.rules c.args.self.now.height in
    let s = here c.args.self.now.source c.args.c.now in
    let w = c.in_default in
    let is : spec.infix_at r c.args.at c.infix_of.result c.args.left.tree s ≡ spec.extend_by r c.args.left.tree
    c.args.mark c.args.at s =
    ap (λ found. spec.infix_at r c.args.at found c.args.left.tree s) c.infix_of.ensures
    ∙ sym (others r c.args.left.tree c.args.mark c.args.at s w.not-LeftBracket w.not-LeftParen w.not-Dot
    w.not-Arrow w.not-PlusPlus w.not-MinusMinus w.not-Question w.not-Comma) in
    record {
      reads = gives_as _ _ _ _ is c.infix.ensures.reads;
      low = c.infix.ensures.low;
    }
