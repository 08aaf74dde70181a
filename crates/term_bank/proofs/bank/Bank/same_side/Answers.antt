use Rattle.std.proofs.Common.{◌≡◌, Some, subst}
use Rattle.std.specs.Prelude.{slice_get}
use Rattle.term_bank.specs.declared.shape.Shape.TheVariants.{Flag}
use Rattle.term_bank.proofs.FoldLemmas.{part_left, part_right, part_both}
use Rattle.term_bank.proofs.bank.Bank.same_side.Goals as goal

pub returns-then-left-right : goal.returns-then-left-right
returns-then-left-right c = part_both c.args.self.now c.args.connective c.args.left c.args.right c.is_flag.ensures.bank c.requires c.if-left-right.true

pub returns-then-is_flag : goal.returns-then-is_flag
returns-then-is_flag c =
    let e = c.is_flag.ensures in
    part_right c.args.self.now c.args.connective c.args.left c.args.right e.bank c.requires
    (subst (λ b. slice_get c.args.self.now c.args.left ≡ Some (Flag b)) c.leaving-leaves.ensures (e.flag c.if-is_flag.true))

pub returns-then-is_flag-2 : goal.returns-then-is_flag-2
returns-then-is_flag-2 c =
    let e = c.is_flag-2.ensures in
    part_left c.args.self.now c.args.connective c.args.left c.args.right e.bank c.requires
    (subst (λ b. slice_get c.args.self.now c.args.right ≡ Some (Flag b)) c.leaving-leaves.ensures (e.flag c.if-is_flag-2.true))
