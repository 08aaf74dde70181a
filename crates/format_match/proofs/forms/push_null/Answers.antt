use Rattle.std.proofs.Common.{refl, sym, ◌∙◌}
use Rattle.printf_text.specs.declared.kind.Kind.TheVariants as kind
use Rattle.printf_text.specs.declared.piece.Arg.TheVariants as arg
use Rattle.format_match.specs.Ways.{null_end}
use Rattle.format_match.specs.declared.split.Constraint.TheVariants.{Null}
use Rattle.format_match.proofs.Printing.{null_prints, null_not}
use Rattle.format_match.proofs.MetEnds.{sized_split, sized_none, Adds-one, Adds-nothing}
use Rattle.format_match.proofs.forms.push_null.Goals as goal

pub returns-in_ok-push_way : goal.returns-in_ok-push_way
returns-in_ok-push_way c =
    Adds-one _ _ _ c.in_ok-push_way.ensures
    (sized_split c.args.sizes kind.Pointer (null_end c.args.flags c.args.sizes c.args.slice.now c.args.end) Null c.args.end arg.Null c.requires refl tt refl
    (null_prints c.args.flags c.args.sizes c.args.slice.now c.args.end (sym c.in_ok-prints.ensures ∙ c.if-branch.true)))

pub returns-else-branch : goal.returns-else-branch
returns-else-branch c =
    Adds-nothing _ _
    (sized_none c.args.sizes kind.Pointer (null_end c.args.flags c.args.sizes c.args.slice.now c.args.end)
    (null_not c.args.flags c.args.sizes c.args.slice.now c.args.end (sym c.in_ok-prints.ensures ∙ c.if-branch.false)))
