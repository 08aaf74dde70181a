use Rattle.std.proofs.Common.{refl, sym, ◌∙◌}
use Rattle.std.proofs.lemmas.Bool.{eq-eqb}
use Rattle.printf_text.specs.declared.kind.Kind.TheVariants as kind
use Rattle.printf_text.specs.declared.piece.Arg.TheVariants as arg
use Rattle.format_match.specs.Ways.{shown_end}
use Rattle.format_match.specs.declared.split.Constraint.TheVariants.{Shown}
use Rattle.format_match.proofs.Printing.{shown_prints, shown_not, shown_zero}
use Rattle.format_match.proofs.MetEnds.{sized_split, sized_none, Adds-one, Adds-nothing}
use Rattle.format_match.proofs.forms.push_shown.Goals as goal

pub returns-then-word-eq0 : goal.returns-then-word-eq0
returns-then-word-eq0 c =
    Adds-nothing _ _
    (sized_none c.args.sizes kind.Pointer (shown_end c.args.flags c.args.sizes c.args.slice.now c.args.end)
    (shown_zero c.args.flags c.args.sizes c.args.slice.now c.args.end (sym c.pointer_read-word.ensures ∙ c.if-word-eq0.true)))

pub returns-in_ok-push_way : goal.returns-in_ok-push_way
returns-in_ok-push_way c =
    Adds-one _ _ _ c.in_ok-push_way.ensures
    (sized_split c.args.sizes kind.Pointer (shown_end c.args.flags c.args.sizes c.args.slice.now c.args.end) (Shown c.pointer_read-word.result) c.args.end (arg.Shown c.pointer_read-word.result) c.requires refl
    (c.if-word-eq0.false, c.pointer_read-word.type_inv) (eq-eqb _ _ refl)
    (shown_prints c.args.flags c.args.sizes c.args.slice.now c.args.end c.pointer_read-word.result c.pointer_read-word.ensures (sym c.in_ok-prints.ensures ∙ c.if-branch.true)))

pub returns-else-branch : goal.returns-else-branch
returns-else-branch c =
    Adds-nothing _ _
    (sized_none c.args.sizes kind.Pointer (shown_end c.args.flags c.args.sizes c.args.slice.now c.args.end)
    (shown_not c.args.flags c.args.sizes c.args.slice.now c.args.end c.pointer_read-word.result c.pointer_read-word.ensures (sym c.in_ok-prints.ensures ∙ c.if-branch.false)))
