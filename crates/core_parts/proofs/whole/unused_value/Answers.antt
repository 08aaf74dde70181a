use Rattle.std.proofs.Common.{sym, ap, ◌∙◌, subst}
use Rattle.c_means.specs.Parts.{Part}
use Rattle.c_means.proofs.RunFusion.{part_noted}
use Rattle.core_forms.specs.Built.{IsDiscarded}
use Rattle.core_parts.proofs.whole.unused_value.Goals as goal

pub returns : goal.returns
returns g c =
    let n = g.C.Places.numbering c.args.callees.now in
    let same = sym (part_noted c.args.expr.now c.args.scope.now) in
    let h = subst (λ (p : Part). IsDiscarded n c.in_ok-x.x p) same c.in_ok-x.ensures.effect in
    record {
      effect = h.effect;
      marks = h.marks;
      after = c.in_ok-x.ensures.after ∙ ap (λ (p : Part). p.typed.after) same;
    }
