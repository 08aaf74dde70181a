use Rattle.std.proofs.Common.{◌∙◌, refl, sym, subst}
use Rattle.core_units.specs.Units.{MaybeParts}
use Rattle.core_units.proofs.Wholes.{assembled, is_core, no_main_told, none_of}
use Rattle.core_units.proofs.unit.core_of.Goals as goal

pub returns-in_default : goal.returns-in_default
returns-in_default c =
    no_main_told c.args.source.now.externals.now c.args.source.now.profile.now c.args.overview.now c.requires
    (sym c.main_takes_two.ensures ∙ none_of c.main_takes_two.result c.in_default.not-Some)

pub returns-in_default-2 : goal.returns-in_default-2
returns-in_default-2 c =
    subst (MaybeParts c.args.source.now.externals.now c.args.source.now.profile.now)
    (none_of c.in_ok-parts.field-0 c.in_default-2.not-Some) c.in_ok-parts.ensures

pub returns : goal.returns
returns c =
    let xs = c.args.source.now.externals.now in
    let profile = c.args.source.now.profile.now in
    let parts = subst (MaybeParts xs profile) c.in-Some-2.is c.in_ok-parts.ensures in
    let whole = assembled xs profile c.args.overview.now c.requires _ c.in-Some-2.parts parts refl refl refl
    c.count.ensures (sym c.main_takes_two.ensures ∙ c.in-Some.is) c.in_ok-met.ensures.met c.in_ok-met.ensures.objects in
    is_core xs profile c.args.overview.now c.requires _ c.cut.result c.in_ok-count.count c.in_ok-reached.reached whole
    c.cut.ensures.value c.cut.ensures.runs c.in_ok-reached.ensures c.in_ok-count.ensures
