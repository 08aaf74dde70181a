use Rattle.std.proofs.Common.{◌∙◌, ap, sym}
use Rattle.core_callees.specs.Numbered.{numbers_in}
use Rattle.core_units.proofs.Wholes.{around_is, main_number, no_main_number, none_of}
use Rattle.core_units.proofs.unit.all_parts.Goals as goal

pub all_made-requires-clause-around : goal.all_made-requires-clause-around
all_made-requires-clause-around c =
    around_is c.args.source.now.externals.now c.args.source.now.profile.now c.args.overview.now c.requires.overview
    c.as_slice.result.now c.in_ok-functions-2.functions c.args.reached c.args.count c.requires.reached c.requires.count
    (c.as_slice.ensures ∙ c.in_ok-functions.ensures) c.in_ok-functions-2.ensures

pub returns : goal.returns
returns c =
    let around = around_is c.args.source.now.externals.now c.args.source.now.profile.now c.args.overview.now
    c.requires.overview c.as_slice.result.now c.in_ok-functions-2.functions c.args.reached c.args.count c.requires.reached
    c.requires.count (c.as_slice.ensures ∙ c.in_ok-functions.ensures) c.in_ok-functions-2.ensures in
    let named = main_number c.args.source.now.externals.now c.args.source.now.profile.now c.args.overview.now
    c.requires.overview c.in_ok-functions-2.functions c.args.reached c.in-Some.main around
    (ap (numbers_in c.in_ok-functions-2.functions) (sym c.as_slice-2.ensures) ∙ sym c.number_named.ensures ∙ c.in-Some.is) in
    record { all = c.in_ok-functions-3.ensures; function = named.function; is_main = named.is_main; number = named.number }

pub returns-in_default : goal.returns-in_default
returns-in_default c =
    no_main_number c.args.source.now.externals.now c.args.source.now.profile.now c.args.overview.now
    c.requires.overview c.in_ok-functions-2.functions c.args.reached
    (around_is c.args.source.now.externals.now c.args.source.now.profile.now c.args.overview.now
    c.requires.overview c.as_slice.result.now c.in_ok-functions-2.functions c.args.reached c.args.count c.requires.reached
    c.requires.count (c.as_slice.ensures ∙ c.in_ok-functions.ensures) c.in_ok-functions-2.ensures)
    (ap (numbers_in c.in_ok-functions-2.functions) (sym c.as_slice-2.ensures) ∙ sym c.number_named.ensures
    ∙ none_of c.number_named.result c.in_default.not-Some)
