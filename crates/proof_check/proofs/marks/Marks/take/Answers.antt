use Rattle.std.proofs.Common.{◌≡◌, ◌<◌, arith, length, Some, sym, ◌∙◌, ap, cond}
use Rattle.std.specs.List.{slice_get}
use Rattle.std.proofs.lemmas.Option.{slice_get-get_or}
use Rattle.proof_check.specs.declared.marks.Stamps.{Stamps}
use Rattle.proof_check.specs.Places.{place_of}
use Rattle.proof_check.proofs.MarkLemmas.{taken}
use Rattle.proof_check.proofs.marks.Marks.take.Goals as goal

pub returns-then-is_positive-clause-marks : goal.returns-then-is_positive-clause-marks
returns-then-is_positive-clause-marks c =
    let marks = c.args.self.now in
    let old = c.index_mut-stamps.result.now in
    let new : Stamps = record { positive = c.args.self.now.round; negative = c.index_mut-stamps.result.now.negative } in
    let is : c.place-place.result ≡ place_of marks.variables.items c.args.literal.variable = rw (c.deref.ensures.value, c.variable.ensures.value) at c.place-place.ensures.place in
    let in_variables : c.place-place.result < length marks.variables.items = rw c.deref.ensures.value at c.place-place.ensures.within in
    let in_stamps : c.place-place.result < length marks.stamps.items = omega (arith, marks.paired, marks.variables.ok.0, marks.stamps.ok.0) in
    let read : slice_get marks.stamps.items c.place-place.result ≡ Some old = slice_get-get_or marks.stamps.items c.place-place.result old in_stamps ∙ ap (λ s. Some s) (sym c.index_mut-stamps.ensures.value) in
    let sign = sym c.is_positive.ensures ∙ c.if-is_positive.true in
    taken marks.variables.items marks.stamps.items marks.round c.place-place.result c.args.literal old new is in_variables in_stamps read
    (ap (λ b. cond b marks.round old.positive) (sym sign)) (ap (λ b. cond b old.negative marks.round) (sym sign))

pub returns-else-is_positive-clause-marks : goal.returns-else-is_positive-clause-marks
returns-else-is_positive-clause-marks c =
    let marks = c.args.self.now in
    let old = c.index_mut-stamps.result.now in
    let new : Stamps = record { positive = c.index_mut-stamps.result.now.positive; negative = c.args.self.now.round } in
    let is : c.place-place.result ≡ place_of marks.variables.items c.args.literal.variable = rw (c.deref.ensures.value, c.variable.ensures.value) at c.place-place.ensures.place in
    let in_variables : c.place-place.result < length marks.variables.items = rw c.deref.ensures.value at c.place-place.ensures.within in
    let in_stamps : c.place-place.result < length marks.stamps.items = omega (arith, marks.paired, marks.variables.ok.0, marks.stamps.ok.0) in
    let read : slice_get marks.stamps.items c.place-place.result ≡ Some old = slice_get-get_or marks.stamps.items c.place-place.result old in_stamps ∙ ap (λ s. Some s) (sym c.index_mut-stamps.ensures.value) in
    let sign = sym c.is_positive.ensures ∙ c.if-is_positive.false in
    taken marks.variables.items marks.stamps.items marks.round c.place-place.result c.args.literal old new is in_variables in_stamps read
    (ap (λ b. cond b marks.round old.positive) (sym sign)) (ap (λ b. cond b old.negative marks.round) (sym sign))
