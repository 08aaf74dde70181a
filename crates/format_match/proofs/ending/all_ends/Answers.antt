use Rattle.std.proofs.Common.{◌++◌, ◌∷◌, ◌∙◌, [], ap, sym, subst, take}
use Rattle.std.proofs.lemmas.List.{take_more, take_all}
use Rattle.format_match.specs.Spelled.{EndsExactly}
use Rattle.format_match.proofs.Reached.{spelled_none, ends_more, ends_within}
use Rattle.format_match.proofs.ending.all_ends.Goals as goal

pub pieces-init : goal.pieces-init
pieces-init c =
    subst (λ l. EndsExactly [] c.args.log.now c.args.from l) (sym c.in_ok-ends.ensures) (spelled_none c.args.log.now c.args.from c.requires)

pub behind-requires : goal.behind-requires
behind-requires c = ends_within (take c.pieces.piece-index c.args.pieces.now) c.args.log.now c.args.from c.pieces.ends c.pieces.invariant

pub pieces-preserved : goal.pieces-preserved
pieces-preserved c =
    let pieces = c.args.pieces.now in
    let i = c.pieces.piece-index in
    let p = c.piece-item.result in
    subst (λ ps. EndsExactly ps c.args.log.now c.args.from c.in_ok-ends-2.ends)
    (sym (take_more pieces i p c.pieces-test.true ∙ ap (λ q. take i pieces ++ q ∷ []) (sym c.piece-item.is)))
    (ends_more (take i pieces) p c.args.log.now c.args.from c.pieces.ends c.in_ok-ends-2.ends c.pieces.invariant c.in_ok-ends-2.ensures)

pub returns : goal.returns
returns c =
    subst (λ ps. EndsExactly ps c.args.log.now c.args.from c.pieces.ends) (take_all c.pieces.piece-index c.args.pieces.now c.pieces-test.false) c.pieces.invariant
