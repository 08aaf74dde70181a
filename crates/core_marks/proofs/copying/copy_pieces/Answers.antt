use Rattle.std.proofs.Common.{◌∙◌, ◌++◌, ◌∷◌, [], ap, sym, take}
use Rattle.std.proofs.lemmas.List.{take_more, take_all}
use Rattle.core_marks.proofs.copying.copy_pieces.Goals as goal

pub pieces-preserved : goal.pieces-preserved
pieces-preserved c =
    let pieces = c.args.pieces.now in
    let i = c.pieces.piece-index in
    let p = c.piece-item.result in
    c.in_ok-push.ensures.ok ∙ ap (λ ps. ps ++ c.in_ok-copied.copied ∷ []) c.pieces.invariant
    ∙ ap (λ q. take i pieces ++ q ∷ []) c.in_ok-copied.ensures
    ∙ sym (take_more pieces i p c.pieces-test.true ∙ ap (λ q. take i pieces ++ q ∷ []) (sym c.piece-item.is))

pub returns : goal.returns
returns c = c.pieces.invariant ∙ take_all c.pieces.piece-index c.args.pieces.now c.pieces-test.false
