use Rattle.std.proofs.Common.{◌++◌, ◌∷◌, ◌∙◌, [], ap, sym, subst, take}
use Rattle.std.proofs.lemmas.List.{take_more}
use Rattle.format_ends.specs.Found.{AreParts}
use Rattle.format_ends.proofs.PartLaws.{parts_more}
use Rattle.format_ends.proofs.parts.parts_of.Goals as goal

pub pieces-preserved : goal.pieces-preserved
pieces-preserved c =
    let pieces = c.args.pieces.now in
    let log = c.args.log.now in
    let i = c.pieces.piece-index in
    let p = c.piece-item.result in
    subst (λ ps. AreParts ps log c.push.new.self.items) (sym (take_more pieces i p c.pieces-test.true ∙ ap (λ q. take i pieces ++ q ∷ []) (sym c.piece-item.is)))
    (subst (λ qs. AreParts (take i pieces ++ p ∷ []) log qs) (sym c.in_ok-push.ensures.items)
    (parts_more (take i pieces) p log c.pieces.parts.items c.in_ok-part_of.field-0 c.pieces.invariant c.in_ok-part_of.ensures))
