use Rattle.std.proofs.Common.{◌<◌, ◌++◌, ◌∷◌, ◌∙◌, [], ap, sym, subst, take}
use Rattle.std.proofs.lemmas.List.{take_more}
use Rattle.format_match.specs.Spelled.{EndsExactly}
use Rattle.format_match.proofs.Reached.{ends_more}
use Rattle.format_ends.specs.Reached.{reached}
use Rattle.format_ends.specs.Found.{IsPart}
use Rattle.format_ends.proofs.PartLaws.{parts_long, part_at, part_set}
use Rattle.format_ends.proofs.ending.all_ends.Goals as goal

pub bounds-parts-index : goal.bounds-parts-index
bounds-parts-index c =
    subst (λ n. c.pieces.index < n) (sym (parts_long c.args.pieces.now c.args.log.now c.pieces.parts c.pieces.invariant.parts)) c.pieces-test.true

pub behind-requires-clause-part : goal.behind-requires-clause-part
behind-requires-clause-part c =
    let piece = c.index-pieces-index.result in
    subst (λ q. IsPart piece c.args.log.now q) c.index-parts-index.is
    (part_at c.args.pieces.now c.args.log.now c.pieces.parts c.pieces.index piece c.index-parts-index.result
    c.pieces.invariant.parts c.pieces-test.true c.index-pieces-index.is c.index-parts-index.is)

pub pieces-preserved : goal.pieces-preserved
pieces-preserved c =
    let pieces = c.args.pieces.now in
    let log = c.args.log.now in
    let from = c.args.from in
    let i = c.pieces.index in
    let piece = c.index-pieces-index.result in
    let before = reached log c.pieces.reached.text c.pieces.reached.before in
    let ends = reached log c.in_ok-reached.reached.text c.in_ok-reached.reached.before in
    record {
      ends = subst (λ ps. EndsExactly ps log from ends) (sym (take_more pieces i piece c.pieces-test.true ∙ ap (λ q. take i pieces ++ q ∷ []) (sym c.index-pieces-index.is)))
          (ends_more (take i pieces) piece log from before ends c.pieces.invariant.ends c.in_ok-reached.ensures.ends);
      parts = part_set pieces log c.pieces.parts i piece c.behind.new.part c.pieces.invariant.parts c.pieces-test.true c.index-pieces-index.is c.in_ok-reached.ensures.part;
    }
