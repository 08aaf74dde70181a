use Rattle.std.proofs.Common.{◌≡◌, ◌∙◌, ◌+◌, ◌++◌, ◌∷◌, [], take, drop, sym, ap, subst, arith}
use Rattle.std.proofs.lemmas.List.{take_more, take_all}
use Rattle.printf_text.specs.Texts.{kinds, text_of}
use Rattle.format_match.specs.Splits.{marks}
use Rattle.format_match.specs.Ways.{Describes, ends_of, kept_ends, next_literal}
use Rattle.format_match.proofs.MetEnds.{Describes-same}
use Rattle.format_match.proofs.Following.{Describes-piece, splits_within, kept_all, next_at, next_past}
use Rattle.format_match.proofs.matching.all_splits.Goals as goal

pub through-requires : goal.through-requires
through-requires c =
    let pieces = c.args.pieces.now in
    splits_within (take c.pieces.index pieces) (next_literal (drop c.pieces.index pieces)) c.args.log.now c.args.from c.pieces.splits c.requires c.pieces.invariant

pub pieces-preserved : goal.pieces-preserved
pieces-preserved c =
    let pieces = c.args.pieces.now in
    let i = c.pieces.index in
    let p = c.index-pieces-index.result in
    let log = c.args.log.now in
    let from = c.args.from in
    let more : take (i + 1) pieces ≡ take i pieces ++ p ∷ [] = take_more pieces i p c.pieces-test.true ∙ ap (λ q. take i pieces ++ q ∷ []) (sym c.index-pieces-index.is) in
    let before = subst (λ n. Describes (kinds (take i pieces)) (marks (take i pieces)) (λ args. kept_ends n log (ends_of (text_of (take i pieces) args) log from)) c.pieces.splits)
    (sym (next_at pieces i p c.pieces-test.true c.index-pieces-index.is)) c.pieces.invariant in
    subst (λ n. Describes (kinds (take (i + 1) pieces)) (marks (take (i + 1) pieces)) (λ args. kept_ends n log (ends_of (text_of (take (i + 1) pieces) args) log from)) c.in_ok-splits.splits) c.next_literal-next.ensures
    (subst (λ ps. Describes (kinds ps) (marks ps) (λ args. kept_ends c.next_literal-next.result.now log (ends_of (text_of ps args) log from)) c.in_ok-splits.splits) (sym more)
    (Describes-piece (take i pieces) [] p log c.next_literal-next.result.now from c.pieces.splits c.in_ok-splits.splits before c.in_ok-splits.ensures))

pub returns : goal.returns
returns c =
    let pieces = c.args.pieces.now in
    let i = c.pieces.index in
    let log = c.args.log.now in
    let from = c.args.from in
    subst (λ ps. Describes (kinds ps) (marks ps) (λ args. ends_of (text_of ps args) log from) c.pieces.splits) (take_all i pieces (omega arith))
    (Describes-same _ c.pieces.invariant
    (λ args h. ap (λ n. kept_ends n log (ends_of (text_of (take i pieces) args) log from)) (sym (next_past pieces i (omega arith)))
    ∙ kept_all log (ends_of (text_of (take i pieces) args) log from)))
