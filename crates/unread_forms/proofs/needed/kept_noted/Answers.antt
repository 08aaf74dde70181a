use Rattle.std.proofs.Common.{◌≡◌, ◌≤◌, ◌++◌, ℕ, min, length, append-nil, sym, ap, ◌∙◌, arith}
use Rattle.unread_forms.proofs.SameNeeded.{no_more}
use Rattle.unread_forms.proofs.needed.kept_noted.Goals as goal

behind : (i n m k : ℕ) → k ≡ min n m → k ≤ i → min n m ≤ i
behind i n m k h l = omega (arith, h, l)

pub returns : goal.returns
returns c =
    let i = c.loop-index.index in
    let past = behind i (length c.args.outers.now) (length c.args.externals.now) c.min-count.result c.min-count.ensures c.loop-index-test.false in
    sym (append-nil c.loop-index.kept)
    ∙ ap (λ l. c.loop-index.kept ++ l) (sym (no_more c.args.words.now c.args.reached.now c.args.outers.now c.args.externals.now i past))
    ∙ c.loop-index.invariant
