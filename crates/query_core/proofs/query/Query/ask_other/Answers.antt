use Rattle.std.proofs.Common.{refl}
use Rattle.query_core.proofs.OtherLemmas.{other-bytes, other-replies, other-words, same-found}
use Rattle.query_core.proofs.query.Query.ask_other.Goals as goal

pub seek-requires-clause-words : goal.seek-requires-clause-words
seek-requires-clause-words c =
    let q = c.args.self.now in
    let o = c.other_at_index-other.result.now in
    let there = rw c.as_slice.ensures at c.other_at_index-other.ensures in
    let found = same-found q c.args.watch c.args.value.now c.args.index o c.requires.found there in
    other-words q c.requires.whole c.args.watch c.args.value.now o found

pub seek-requires-clause-bytes : goal.seek-requires-clause-bytes
seek-requires-clause-bytes c =
    let q = c.args.self.now in
    let o = c.other_at_index-other.result.now in
    let there = rw c.as_slice.ensures at c.other_at_index-other.ensures in
    let found = same-found q c.args.watch c.args.value.now c.args.index o c.requires.found there in
    other-bytes q c.requires.whole c.args.watch c.args.value.now o found

pub returns : goal.returns
returns c =
    let q = c.args.self.now in
    let o = c.other_at_index-other.result.now in
    let there = rw c.as_slice.ensures at c.other_at_index-other.ensures in
    let found = same-found q c.args.watch c.args.value.now c.args.index o c.requires.found there in
    other-replies q c.args.watch c.args.value.now c.args.conflicts c.in_ok-reply.reply o _ _ found c.in_ok-solver.ensures.clauses c.in_ok-solver.ensures.kept c.bit_of_root-bit.ensures
    (c.in_ok-reply.ensures.reply _ refl)
