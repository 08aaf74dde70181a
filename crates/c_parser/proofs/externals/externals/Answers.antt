use Rattle.std.proofs.Common.{◌≡◌, ◌-◌, true, false, arith, rules}
use Rattle.std.proofs.lemmas.Result.{err_from_is_err_and}
use Rattle.c_grammar.specs.UnitReading as spec
use Rattle.c_reading.specs.Cursor.{state_of}
use Rattle.c_parser.proofs.UnitLists.{externals_next, externals_fail, externals_stop, externals_out}
use Rattle.c_parser.proofs.externals.externals.Goals as goal

pub returns-then-is_at_end : goal.returns-then-is_at_end
returns-then-is_at_end c =
    let s = state_of c.args.tokens.now c.externals.file c.externals.c in
    let last : spec.is_end s.0 ≡ true = search rules in
    externals_stop (c.externals.left - 1) c.externals.left c.externals.all s _ (omega arith) last c.externals.invariant

pub returns-in_err-found : goal.returns-in_err-found
returns-in_err-found c =
    let s = state_of c.args.tokens.now c.externals.file c.externals.c in
    let more : spec.is_end s.0 ≡ false = search rules in
    let p = err_from_is_err_and c.from_residual.result c.from_residual.ensures.1 in
    rw (p.1, p.2) (externals_fail (c.externals.left - 1) c.externals.left c.externals.all s _ _ (omega arith) more
    c.in_err-found.ensures c.externals.invariant)

pub externals-preserved : goal.externals-preserved
externals-preserved c =
    let s = state_of c.args.tokens.now c.externals.file c.externals.c in
    let more : spec.is_end s.0 ≡ false = search rules in
    externals_next (c.externals.left - 1) c.externals.left c.externals.all c.push.new.self c.in_ok-found.found s
    (state_of c.args.tokens.now c.next_external.new.file c.next_external.new.c) _ (omega arith) more
    c.in_ok-found.ensures c.in_ok-push.ensures.ok c.externals.invariant

pub returns : goal.returns
returns c =
    externals_out c.externals.left c.externals.all (state_of c.args.tokens.now c.externals.file c.externals.c) _
    (omega arith) c.externals.invariant
