use Rattle.std.proofs.Common.{◌≡◌, ◌-◌, true, false, arith, rules}
use Rattle.std.proofs.lemmas.Result.{err_from_is_err_and}
use Rattle.c_grammar.specs.Reading as spec
use Rattle.c_grammar.specs.UnitReading.{designated}
use Rattle.c_reading.specs.Cursor.{here}
use Rattle.c_parser.proofs.Initializing.{designators_next, designators_fail, designators_stop, designators_out}
use Rattle.c_parser.proofs.designators.designators.Goals as goal

pub returns-then-not-is_designated : goal.returns-then-not-is_designated
returns-then-not-is_designated c =
    let s = here c.args.trees.now.source c.designators.c in
    let none : designated s.0 ≡ false = search rules in
    designators_stop (spec.rules c.args.trees.now.height) (c.designators.left - 1) c.designators.left
    c.designators.all s _ (omega arith) none c.designators.invariant

pub returns-in_err-found : goal.returns-in_err-found
returns-in_err-found c =
    let s = here c.args.trees.now.source c.designators.c in
    let goes : designated s.0 ≡ true = search rules in
    let p = err_from_is_err_and c.from_residual.result c.from_residual.ensures.1 in
    rw (p.1, p.2) (designators_fail (spec.rules c.args.trees.now.height) (c.designators.left - 1) c.designators.left
    c.designators.all s _ _ (omega arith) goes c.in_err-found.ensures c.designators.invariant)

pub designators-preserved : goal.designators-preserved
designators-preserved c =
    let s = here c.args.trees.now.source c.designators.c in
    let goes : designated s.0 ≡ true = search rules in
    designators_next (spec.rules c.args.trees.now.height) (c.designators.left - 1) c.designators.left
    c.designators.all c.push.new.self c.in_ok-found.found s (here c.args.trees.now.source c.designator.new.c) _
    (omega arith) goes c.in_ok-found.ensures c.in_ok-push.ensures.ok c.designators.invariant

pub returns : goal.returns
returns c = designators_out (spec.rules c.args.trees.now.height) c.designators.left c.designators.all
    (here c.args.trees.now.source c.designators.c) _ (omega arith) c.designators.invariant
