use Rattle.std.proofs.Common.{◌≡◌, ◌-◌, true, false, arith, rules}
use Rattle.std.proofs.lemmas.Result.{err_from_is_err_and}
use Rattle.c_language.specs.declared.token.Punctuator.TheVariants as mark
use Rattle.c_grammar.specs.Reading as spec
use Rattle.c_grammar.specs.UnitReading.{initializer_at}
use Rattle.c_reading.specs.Cursor.{here}
use Rattle.c_parser.proofs.Declaring.{inits_next, inits_fail, inits_stop, inits_out}
use Rattle.c_parser.proofs.declarations.more_inits.Goals as goal

pub returns-then-not-begins : goal.returns-then-not-begins
returns-then-not-begins c =
    let height = c.args.trees.now.height in
    let s = here c.args.trees.now.source c.inits.c in
    let none : spec.begins mark.Comma s ≡ false = search rules in
    inits_stop (spec.rules height) (initializer_at height) c.args.is_type (c.inits.left - 1) c.inits.left c.inits.all
    s _ (omega arith) none c.inits.invariant

pub returns-in_err-found : goal.returns-in_err-found
returns-in_err-found c =
    let height = c.args.trees.now.height in
    let s = here c.args.trees.now.source c.inits.c in
    let z = here c.args.trees.now.source c.expect.new.c in
    let goes : spec.begins mark.Comma s ≡ true = search rules in
    let p = err_from_is_err_and c.from_residual-in_err-found.result c.from_residual-in_err-found.ensures.1 in
    rw (p.1, p.2) (inits_fail (spec.rules height) (initializer_at height) c.args.is_type (c.inits.left - 1)
    c.inits.left c.in_ok-expect.field-0 c.inits.all s z _ _ (omega arith) goes c.in_ok-expect.ensures
    c.in_err-found.ensures c.inits.invariant)

pub inits-preserved : goal.inits-preserved
inits-preserved c =
    let height = c.args.trees.now.height in
    let s = here c.args.trees.now.source c.inits.c in
    let z = here c.args.trees.now.source c.expect.new.c in
    let goes : spec.begins mark.Comma s ≡ true = search rules in
    inits_next (spec.rules height) (initializer_at height) c.args.is_type (c.inits.left - 1) c.inits.left
    c.in_ok-expect.field-0 c.inits.all c.push.new.self c.in_ok-found.found s z
    (here c.args.trees.now.source c.init.new.c) _ (omega arith) goes c.in_ok-expect.ensures c.in_ok-found.ensures
    c.in_ok-push.ensures.ok c.inits.invariant

pub returns : goal.returns
returns c =
    let height = c.args.trees.now.height in
    inits_out (spec.rules height) (initializer_at height) c.args.is_type c.inits.left c.inits.all
    (here c.args.trees.now.source c.inits.c) _ (omega arith) c.inits.invariant
