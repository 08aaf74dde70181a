use Rattle.std.proofs.Common.{◌≡◌, ◌-◌, ℕ, List, Bool, length, suc, true, false, arith, rules}
use Rattle.std.proofs.lemmas.Result.{err_from_is_err_and}
use Rattle.c_language.specs.declared.token.Punctuator.TheVariants as mark
use Rattle.c_grammar.specs.Reading as spec
use Rattle.c_language.specs.declared.unit.InitializerItem.{InitializerItem}
use Rattle.c_grammar.specs.Parts.{State}
use Rattle.c_grammar.specs.Reading.{Reading}
use Rattle.c_grammar.specs.UnitReading.{initializer_at, more_items_at}
use Rattle.c_reading.specs.Cursor.{here, behind}
use Rattle.c_parser.proofs.Initializing.{items_next, items_fail, items_stop, items_close, items_out}
use Rattle.c_parser.proofs.initializers.Inside.more_items.Goals as goal

-- what the loop reads in all
abbrev whole : ℕ → List InitializerItem → State → Reading (List InitializerItem × Bool)
whole height first s = behind first (more_items_at (spec.rules height) (initializer_at height) (suc (length s.0)) s)

pub returns-then-not-begins : goal.returns-then-not-begins
returns-then-not-begins g c =
    let height = c.args.self.now.trees.height in
    let s = here c.args.self.now.trees.source c.items.c in
    let none : spec.begins mark.Comma s ≡ false = search rules in
    items_stop (spec.rules height) (initializer_at height) (c.items.left - 1) c.items.left c.items.all s
    (whole height c.args.first (here c.args.self.now.trees.source c.args.c.now))
    (omega arith) none c.items.invariant

pub returns-then-begins : goal.returns-then-begins
returns-then-begins g c =
    let height = c.args.self.now.trees.height in
    let s = here c.args.self.now.trees.source c.items.c in
    let z = here c.args.self.now.trees.source c.expect.new.c in
    let goes : spec.begins mark.Comma s ≡ true = search rules in
    let last : spec.begins mark.RightBrace z ≡ true = search rules in
    items_close (spec.rules height) (initializer_at height) (c.items.left - 1) c.items.left c.in_ok-expect.field-0
    c.items.all s z (whole height c.args.first (here c.args.self.now.trees.source c.args.c.now))
    (omega arith) goes c.in_ok-expect.ensures last c.items.invariant

pub returns-in_err-found : goal.returns-in_err-found
returns-in_err-found g c =
    let height = c.args.self.now.trees.height in
    let s = here c.args.self.now.trees.source c.items.c in
    let z = here c.args.self.now.trees.source c.expect.new.c in
    let goes : spec.begins mark.Comma s ≡ true = search rules in
    let more : spec.begins mark.RightBrace z ≡ false = search rules in
    let p = err_from_is_err_and c.from_residual-in_err-found.result c.from_residual-in_err-found.ensures.1 in
    rw (p.1, p.2) (items_fail (spec.rules height) (initializer_at height) (c.items.left - 1) c.items.left
    c.in_ok-expect.field-0 c.items.all s z
    (whole height c.args.first (here c.args.self.now.trees.source c.args.c.now)) _
    (omega arith) goes c.in_ok-expect.ensures more
    c.in_err-found.ensures c.items.invariant)

pub items-preserved : goal.items-preserved
items-preserved g c =
    let height = c.args.self.now.trees.height in
    let s = here c.args.self.now.trees.source c.items.c in
    let z = here c.args.self.now.trees.source c.expect.new.c in
    let goes : spec.begins mark.Comma s ≡ true = search rules in
    let more : spec.begins mark.RightBrace z ≡ false = search rules in
    items_next (spec.rules height) (initializer_at height) (c.items.left - 1) c.items.left c.in_ok-expect.field-0
    c.items.all c.push.new.self c.in_ok-found.found c.in_ok-new.field-0 s z
    (here c.args.self.now.trees.source c.item.new.c)
    (whole height c.args.first (here c.args.self.now.trees.source c.args.c.now)) (omega arith) goes
    c.in_ok-expect.ensures more
    c.in_ok-found.ensures c.in_ok-new.ensures c.in_ok-push.ensures.ok c.items.invariant

pub returns : goal.returns
returns g c =
    let height = c.args.self.now.trees.height in
    items_out (spec.rules height) (initializer_at height) c.items.left c.items.all
    (here c.args.self.now.trees.source c.items.c)
    (whole height c.args.first (here c.args.self.now.trees.source c.args.c.now)) (omega arith) c.items.invariant
