use Rattle.std.proofs.Common.{◌≡◌, ◌-◌, length, suc, true, false, arith, rules}
use Rattle.std.proofs.lemmas.Result.{err_from_is_err_and}
use Rattle.c_language.specs.declared.token.Punctuator.TheVariants as mark
use Rattle.c_grammar.specs.Reading.{begins}
use Rattle.c_grammar.specs.UnitReading.{stmt_at, block_items_at}
use Rattle.c_reading.specs.Cursor.{here}
use Rattle.c_parser.proofs.BlockItems.{items_stop, items_fail, items_next, items_out}
use Rattle.c_parser.proofs.turns.Turns.block_items.Goals as goal

pub returns-then-begins : goal.returns-then-begins
returns-then-begins g c =
    let s = here c.args.self.now.trees.source c.items.c in
    let ends : begins mark.RightBrace s ≡ true = search rules in
    items_stop (stmt_at c.args.self.now.trees.height) (c.items.left - 1) c.items.left c.items.all s
    (block_items_at (stmt_at c.args.self.now.trees.height)
    (suc (length (here c.args.self.now.trees.source c.args.c.now).0))
    (here c.args.self.now.trees.source c.args.c.now)) (omega arith) ends c.items.invariant

pub returns-in_err-item : goal.returns-in_err-item
returns-in_err-item g c =
    let s = here c.args.self.now.trees.source c.items.c in
    let goes : begins mark.RightBrace s ≡ false = search rules in
    let p = err_from_is_err_and c.from_residual.result c.from_residual.ensures.1 in
    rw (p.1, p.2) (items_fail (stmt_at c.args.self.now.trees.height) (c.items.left - 1) c.items.left c.items.all s
    (block_items_at (stmt_at c.args.self.now.trees.height)
    (suc (length (here c.args.self.now.trees.source c.args.c.now).0))
    (here c.args.self.now.trees.source c.args.c.now)) _ (omega arith) goes c.in_err-item.ensures c.items.invariant)

pub items-preserved : goal.items-preserved
items-preserved g c =
    let s = here c.args.self.now.trees.source c.items.c in
    let goes : begins mark.RightBrace s ≡ false = search rules in
    items_next (stmt_at c.args.self.now.trees.height) (c.items.left - 1) c.items.left c.items.all c.push.new.self
    c.in_ok-item.item c.in_ok-item-2.item s (here c.args.self.now.trees.source c.statement.new.c)
    (block_items_at (stmt_at c.args.self.now.trees.height)
    (suc (length (here c.args.self.now.trees.source c.args.c.now).0))
    (here c.args.self.now.trees.source c.args.c.now)) (omega arith) goes c.in_ok-item.ensures
    c.in_ok-push.ensures.ok c.in_ok-item-2.ensures c.items.invariant

pub returns : goal.returns
returns g c = items_out (stmt_at c.args.self.now.trees.height) c.items.left c.items.all
    (here c.args.self.now.trees.source c.items.c)
    (block_items_at (stmt_at c.args.self.now.trees.height)
    (suc (length (here c.args.self.now.trees.source c.args.c.now).0))
    (here c.args.self.now.trees.source c.args.c.now)) (omega arith) c.items.invariant
