use Rattle.std.proofs.Common.{◌≡◌, ◌≤◌, ◌+◌, ◌-◌, IfOk, arith, subst}
use Rattle.c_reading.specs.Cursor.{state_of}
use Rattle.c_exprs.proofs.Heights.{no_expr, no_specifier, no_declarator, next_expr, next_specifier, next_declarator}
use Rattle.c_exprs.proofs.knot.+trees.Goals as goal

pub expr_of-returns-then-height-eq0 : goal.expr_of-returns-then-height-eq0
expr_of-returns-then-height-eq0 t c =
    record { reads = no_expr c.args.height c.args.rank _ c.if-height-eq0.true; low = tt }

pub expr_of-returns : goal.expr_of-returns
expr_of-returns t c =
    let h = c.args.height in
    let s = state_of c.args.tokens.now c.args.file.now c.args.c.now in
    let read = c.read_expr.ensures in
    let is : c.args.height - 1 + 1 ≡ c.args.height = omega (arith, c.if-height-eq0.false) in
    record {
      reads = rw (next_expr h (h - 1) c.args.rank s (omega (arith, is))) read.reads;
      low = subst (λ n. IfOk c.read_expr.result (λ f. f.height ≤ n)) is read.low;
    }

pub specifier_of-returns-then-height-eq0 : goal.specifier_of-returns-then-height-eq0
specifier_of-returns-then-height-eq0 t c =
    record { reads = no_specifier c.args.height _ c.if-height-eq0.true; low = tt }

pub specifier_of-returns : goal.specifier_of-returns
specifier_of-returns t c =
    let h = c.args.height in
    let s = state_of c.args.tokens.now c.args.file.now c.args.c.now in
    let read = c.read_specifier.ensures in
    let is : c.args.height - 1 + 1 ≡ c.args.height = omega (arith, c.if-height-eq0.false) in
    record {
      reads = rw (next_specifier h (h - 1) s (omega (arith, is))) read.reads;
      low = subst (λ n. IfOk c.read_specifier.result (λ f. f.height ≤ n)) is read.low;
    }

pub declarator_of-returns-then-height-eq0 : goal.declarator_of-returns-then-height-eq0
declarator_of-returns-then-height-eq0 t c =
    record { reads = no_declarator c.args.height c.args.place _ c.if-height-eq0.true; low = tt }

pub declarator_of-returns : goal.declarator_of-returns
declarator_of-returns t c =
    let h = c.args.height in
    let s = state_of c.args.tokens.now c.args.file.now c.args.c.now in
    let read = c.read_declarator.ensures in
    let is : c.args.height - 1 + 1 ≡ c.args.height = omega (arith, c.if-height-eq0.false) in
    record {
      reads = rw (next_declarator h (h - 1) c.args.place s (omega (arith, is))) read.reads;
      low = subst (λ n. IfOk c.read_declarator.result (λ f. f.height ≤ n)) is read.low;
    }
