use Rattle.std.proofs.Common.{◌≡◌, ◌-◌, true, false, arith, rules}
use Rattle.std.proofs.lemmas.Result.{err_from_is_err_and}
use Rattle.c_language.specs.declared.token.Punctuator.TheVariants as mark
use Rattle.c_grammar.specs.Reading as spec
use Rattle.c_reading.specs.Cursor.{here}
use Rattle.c_exprs.proofs.Lists.{fields_next, fields_fail, fields_stop, fields_out}
use Rattle.c_exprs.proofs.below.Below.more_fields.Goals as goal

pub returns-then-not-begins : goal.returns-then-not-begins
returns-then-not-begins g c =
    let r = spec.rules c.args.self.now.height in
    let source = c.args.self.now.source in
    let l = c.fields in
    let s = here source l.c in
    let none : spec.begins mark.Comma s ≡ false = search rules in
    record {
      reads = fields_stop r (l.left - 1) l.left l.all.trees s _ (omega arith) none l.invariant.reads;
      low = l.invariant.low;
    }

pub returns-in_err-found : goal.returns-in_err-found
returns-in_err-found g c =
    let r = spec.rules c.args.self.now.height in
    let source = c.args.self.now.source in
    let l = c.fields in
    let s = here source l.c in
    let z = here source c.expect.new.c in
    let goes : spec.begins mark.Comma s ≡ true = search rules in
    let p = err_from_is_err_and c.from_residual-in_err-found.result c.from_residual-in_err-found.ensures.1 in
    record {
      reads = rw (p.1, p.2) (fields_fail r (l.left - 1) l.left c.in_ok-expect.field-0 l.all.trees s z _ _
          (omega arith) goes c.in_ok-expect.ensures c.in_err-found.ensures.reads l.invariant.reads);
      low = rw p.1 tt;
    }

pub fields-preserved : goal.fields-preserved
fields-preserved g c =
    let r = spec.rules c.args.self.now.height in
    let source = c.args.self.now.source in
    let l = c.fields in
    let s = here source l.c in
    let z = here source c.expect.new.c in
    let goes : spec.begins mark.Comma s ≡ true = search rules in
    record {
      reads = fields_next r (l.left - 1) l.left c.in_ok-expect.field-0 l.all.trees c.in_ok-all.all.trees
          c.in_ok-found.found.tree s z (here source c.field.new.c) _ (omega arith) goes c.in_ok-expect.ensures
          c.in_ok-found.ensures.reads c.in_ok-all.ensures.trees l.invariant.reads;
      low = omega (arith, l.invariant.low, c.in_ok-found.ensures.low, c.in_ok-all.ensures.height);
    }

pub returns : goal.returns
returns g c =
    let r = spec.rules c.args.self.now.height in
    let source = c.args.self.now.source in
    let l = c.fields in
    record {
      reads = fields_out r l.left l.all.trees (here source l.c) _ (omega arith) l.invariant.reads;
      low = tt;
    }
