use Rattle.std.proofs.Common.{◌≡◌, ◌-◌, true, false, arith, rules}
use Rattle.std.proofs.lemmas.Result.{err_from_is_err_and}
use Rattle.c_language.specs.declared.token.Punctuator.TheVariants as mark
use Rattle.c_grammar.specs.Reading as spec
use Rattle.c_reading.specs.Cursor.{here}
use Rattle.c_exprs.proofs.Lists.{members_next, members_fail, members_stop, members_out}
use Rattle.c_exprs.proofs.below.Below.members.Goals as goal

pub returns-then-begins : goal.returns-then-begins
returns-then-begins g c =
    let r = spec.rules c.args.self.now.height in
    let source = c.args.self.now.source in
    let l = c.members in
    let s = here source l.c in
    let none : spec.begins mark.RightBrace s ≡ true = search rules in
    record {
      reads = members_stop r (l.left - 1) l.left l.all.trees s _ (omega arith) none l.invariant.reads;
      low = l.invariant.low;
    }

pub returns-in_err-found : goal.returns-in_err-found
returns-in_err-found g c =
    let r = spec.rules c.args.self.now.height in
    let source = c.args.self.now.source in
    let l = c.members in
    let s = here source l.c in
    let goes : spec.begins mark.RightBrace s ≡ false = search rules in
    let p = err_from_is_err_and c.from_residual.result c.from_residual.ensures.1 in
    record {
      reads = rw (p.1, p.2) (members_fail r (l.left - 1) l.left l.all.trees s _ _ (omega arith) goes
          c.in_err-found.ensures.reads l.invariant.reads);
      low = rw p.1 tt;
    }

pub members-preserved : goal.members-preserved
members-preserved g c =
    let r = spec.rules c.args.self.now.height in
    let source = c.args.self.now.source in
    let l = c.members in
    let s = here source l.c in
    let goes : spec.begins mark.RightBrace s ≡ false = search rules in
    record {
      reads = members_next r (l.left - 1) l.left l.all.trees c.in_ok-all.all.trees c.in_ok-found.found.tree s
          (here source c.member_declaration.new.c) _ (omega arith) goes c.in_ok-found.ensures.reads
          c.in_ok-all.ensures.trees l.invariant.reads;
      low = omega (arith, l.invariant.low, c.in_ok-found.ensures.low, c.in_ok-all.ensures.height);
    }

pub returns : goal.returns
returns g c =
    let r = spec.rules c.args.self.now.height in
    let source = c.args.self.now.source in
    let l = c.members in
    record {
      reads = members_out r l.left l.all.trees (here source l.c) _ (omega arith) l.invariant.reads;
      low = tt;
    }
