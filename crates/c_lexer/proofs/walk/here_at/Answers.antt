use Rattle.std.proofs.Common.{◌≡◌, ◌-◌, ◌<◌, ◌≤◌, length, true, sym, ap, arith, ◌∙◌}
use Rattle.std.proofs.lemmas.Bool.Decides.{nat_tests}
use Rattle.c_lexer.specs.Division.{divide}
use Rattle.c_lexer.specs.Places.{spot_in, located, beginning}
use Rattle.c_lexer.specs.Walks.{spot_of}
use Rattle.c_lexer.proofs.Walking.{spot_past}
use Rattle.c_lexer.proofs.walk.here_at.Goals as goal

pub pieces-init : goal.pieces-init
unfolding located
pieces-init c =
    let w = c.new-walk.result in
    let at = c.args.at in
    record {
      rest =
          ap (λ k. spot_in (spot_of w.here) (divide 0 w.fresh w.rest.now) (at - k)) c.new-walk.ensures.at
          ∙ ap (λ k. spot_in (spot_of w.here) (divide 0 w.fresh w.rest.now) k) (omega arith)
          ∙ ap (λ s. spot_in s (divide 0 w.fresh w.rest.now) at) c.new-walk.ensures.here
          ∙ ap (λ f. spot_in (beginning c.args.name.now) (divide 0 f w.rest.now) at) c.new-walk.ensures.fresh
          ∙ ap (λ r. spot_in (beginning c.args.name.now) (divide 0 true r) at) c.new-walk.ensures.rest;
      small = c.new-walk.ensures.small;
      within = omega (arith, c.new-walk.ensures.at);
    }

pub pieces-preserved : goal.pieces-preserved
pieces-preserved c =
    let old = c.pieces.walk in
    let new = c.step.new.self in
    let some : 0 < length old.rest.now = grind (arith, nat_tests) in
    let next = c.step.ensures.piece in
    let bytes = c.step.result.1.now in
    let past : length bytes ≤ c.args.at - old.at = omega (arith, next.at_is, c.if-at-walk.false) in
    let left : c.args.at - old.at - length bytes ≡ c.args.at - new.at = omega (arith, next.at_is) in
    record {
      rest =
          ap (λ k. spot_in (spot_of new.here) (divide 0 new.fresh new.rest.now) k) (sym left)
          ∙ sym (spot_past old c.step.result.0 bytes new some next (c.args.at - old.at) past)
          ∙ c.pieces.invariant.rest;
      small = c.step.ensures.small;
      within = c.if-at-walk.false;
    }
