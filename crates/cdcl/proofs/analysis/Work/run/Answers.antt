use Rattle.std.proofs.Common.{◌≡◌, ◌∙◌, ◌+◌, ◌-◌, arith, length, refl, ℕ, sym, subst}
use Rattle.cdcl.specs.Jumps.{IsStage}
use Rattle.cdcl.proofs.analysis.Work.run.Goals as goal

pub entries-init : goal.entries-init
entries-init c =
    let e : c.len-index.result ≡ length c.args.trail.now.entries.items = omega (arith, c.len-index.ensures, c.args.trail.now.entries.ok.0) in
    record {
      room = c.requires.seen;
      within = omega (arith, e);
      kept = λ _ _. refl;
      occurs = λ vars w before. before;
      stage = λ one top stage. let P : ℕ → Type 0 = λ n. IsStage c.args.trail.now.entries.items c.args.trail.now.level n c.args.self.now.seen.items c.args.self.now.kept.items c.args.self.now.level in subst P (sym e) stage;
      derives = rw e c.requires.derives;
    }

pub descend-requires-clause-derives : goal.descend-requires-clause-derives
descend-requires-clause-derives c =
    let e : c.entries.index - 1 + 1 ≡ c.entries.index = omega (arith, c.entries-test.true) in
    rw e c.entries.invariant.derives

pub entries-preserved : goal.entries-preserved
entries-preserved c = record {
  room = c.in_ok-descend.ensures.seen;
  within = omega (arith, c.entries.invariant.within);
  kept = λ root all. c.in_ok-descend.ensures.kept root all ∙ c.entries.invariant.kept root all;
  occurs = λ vars w before. c.in_ok-descend.ensures.occurs vars w (c.entries.invariant.occurs vars w before);
  stage = λ one top stage.
      let e : c.entries.index - 1 + 1 ≡ c.entries.index = omega (arith, c.entries-test.true) in
      let P : ℕ → Type 0 = λ n. IsStage c.args.trail.now.entries.items c.args.trail.now.level n c.entries.self.seen.items c.entries.self.kept.items c.entries.self.level in
      c.in_ok-descend.ensures.stage one top (subst P (sym e) (c.entries.invariant.stage one top stage));
  derives = c.in_ok-descend.ensures.derives;
}

pub returns-clause-derives : goal.returns-clause-derives
returns-clause-derives c = let e : c.entries.index ≡ 0 = omega (arith, c.entries-test.false) in rw e at c.entries.invariant.derives

pub returns-clause-stage : goal.returns-clause-stage
returns-clause-stage c = λ one top stage.
    let e : c.entries.index ≡ 0 = omega (arith, c.entries-test.false) in
    let P : ℕ → Type 0 = λ n. IsStage c.args.trail.now.entries.items c.args.trail.now.level n c.entries.self.seen.items c.entries.self.kept.items c.entries.self.level in
    subst P e (c.entries.invariant.stage one top stage)
