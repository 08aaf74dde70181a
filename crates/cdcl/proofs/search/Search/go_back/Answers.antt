use Rattle.std.proofs.Common.{ℕ, length, sym, subst, arith, refl}
use Rattle.cdcl.specs.Trails.{HasDecision}
use Rattle.cdcl.proofs.Searching.{held-cut}
use Rattle.cdcl.proofs.Guarding.{guards-cut, begun-cut, cut-whole}
use Rattle.cdcl.proofs.search.Search.go_back.Goals as goal

pub backjump-requires : goal.backjump-requires
backjump-requires c = (c.args.self.now.clauses, c.requires.searching.1.trail)

pub returns-clause-ready : goal.returns-clause-ready
returns-clause-ready c = λ ready.
    let s = c.requires.searching.1 in
    let e = c.backjump.ensures in
    record {
      learnt = s.learnt;
      trail = e.trail c.args.self.now.clauses s.trail;
      fits = rw e.room s.fits;
      learnt_fit = rw e.room s.learnt_fit;
      assumed_fit = rw e.room s.assumed_fit;
      holds = λ one.
          let low = c.requires.below in
          let above = ready (omega (arith, e.level)) in
          held-cut (length c.args.self.now.clauses.assumed) c.args.self.now.clauses.assumed c.args.level c.args.self.now.trail.entries.items c.backjump.new.self.entries.items (omega (arith, e.level)) e.cut (above.holds (omega (arith, e.level)));
      begun = λ one. let P : ℕ → Type 0 = λ n. HasDecision n c.backjump.new.self.entries.items in subst P (sym e.level) (begun-cut c.args.level c.args.self.now.trail.level c.args.self.now.trail.entries.items c.backjump.new.self.entries.items s.trail.have_levels c.requires.level e.cut (omega (arith, e.level)));
    }

pub returns-clause-guards : goal.returns-clause-guards
returns-clause-guards c =
    let a = c.args.self.now in
    let e = c.backjump.ensures in
    guards-cut c.args.level a _ e.cut e.level refl refl e.room c.requires.below (omega (arith, c.min-self.ensures, c.len.ensures)) c.requires.guards

pub returns-clause-whole : goal.returns-clause-whole
returns-clause-whole c = λ less. cut-whole c.args.level c.args.self.now c.backjump.new.self.entries.items c.min-self.result c.requires.guards.ahead c.backjump.ensures.cut less (omega (arith, c.min-self.ensures, c.len.ensures, c.backjump.new.self.entries.ok.0))
