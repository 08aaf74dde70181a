use Rattle.std.proofs.Common.{ap, ◌∙◌}
use Rattle.cdcl.specs.Sources.{named}
use Rattle.cdcl.specs.declared.clauses.ClauseId.TheVariants.{Given}
use Rattle.cdcl.proofs.Naming.{given-named}
use Rattle.cdcl.proofs.Guarding.{said-undecided, said-satisfied, said-implied, code-fits, sound-goes, enters-true, enters-waits, goes-guards}
use Rattle.cdcl.proofs.search.Search.enter.Goals as goal

pub heed-requires-clause-named : goal.heed-requires-clause-named
heed-requires-clause-named c = given-named c.args.self.now.clauses c.args.index c.requires.within

pub wait-requires-clause-first : goal.wait-requires-clause-first
wait-requires-clause-first c =
    let a = c.args.self.now in
    let b = c.heed.new.self in
    let e = c.in_ok-heed.ensures in
    let t = given-named a.clauses c.args.index c.requires.within in
    let u = said-undecided a.trail b.trail t.0 c.in-Undecided.first c.in-Undecided.second c.in_ok-heed.field-0 c.in-Undecided.is (e.says t.0 t.1) in
    code-fits b (Given c.args.index) t.0 c.in-Undecided.first e.ready (sound-goes a b e.goes e.watches c.requires.guards.sound) (ap (λ k. named 1 k (Given c.args.index)) e.goes.same ∙ t.1) u.0

pub wait-requires-clause-second : goal.wait-requires-clause-second
wait-requires-clause-second c =
    let a = c.args.self.now in
    let b = c.heed.new.self in
    let e = c.in_ok-heed.ensures in
    let t = given-named a.clauses c.args.index c.requires.within in
    let u = said-undecided a.trail b.trail t.0 c.in-Undecided.first c.in-Undecided.second c.in_ok-heed.field-0 c.in-Undecided.is (e.says t.0 t.1) in
    code-fits b (Given c.args.index) t.0 c.in-Undecided.second e.ready (sound-goes a b e.goes e.watches c.requires.guards.sound) (ap (λ k. named 1 k (Given c.args.index)) e.goes.same ∙ t.1) u.2

pub returns-in_ok-wait-in-Undecided-clause-guards : goal.returns-in_ok-wait-in-Undecided-clause-guards
returns-in_ok-wait-in-Undecided-clause-guards c = λ _.
    let a = c.args.self.now in
    let b = c.heed.new.self in
    let e = c.in_ok-heed.ensures in
    let t = given-named a.clauses c.args.index c.requires.within in
    let u = said-undecided a.trail b.trail t.0 c.in-Undecided.first c.in-Undecided.second c.in_ok-heed.field-0 c.in-Undecided.is (e.says t.0 t.1) in
    enters-waits c.args.index a b c.in-Undecided.first c.in-Undecided.second c.wait.new.self t.0 e.ready t.1 e.goes e.watches u c.in_ok-wait-in-Undecided.ensures c.requires.guards

pub returns-in-Falsified-clause-left : goal.returns-in-Falsified-clause-left
returns-in-Falsified-clause-left c = λ _.
    let a = c.args.self.now in
    let b = c.heed.new.self in
    let e = c.in_ok-heed.ensures in
    goes-guards c.args.index a b e.goes e.watches c.requires.guards

pub returns-in-Satisfied-clause-guards : goal.returns-in-Satisfied-clause-guards
returns-in-Satisfied-clause-guards c = λ _.
    let a = c.args.self.now in
    let b = c.heed.new.self in
    let e = c.in_ok-heed.ensures in
    enters-true c.args.index a b _ e.ready e.goes e.watches c.requires.root (λ t is. said-satisfied a.trail b.trail t _ c.in_ok-heed.field-0 c.in-Satisfied.is (e.says t is)) c.requires.guards

pub returns-in-Implied-clause-guards : goal.returns-in-Implied-clause-guards
returns-in-Implied-clause-guards c = λ _.
    let a = c.args.self.now in
    let b = c.heed.new.self in
    let e = c.in_ok-heed.ensures in
    enters-true c.args.index a b _ e.ready e.goes e.watches c.requires.root (λ t is. said-implied a.trail b.trail t _ c.in_ok-heed.field-0 c.in-Implied.is (e.says t is)) c.requires.guards
