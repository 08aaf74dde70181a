use Rattle.std.proofs.Common.{sym, subst, ◌∙◌, Some}
use Rattle.query_core.specs.Claims.{Keeps}
use Rattle.query_core.proofs.KeepLemmas.{keeps-lost, keeps-none, keeps-put}
use Rattle.query_core.proofs.query.Query.make.Goals as goal

pub returns-in_err-made-in-Some-clause-keeps : goal.returns-in_err-made-in-Some-clause-keeps
returns-in_err-made-in-Some-clause-keeps c = rw c.replace.ensures.after (keeps-lost c.args.self.now)

pub returns-in_err-index-in-Some-clause-keeps : goal.returns-in_err-index-in-Some-clause-keeps
returns-in_err-index-in-Some-clause-keeps c =
    let h = c.in_ok-made-in-Some.ensures in
    subst (Keeps c.args.self.now) (sym c.in_err-index-in-Some.ensures.failed)
    (keeps-none c.args.self.now c.in-Some.bank c.in_ok-made-in-Some.made.bank (sym c.replace.ensures.value ∙ c.in-Some.is) h.grows h.stands)

pub returns-in-None-clause-keeps : goal.returns-in-None-clause-keeps
returns-in-None-clause-keeps c = rw c.replace.ensures.after (keeps-lost c.args.self.now)

pub returns-in_ok-index-in-Some-clause-found : goal.returns-in_ok-index-in-Some-clause-found
returns-in_ok-index-in-Some-clause-found c =
    (keeps-put c.args.self.now c.in-Some.bank c.args.watch c.args.value.now c.in_ok-made-in-Some.made c.in_ok-index-in-Some.index c.put.new.self
    (sym c.replace.ensures.value ∙ c.in-Some.is) c.requires.new c.in_ok-made-in-Some.ensures c.in_ok-index-in-Some.ensures.others).1

pub returns-in_ok-index-in-Some-clause-keeps : goal.returns-in_ok-index-in-Some-clause-keeps
returns-in_ok-index-in-Some-clause-keeps c =
    (keeps-put c.args.self.now c.in-Some.bank c.args.watch c.args.value.now c.in_ok-made-in-Some.made c.in_ok-index-in-Some.index c.put.new.self
    (sym c.replace.ensures.value ∙ c.in-Some.is) c.requires.new c.in_ok-made-in-Some.ensures c.in_ok-index-in-Some.ensures.others).0
