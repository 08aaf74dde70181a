use Rattle.std.proofs.Common.{◌++◌, ◌∷◌, [], sym, subst}
use Rattle.std.specs.Prelude.{OnOk}
use Rattle.flat_reads.specs.declared.answers.Task.TheVariants.{Ask, Make}
use Rattle.flat_reads.specs.Answers.{IsTask, IsReady, IsReadyFor, Goes}
use Rattle.flat_reads.proofs.AnswerLemmas.{task_last, held_last, ask_goes, make_goes, on_ok}
use Rattle.flat_reads.proofs.answers.perform.Goals as goal

pub ask-requires-clause-askable : goal.ask-requires-clause-askable
ask-requires-clause-askable c = subst (IsTask c.args.bank.now) c.in-Ask.is (task_last c.args.bank.now c.args.tasks.now c.args.task c.requires.ready.tasks_are)

pub make-requires-clause-choice : goal.make-requires-clause-choice
make-requires-clause-choice c = subst (IsTask c.args.bank.now) c.in-Make.is (task_last c.args.bank.now c.args.tasks.now c.args.task c.requires.ready.tasks_are)

pub make-requires-clause-yes : goal.make-requires-clause-yes
make-requires-clause-yes c = (subst (IsReadyFor c.args.answers.now []) c.in-Make.is (held_last c.args.answers.now c.args.tasks.now c.args.task c.requires.ready.held)).0

pub make-requires-clause-no : goal.make-requires-clause-no
make-requires-clause-no c = (subst (IsReadyFor c.args.answers.now []) c.in-Make.is (held_last c.args.answers.now c.args.tasks.now c.args.task c.requires.ready.held)).1

pub returns-in-Ask-clause-goes : goal.returns-in-Ask-clause-goes
returns-in-Ask-clause-goes c =
    let a = c.args.bank.now in
    let b = c.ask.new.bank in
    let answers = c.args.answers.now in
    let ts = c.args.tasks.now in
    let after = c.ask.new.tasks in
    let q = c.in-Ask.question in
    let ready = subst (λ t. IsReady a answers (ts ++ t ∷ [])) c.in-Ask.is c.requires.ready in
    subst (λ t. OnOk c.ask.result (Goes b answers answers (ts ++ t ∷ []) after)) (sym c.in-Ask.is)
    (on_ok c.ask.result _ (Goes b answers answers (ts ++ Ask q ∷ []) after) c.ask.ensures.opens (λ o. ask_goes a b answers ts q after c.ask.ensures.grows ready o))

pub returns-in-Make-clause-goes : goal.returns-in-Make-clause-goes
returns-in-Make-clause-goes c =
    let a = c.args.bank.now in
    let b = c.make.new.bank in
    let old = c.args.answers.now in
    let new = c.make.new.answers in
    let ts = c.args.tasks.now in
    let q = c.in-Make.question in
    let choice = c.in-Make.choice in
    let ready = subst (λ t. IsReady a old (ts ++ t ∷ [])) c.in-Make.is c.requires.ready in
    subst (λ t. OnOk c.make.result (Goes b old new (ts ++ t ∷ []) ts)) (sym c.in-Make.is)
    (on_ok c.make.result _ (Goes b old new (ts ++ Make q choice ∷ []) ts) c.make.ensures.made (λ made. make_goes a b old new ts q choice c.make.ensures.grows ready made))
