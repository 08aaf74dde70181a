use Rattle.std.proofs.Common.{rules, ◌≡◌, ◌∷◌, ◌++◌, refl, sym, ap, ◌∙◌}
use Rattle.c_memory.proofs.Cells.{on_ok}
use Rattle.core_tree.specs.Programs.{frame}
use Rattle.code_steps.specs.Blocks.{made_all}
use Rattle.code_steps.proofs.Giving.{add_parameter}
use Rattle.code_steps.proofs.parameters.+add_parameters.Goals as goal

pub returns-in_ok-next-in-Some : goal.returns-in_ok-next-in-Some
returns-in_ok-next-in-Some t c =
    let split : c.args.parameters.now ≡ c.in-Some.parameter.now ∷ c.in-Some.rest.now = search rules in
    on_ok c.add_parameters.result
    (λ rest. add_parameter c.args.all.now _ _ c.in-Some.parameter.now c.in-Some.rest.now
    (record { at = c.in-Some.parameter.now.at; place = c.args.base; size = c.size_in.result }) c.args.base
    c.in_ok-next-in-Some.next refl refl c.size_in.ensures c.in_ok-next-in-Some.ensures c.in_ok-push-in-Some.ensures.ok
    rest
    ∙ ap (λ qs. made_all c.args.all.now ++ frame c.args.base qs) (sym split))
    c.add_parameters.ensures
