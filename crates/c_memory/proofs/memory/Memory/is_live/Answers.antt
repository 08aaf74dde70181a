use Rattle.std.proofs.Common.{ap, ◌∙◌, ◌≡◌, ◌+◌, ◌%◌}
use Rattle.c_store.specs.Access.{reaches}
use Rattle.c_memory.proofs.memory.Memory.is_live.Goals as goal

pub returns-clause-exact : goal.returns-clause-exact
returns-clause-exact c =
    λ world.
    let end : c.from.result + c.from-2.result ≡ c.args.address % 4294967296 + c.args.length = cc in
    c.reaches.ensures.exact
    ∙ ap (λ e. reaches c.object.result e) end
    ∙ ap (λ o. reaches o (c.args.address % 4294967296 + c.args.length)) (c.object.ensures world)
