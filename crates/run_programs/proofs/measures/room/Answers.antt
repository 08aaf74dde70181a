use Rattle.std.proofs.Common.{◌+◌, refl, ap, ◌∙◌}
use Rattle.run_programs.proofs.MainCall.{whole_room}
use Rattle.run_programs.proofs.measures.room.Goals as goal

pub returns : goal.returns
returns c =
    whole_room c.args.core.now c.new-world.result c.args.bounds.now c.in_ok-function.function.now _ c.in_ok-own.own
    c.in_ok-inside.inside c.in_ok-all.all c.new-world.ensures.words c.new-world.ensures.bytes
    (c.in_ok-own.ensures.sum ∙ ap (λ e. c.args.core.now.places + e) c.entry_room.ensures) c.in_ok-function.ensures refl
    c.in_ok-inside.ensures c.in_ok-all.ensures.sum
