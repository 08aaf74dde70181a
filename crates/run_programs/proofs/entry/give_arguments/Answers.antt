use Rattle.std.proofs.Common.{rules, sym, ap, ◌∙◌}
use Rattle.c_means.specs.Units.{world_of}
use Rattle.core_running.specs.Running.{done}
use Rattle.run_programs.proofs.MainCall.{given}
use Rattle.run_programs.proofs.entry.give_arguments.Goals as goal

pub returns-clause-gives : goal.returns-clause-gives
returns-clause-gives c =
    given c.args.here.now.core.now c.args.here.now.world.now c.meet_places.new.m.world c.args.here.now.bounds.now
    c.args.place c.argument_room.result (done c.args.m.now) (done c.meet_places.new.m) (done c.make.new.m)
    (search rules) (c.requires.same_world ∙ sym (ap (λ w. world_of w) c.in_ok-meet_places.ensures.world))
    c.argument_room.ensures c.in_ok-meet_places.ensures.meets c.in_ok-make.ensures.makes
