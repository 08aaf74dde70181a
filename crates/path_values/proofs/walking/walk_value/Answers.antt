use Rattle.path_forms.proofs.Started.{valued}
use Rattle.path_values.proofs.walking.walk_value.Goals as goal

pub value_of-requires : goal.value_of-requires
value_of-requires g c =
    rw (c.in_ok-going.ensures, c.new.ensures)
    (record { starts = record { stays = c.requires.calls; ready = record { going = c.requires.states } } })

pub returns : goal.returns
returns g c =
    let walked = rw (c.in_ok-going.ensures, c.new.ensures) at c.in_ok-next.ensures.evaluated in
    valued (g.C.Calls.around c.args.scene.now) c.args.frame.now c.args.room c.args.expression.now _ _ c.args.states.now _
    c.args.place _ c.requires.states walked.evaluates
