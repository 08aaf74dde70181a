use Rattle.path_forms.proofs.sides.take_yes.Goals as goal

pub returns : goal.returns
returns c =
    let branches = rw c.replace-now.ensures.value at c.in_ok-yes.ensures in
    record {
      ready = branches.ready;
      last = record { side = c.in_ok-yes.field-0.no; ended = c.in_ok-yes.field-0.ended };
      waits = c.in_ok-push.ensures.ok;
      branches = branches;
    }
