use Rattle.path_forms.proofs.sides.take_no.Goals as goal

pub returns : goal.returns
returns c =
    let branches = rw c.replace-now.ensures.value at c.in_ok-yes.ensures in
    record {
      ready = branches.other;
      last = record { side = c.in_ok-yes.field-0.yes; ended = c.in_ok-yes.field-0.ended };
      waits = c.in_ok-push.ensures.ok;
      branches = branches;
    }
