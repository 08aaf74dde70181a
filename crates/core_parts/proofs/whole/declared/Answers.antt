use Rattle.core_parts.proofs.whole.declared.Goals as goal

pub returns : goal.returns
returns g c =
    let h = c.in_ok-begun.ensures in
    record {
      codes = h.codes;
      lasting = record { each = h.lasting.each; all = h.lasting.all; set = h.lasting.set };
      after = h.after;
      marks = h.marks;
    }
