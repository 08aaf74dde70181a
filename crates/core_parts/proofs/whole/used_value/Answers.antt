use Rattle.core_parts.proofs.whole.used_value.Goals as goal

pub returns : goal.returns
returns g c =
    let h = c.in_ok-x.ensures in
    record { told = h.told; value = h.value; after = h.after; marks = h.marks }
