use Rattle.std.proofs.Common.{refl, arith, ◌∙◌}
use Rattle.flat_reads.proofs.earlier.asked_object.Goals as goal

pub changes-init : goal.changes-init
changes-init c = record { stands = c.requires.memory; same = record { same = λ e v m. refl }; most = omega arith; under = record { under = λ b g q h. h } }

pub changes-preserved : goal.changes-preserved
changes-preserved c =
    let h = c.changes.invariant in
    let b = c.in-Some.ensures in
    record {
      stands = b.stands;
      same = record { same = λ e v m. h.same.same e v m ∙ b.same.same e v m };
      most = omega (arith, h.most, b.smaller);
      under = record { under = λ l g q x. b.under.under l g q (h.under.under l g q x) };
    }

pub returns : goal.returns
returns c =
    let h = c.changes.invariant in
    record { seen = c.changes.earliest; is = c.of.ensures; stands = h.stands; most = h.most; same = h.same; under = h.under }
