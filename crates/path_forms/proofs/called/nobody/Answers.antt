use Rattle.std.proofs.Common.{ap}
use Rattle.term_bank.proofs.BankLemmas.{weaken, grows_on}
use Rattle.term_bank.proofs.TermLemmas.{term_grown}
use Rattle.path_forms.proofs.called.nobody.Goals as goal

pub returns : goal.returns
returns c =
    let behind = grows_on c.in_ok-memory.ensures.grows c.in_ok-events.ensures.grows in
    rw c.new.ensures (record {
      grows = grows_on c.in_ok-guard.ensures.grows behind;
      state = record {
        guard = term_grown _ _ _ _ behind c.in_ok-guard.ensures.node;
        kind = tt;
        memory = term_grown _ _ _ _ c.in_ok-events.ensures.grows c.in_ok-memory.ensures.node;
        value = tt;
        events = c.in_ok-events.ensures.node;
        operands = tt;
      };
      nobody = λ e v m. ap (λ w. w.truth) (c.in_ok-guard.ensures.value.is e v (weaken behind m));
    })
