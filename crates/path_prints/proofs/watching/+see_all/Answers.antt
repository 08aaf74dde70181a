use Rattle.std.proofs.Common.{rules}
use Rattle.term_bank.proofs.TermLemmas.{term_grown}
use Rattle.path_prints.proofs.ArgumentLemmas.{numbers_put}
use Rattle.path_prints.proofs.WatchLemmas.{sees_more}
use Rattle.path_prints.proofs.watching.+see_all.Goals as goal

pub see_all-requires : goal.see_all-requires
see_all-requires t c =
    let g = c.in_ok-value.ensures.grows in (
      search rules,
      (
        term_grown _ _ _ c.args.memory g c.requires.memory,
        numbers_put c.args.bank.now c.see.new.bank c.args.out.now c.push.new.self c.in_ok-value.value g c.in_ok-push.ensures.ok c.requires.out
            c.in_ok-value.ensures.number,
      ),
    )

pub returns : goal.returns
returns t c =
    rw c.in-Some.ensures.cases.0
    (sees_more c.args.bank.now c.see.new.bank c.see_all.new.bank c.args.frame.now c.args.room c.args.memory c.in-Some.x.now c.in-Some.rest.now
    c.in_ok-value.value c.args.out.now c.see_all.new.out c.in_ok-value.ensures (rw c.in_ok-push.ensures.ok at c.in_ok-see_all.ensures))
