use Rattle.std.proofs.Common.{subst, ◌∙◌}
use Rattle.std.specs.Prelude.{IfSome}
use Rattle.bitvectors.specs.Blasts.{IsBlasted, IsReady}
use Rattle.path_states.proofs.Growth.{states_grown}
use Rattle.query_core.proofs.QueryLemmas.{query-made, whole-is}
use Rattle.query_core.proofs.query.Query.new.Goals as goal

pub returns-in_ok-query-in-Some-clause-query : goal.returns-in_ok-query-in-Some-clause-query
returns-in_ok-query-in-Some-clause-query c =
    let bank = c.blast_reads.new.bank in
    let read = subst (λ o. IfSome o (IsBlasted bank c.as_slice.result.now)) c.in-Some.is c.in_ok-blast_reads.ensures.blasted in
    let blasted = subst (λ rs. IsBlasted bank rs c.in-Some.blasted) (c.as_slice.ensures ∙ c.in_ok-roots.ensures) read in
    let ready = subst (λ o. IfSome o (IsReady bank)) c.in-Some.is c.in_ok-blast_reads.ensures.ready in
    λ t a fs h.
    query-made t a c.args.bank bank fs c.args.formula c.in-Some.blasted c.in_ok-query-in-Some.query c.blast_reads.ensures.grows
    c.blast_reads.ensures.bank blasted ready (states_grown c.blast_reads.ensures.grows c.args.formula.states c.requires.ends)
    c.in_ok-query-in-Some.ensures h

pub returns-in_ok-query-in-Some-clause-whole : goal.returns-in_ok-query-in-Some-clause-whole
returns-in_ok-query-in-Some-clause-whole c =
    let bank = c.blast_reads.new.bank in
    let read = subst (λ o. IfSome o (IsBlasted bank c.as_slice.result.now)) c.in-Some.is c.in_ok-blast_reads.ensures.blasted in
    let blasted = subst (λ rs. IsBlasted bank rs c.in-Some.blasted) (c.as_slice.ensures ∙ c.in_ok-roots.ensures) read in
    let ready = subst (λ o. IfSome o (IsReady bank)) c.in-Some.is c.in_ok-blast_reads.ensures.ready in
    whole-is bank c.in-Some.blasted c.args.formula c.in_ok-query-in-Some.query blasted ready c.blast_reads.ensures.bank
    (states_grown c.blast_reads.ensures.grows c.args.formula.states c.requires.ends) c.in_ok-query-in-Some.ensures
