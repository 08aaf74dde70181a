use Rattle.std.proofs.Common.{◌≡◌, ◌++◌, map}
use Rattle.std.proofs.lemmas.List.Filters.{dedup_is}
use Rattle.std.proofs.lemmas.List.Kept.{Contains-dedup_nat, Contains-from_dedup}
use Rattle.std.proofs.lemmas.List.Sorted.{Contains-permutation, IsPermutation-sym}
use Rattle.std.proofs.lemmas.Map.Keys.{IsStrictlyIncreasing-dedup}
use Rattle.proof_check.specs.Steps.{clause_of}
use Rattle.proof_check.specs.Room.{variables_of}
use Rattle.proof_check.proofs.RoomLemmas.{gathered}
use Rattle.proof_check.proofs.checker.rising_variables.Goals as goal

pub returns-clause-rising : goal.returns-clause-rising
returns-clause-rising c =
    let is = dedup_is _ _ _ c.dedup.ensures.filtered in
    rw is (IsStrictlyIncreasing-dedup _ c.sort_unstable.ensures.sorted)

pub returns-clause-all : goal.returns-clause-all
returns-clause-all c =
    let is = dedup_is _ _ _ c.dedup.ensures.filtered in
    let all : c.push_variables-2.new.variables.items ≡ variables_of c.args.formula.now ++ variables_of (map clause_of c.args.steps.now) =
    gathered c.new-variables.result.items c.push_variables.new.variables.items c.push_variables-2.new.variables.items c.literals.result.now c.literals-2.result.now c.args.formula.now (map clause_of c.args.steps.now) c.new-variables.ensures.items c.in_ok-push_variables.ensures c.literals.ensures c.in_ok-push_variables-2.ensures c.literals-2.ensures in
    let moved = rw all at c.sort_unstable.ensures.permutation in
    λ x h. rw is (Contains-dedup_nat _ x (Contains-permutation _ _ x moved h))

pub returns-clause-only : goal.returns-clause-only
returns-clause-only c =
    let is = dedup_is _ _ _ c.dedup.ensures.filtered in
    let all : c.push_variables-2.new.variables.items ≡ variables_of c.args.formula.now ++ variables_of (map clause_of c.args.steps.now) =
    gathered c.new-variables.result.items c.push_variables.new.variables.items c.push_variables-2.new.variables.items c.literals.result.now c.literals-2.result.now c.args.formula.now (map clause_of c.args.steps.now) c.new-variables.ensures.items c.in_ok-push_variables.ensures c.literals.ensures c.in_ok-push_variables-2.ensures c.literals-2.ensures in
    let moved = rw all at c.sort_unstable.ensures.permutation in
    λ x h. Contains-permutation _ _ x (IsPermutation-sym _ _ moved) (Contains-from_dedup _ _ x (rw is at h))
