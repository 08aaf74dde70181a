use Rattle.std.proofs.Common.{◌≡◌, ◌<◌, refl, Some, length}
use Rattle.std.specs.Prelude.{slice_get}
use Rattle.std.proofs.lemmas.Option.{slice_get_read}
use Rattle.path_states.proofs.Paths.{state_of}
use Rattle.path_states.proofs.Joined.{merged_at, more_pushed}
use Rattle.path_states.proofs.joining.join_one.Goals as goal

pub merge-requires-clause-first : goal.merge-requires-clause-first
merge-requires-clause-first c =
    let inside : c.in-Some.at < length c.args.states.now = rw c.as_slice.ensures at (c.partner.ensures.within c.in-Some.at c.in-Some.is) in
    let found : slice_get c.args.states.now c.in-Some.at ≡ Some c.index-as_slice-at.result =
    slice_get_read c.args.states.now (length c.args.states.now) c.in-Some.at c.index-as_slice-at.result refl inside (rw c.as_slice-in-Some.ensures at c.index-as_slice-at.is) in
    state_of _ c.in-Some.at c.args.states.now c.index-as_slice-at.result c.requires.states found

pub merge-requires-clause-alike : goal.merge-requires-clause-alike
merge-requires-clause-alike c =
    let inside : c.in-Some.at < length c.args.states.now = rw c.as_slice.ensures at (c.partner.ensures.within c.in-Some.at c.in-Some.is) in
    let found : slice_get c.args.states.now c.in-Some.at ≡ Some c.index-as_slice-at.result =
    slice_get_read c.args.states.now (length c.args.states.now) c.in-Some.at c.index-as_slice-at.result refl inside (rw c.as_slice-in-Some.ensures at c.index-as_slice-at.is) in
    c.partner.ensures.alike c.in-Some.at c.index-as_slice-at.result c.in-Some.is (rw c.as_slice.ensures found)

pub returns-in_ok-merged-in-Some : goal.returns-in_ok-merged-in-Some
returns-in_ok-merged-in-Some c =
    let inside : c.in-Some.at < length c.args.states.now = rw c.as_slice.ensures at (c.partner.ensures.within c.in-Some.at c.in-Some.is) in
    let found : slice_get c.args.states.now c.in-Some.at ≡ Some c.index-as_slice-at.result =
    slice_get_read c.args.states.now (length c.args.states.now) c.in-Some.at c.index-as_slice-at.result refl inside (rw c.as_slice-in-Some.ensures at c.index-as_slice-at.is) in
    λ room. rw c.set.ensures
    (merged_at room _ _ c.args.states.now c.in-Some.at c.args.state.now c.index-as_slice-at.result c.in_ok-merged-in-Some.merged found
    c.requires.states c.in_ok-merged-in-Some.ensures)

pub returns-in_ok-push-in-None : goal.returns-in_ok-push-in-None
returns-in_ok-push-in-None c =
    λ room. rw (c.in_ok-push-in-None.ensures.ok, c.in_ok-copy-in-None.ensures)
    (more_pushed room _ c.args.states.now c.args.state.now c.requires.states c.requires.state)
