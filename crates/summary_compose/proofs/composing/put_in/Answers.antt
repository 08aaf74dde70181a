use Rattle.term_bank.specs.declared.sort.Node.{Node}
use Rattle.term_bank.specs.Bindings.{HasImage}
use Rattle.term_bank.specs.Images.{AreImages, image_at}
use Rattle.summary_compose.specs.Renaming.{each_of, state_nodes, Pictures}
use Rattle.summary_compose.proofs.Renamed.{are_states, same_standing}
use Rattle.summary_compose.proofs.Roots.{roots_stand}
use Rattle.summary_compose.proofs.composing.put_in.Goals as goal

pub substitute-requires-clause-roots : goal.substitute-requires-clause-roots
substitute-requires-clause-roots c =
    rw (c.as_slice.ensures, c.in_ok-roots.ensures) (roots_stand c.args.bank.now c.args.states.now c.requires.states)

pub returns : goal.returns
returns c =
    let old = c.args.bank.now in
    let new = c.substitute.new.self in
    let put = c.args.binding.now in
    let ss = c.args.states.now in
    let f : Node → Node = image_at c.in_ok-images.images in
    let first : AreImages (HasImage old new put) c.in_ok-roots.roots c.in_ok-nodes.nodes = rw c.as_slice.ensures at c.in_ok-nodes.ensures.nodes in
    let second : AreImages (HasImage old new put) c.as_slice-2.result.now c.as_slice-3.result.now =
    rw (c.as_slice-2.ensures, c.as_slice-3.ensures) first in
    let found : Pictures old new put f c.as_slice-2.result.now = c.in_ok-images.ensures old new put second in
    let pictures : Pictures old new put f (each_of state_nodes ss) = rw (c.as_slice-2.ensures, c.in_ok-roots.ensures) at found in
    record {
      grows = c.in_ok-nodes.ensures.grows;
      states = rw c.in_ok-ends.ensures (are_states old new put f ss c.requires.states pictures);
      same = λ e v w m k. rw c.in_ok-ends.ensures (same_standing old new put f e v w m k ss pictures);
    }
