use Rattle.std.proofs.Common.{◌≡◌, ◌<◌, ℕ, zero, suc, true, false, ◌⊎◌, inl, inr, arith, length}
use Rattle.term_bank.specs.Shapes.{parts}
use Rattle.term_bank.specs.Under.{Among, In, numbers_of}
use Rattle.term_bank.proofs.Worth.{each}
use Rattle.term_bank.proofs.BankLemmas.{node_below, shape_at}
use Rattle.term_bank.proofs.UnderLemmas.{none_in, each_among, among_has, more_inside, more_below, more_held, passed, are_more, held_for, limit_falls, below_root, below_pending, below_numbers}
use Rattle.term_bank.proofs.under.nodes_under.Goals as goal

none_left : (n : ℕ) → (0 < n → false ≡ true) → n ≡ 0
none_left zero h = omega arith
none_left (suc n) h = absurd (let no : false ≡ true = h (omega arith) in cc)

pub nodes-init : goal.nodes-init
nodes-init c =
    let set = c.add_nodes.new.set in
    let adds = c.in_ok-add_nodes.ensures in
    let inside : (q : ℕ) → In set q → q < length c.args.bank.now = λ q h. elim (adds.only q h) [
      | inl x ↦ absurd (none_in c.new-pending.result q c.new-pending.ensures.len x)
      | inr x ↦ among_has (λ n. n < length c.args.bank.now) c.args.roots.now q (each _ (λ r. r.index < length c.args.bank.now) c.args.roots.now (λ r is. node_below c.args.bank.now r is) c.requires) x
    ] in
    rw c.new-numbers.ensures (record {
      inside = inside;
      held = tt;
      rooted = each (λ r. Among r.index (numbers_of c.args.roots.now)) (λ r. ⊥ ⊎ In set r.index) c.args.roots.now (λ r x. inr (adds.added r.index x)) (each_among c.args.roots.now);
      below_pending = λ q h. elim (adds.only q h) [
        | inl x ↦ absurd (none_in c.new-pending.result q c.new-pending.ensures.len x)
        | inr x ↦ below_root c.args.bank.now c.args.roots.now q x
      ];
      below_numbers = λ q h. absurd h;
    })

pub nodes-smaller : goal.nodes-smaller
nodes-smaller c =
    let k = c.in-Some.number in
    let found = shape_at c.args.bank.now k (c.nodes.invariant.inside k c.in-Some.ensures.member) in
    limit_falls c.nodes.pending c.add_parts_of.new.set k c.in-Some.ensures.member
    (more_below c.args.bank.now c.nodes.pending c.pop_last.new.self c.add_parts_of.new.set k found.0 c.add_parts_of.ensures.bank found.1 c.in-Some.ensures.updates c.in-Some.ensures.greatest (c.in_ok-add_parts_of.ensures.parts found.0 found.1))

pub nodes-preserved : goal.nodes-preserved
nodes-preserved c =
    let k = c.in-Some.number in
    let shapes = c.args.bank.now in
    let found = shape_at shapes k (c.nodes.invariant.inside k c.in-Some.ensures.member) in
    let adds = c.in_ok-add_parts_of.ensures.parts found.0 found.1 in
    let u = c.in-Some.ensures.updates in
    rw c.in_ok-push.ensures.ok (record {
      inside = more_inside shapes c.nodes.pending c.pop_last.new.self c.add_parts_of.new.set k found.0 c.add_parts_of.ensures.bank found.1 u adds c.nodes.invariant.inside;
      held = more_held shapes c.nodes.pending c.pop_last.new.self c.add_parts_of.new.set k found.0 c.nodes.numbers found.1 u adds c.nodes.invariant.held;
      rooted = are_more (In c.nodes.pending) (In c.add_parts_of.new.set) c.nodes.numbers k c.args.roots.now (passed c.nodes.pending c.pop_last.new.self c.add_parts_of.new.set k (numbers_of (parts found.0)) u adds) c.nodes.invariant.rooted;
      below_pending = below_pending shapes c.args.roots.now c.nodes.pending c.pop_last.new.self c.add_parts_of.new.set k found.0 found.1 u adds c.in-Some.ensures.member c.nodes.invariant.below_pending;
      below_numbers = below_numbers shapes c.args.roots.now c.nodes.numbers k (c.nodes.invariant.below_pending k c.in-Some.ensures.member) c.nodes.invariant.below_numbers;
    })

pub returns : goal.returns
returns c =
    let empty : length c.nodes.pending.keys ≡ 0 = none_left _ c.in_default.ensures.variant.1 in
    record {
      rooted = each (λ r. Among r.index c.nodes.numbers ⊎ In c.nodes.pending r.index) (λ r. Among r.index c.nodes.numbers) c.args.roots.now (λ r x. elim x [ inl y ↦ y | inr y ↦ absurd (none_in c.nodes.pending r.index empty y) ]) c.nodes.invariant.rooted;
      held = held_for c.args.bank.now (In c.nodes.pending) (λ n. ⊥) c.nodes.numbers (λ q y. none_in c.nodes.pending q empty y) c.nodes.invariant.held;
      only = c.nodes.invariant.below_numbers;
    }
