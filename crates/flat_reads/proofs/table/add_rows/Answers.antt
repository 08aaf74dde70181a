use Rattle.std.proofs.Common.{◌⊎◌, ◌∷◌, [], ℕ, List, subst, inl, inr}
use Rattle.term_bank.specs.Under.{Among, IsHeld, IsOnly, IsBelow}
use Rattle.term_bank.proofs.Worth.{each}
use Rattle.term_bank.proofs.BankLemmas.{stays, grows_on}
use Rattle.term_bank.proofs.BindingLemmas.{ready, has_shape}
use Rattle.term_bank.proofs.UnderLemmas.{AreHeld, held_for, held_less, are_less, among_front, among_last}
use Rattle.flat_reads.specs.Tables.{is_listed}
use Rattle.flat_reads.proofs.ListLemmas.{listed_more, listed_here, held_grown, below_grown, below_flat}
use Rattle.flat_reads.proofs.table.add_rows.Goals as goal

pub rows-init : goal.rows-init
rows-init c =
    let b = c.args.bank.now in
    let flat = c.args.nodes.now in
    let cut = c.in_ok-numbers.ensures in
    let P = IsOnly (is_listed c.args.table.now) b in
    record {
      grows = stays;
      bank = c.requires.bank;
      table_is = c.requires.table;
      held = held_for b (λ n. ⊥) P c.in_ok-numbers.numbers (λ q h. absurd h) cut.held;
      rooted = each (λ r. Among r.index c.in_ok-numbers.numbers) (λ r. Among r.index c.in_ok-numbers.numbers ⊎ P r.index) flat (λ r h. inl h) cut.rooted;
      below = cut.only;
    }

pub rows-preserved : goal.rows-preserved
rows-preserved c =
    let l = c.rows in
    let h = l.invariant in
    let flat = c.args.nodes.now in
    let k = c.in-Some.number in
    let ns = c.pop.new.self in
    let a = l.bank in
    let b = c.add_row.new.bank in
    let e = c.in_ok-add_row.ensures in
    let old = l.table in
    let new = c.add_row.new.table in
    let P : ℕ → Type 0 = IsOnly (is_listed old) a in
    let Q : ℕ → Type 0 = IsOnly (is_listed new) b in
    let held = subst (λ (ns : List ℕ). IsHeld a P ns) c.in-Some.ensures h.held in
    let rooted = subst (λ (ns : List ℕ). AreHeld P ns flat) c.in-Some.ensures h.rooted in
    let below = subst (λ (ns : List ℕ). (n : ℕ) → Among n ns → IsBelow a flat n) c.in-Some.ensures h.below in
    let found = has_shape a a P ns k stays held in
    let over = ready a a P ns k found.0 stays held found.1 in
    let more : (q : ℕ) → P q → Q q = λ q x. listed_more a b old new q e.grows e.listed.kept x in
    let here : Q k = listed_here a b old new k found.0 e.grows e.listed over.is over.parts_have in
    record {
      grows = grows_on h.grows e.grows;
      bank = e.bank;
      table_is = e.table flat (below_flat a flat k (below k (among_last ns k))) h.table_is;
      held = held_grown a b Q ns e.grows (held_less a P Q ns k more here held);
      rooted = are_less P Q ns k flat more here rooted;
      below = λ n at. below_grown a b flat n e.grows (below n (among_front n ns (k ∷ []) at));
    }

pub returns-clause-listed : goal.returns-clause-listed
returns-clause-listed c =
    let P : ℕ → Type 0 = IsOnly (is_listed c.rows.table) c.rows.bank in
    let rooted = subst (λ (ns : List ℕ). AreHeld P ns c.args.nodes.now) c.in_default.ensures.0 c.rows.invariant.rooted in
    each (λ r. ⊥ ⊎ P r.index) (λ r. P r.index) c.args.nodes.now (λ r x. elim x [ inl y ↦ absurd y | inr y ↦ y ]) rooted
