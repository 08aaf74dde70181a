use Rattle.std.proofs.Common.{◌≡◌, ◌∙◌, ℕ, List, true, ap, sym, Some}
use Rattle.std.specs.Prelude.{slice_get}
use Rattle.term_bank.specs.contracts.shape.ShapePartialEq.TheImpl.{ghosts}
use Rattle.term_bank.specs.contracts.shape.ShapeEq.TheImpl.Laws.{laws-law}
use Rattle.term_bank.specs.declared.shape.Shape.{Shape}
use Rattle.term_bank.proofs.Equality.{shape_true}
use Rattle.term_bank.proofs.BankLemmas.{bank_inserted, grows_inserted, node_at, stays}
use Rattle.term_bank.proofs.bank.Bank.insert.Goals as goal
use Rattle.term_bank.proofs.bank.Bank.insert.Goals.{in-Ok, in-Err}

same : (s : Shape) → ghosts.eq s s ≡ true
same s = laws-law.refl s

-- where the shape stands among the new ones
stands : (xs : List Shape) (k : Shape) (shape : Shape) (i : ℕ) → slice_get xs i ≡ Some k → ghosts.eq shape k ≡ true → slice_get xs i ≡ Some shape
stands xs k shape i is same = is ∙ ap (λ t. Some t) (sym (shape_true shape k same))

pub invariant_of-self : goal.invariant_of-self
invariant_of-self c = elim c.match-insert_full.branch [
  | in-Ok w ↦ rw w.in-Ok.ensures.keys (bank_inserted ghosts.eq same c.self.inside.shapes.keys c.args.shape c.self.invariant (rw c.self.view_is c.requires))
  | in-Err w ↦ rw w.in-Err.ensures.err c.self.invariant
]

pub returns-clause-bank : goal.returns-clause-bank
returns-clause-bank c = invariant_of-self c

pub returns-clause-grows : goal.returns-clause-grows
returns-clause-grows c = rw (← c.self.view_is) (elim c.match-insert_full.branch [
  | in-Ok w ↦ rw w.in-Ok.ensures.keys (grows_inserted ghosts.eq c.self.inside.shapes.keys c.args.shape)
  | in-Err w ↦ rw w.in-Err.ensures.err stays
])

pub returns-clause-node : goal.returns-clause-node
returns-clause-node c = elim c.match-insert_full.branch [
  | in-Ok w ↦ rw w.result-is (let st = w.in-Ok.ensures.stored in node_at c.insert_full.new.self.keys (record { index = w.in-Ok.index; sort = w.sort.result }) c.args.shape (stands c.insert_full.new.self.keys st.0 c.args.shape w.in-Ok.index st.1 st.2) (sym w.sort.ensures))
  | in-Err w ↦ rw w.result-is tt
]

pub returns-clause-value : goal.returns-clause-value
returns-clause-value c = elim c.match-insert_full.branch [
  | in-Ok w ↦ rw w.result-is (let st = w.in-Ok.ensures.stored in record { is = λ e v m. m.has w.in-Ok.index c.args.shape (stands c.insert_full.new.self.keys st.0 c.args.shape w.in-Ok.index st.1 st.2) })
  | in-Err w ↦ rw w.result-is tt
]

pub returns-clause-again : goal.returns-clause-again
returns-clause-again c = λ k is. elim c.match-insert_full.branch [
  | in-Ok w ↦ rw w.result-is (let st = w.in-Ok.ensures.stored in
      let bank = invariant_of-self c in
      let grows = returns-clause-grows c in
      bank.shared w.in-Ok.index k c.args.shape (stands c.insert_full.new.self.keys st.0 c.args.shape w.in-Ok.index st.1 st.2) (grows.kept k c.args.shape is))
  | in-Err w ↦ rw w.result-is tt
]

pub returns-clause-shape : goal.returns-clause-shape
returns-clause-shape c = elim c.match-insert_full.branch [
  | in-Ok w ↦ rw w.result-is (let st = w.in-Ok.ensures.stored in stands c.insert_full.new.self.keys st.0 c.args.shape w.in-Ok.index st.1 st.2)
  | in-Err w ↦ rw w.result-is tt
]
