-- What is known of the function that walks the parts of code.
use Rattle.std.specs.Prelude.{ℕ, List, Result, IfOk}
use Rattle.std.specs.declared.alloc.Global.{Global}
use denote.Ref.{Bor, MutBor}
use denote.Param.Members.{Shared}
use Rattle.core_tree.specs.declared.code.Code.{Code}
use Rattle.core_tree.specs.Codes.{code}
use Rattle.term_bank.specs.declared.bank.Bank.{Bank}
use Rattle.term_bank.specs.declared.shape.Shape.{Shape}
use Rattle.term_bank.specs.Values.{Grows}
use Rattle.path_states.specs.declared.state.State.{State}
use Rattle.path_states.specs.States.{AreStates}
use Rattle.path_forms.specs.declared.fault.WalkFault.{WalkFault}
use Rattle.path_forms.specs.declared.frame.Placed.{Placed}
use Rattle.path_forms.specs.Around.{Around}
use Rattle.path_codes.specs.declared.below.Coded.{Coded}
use Rattle.path_codes.specs.Walks.{WalksItem}
use Rattle.path_forms.specs.Calling.{Stays}

abbrev pub Walker : Type 0 → Type 0 → Type 1
Walker C F = Shared F
    (Global × (Bor C × (ℕ × (ℕ × (Bor (List Placed) × (Bor Code × (ℕ × (MutBor Bank × (Bor (List State) × Unit {0})))))))))
    (Result Coded WalkFault × (MutBor Bank × Unit {0}))

-- it walks code of at most this height, in a function with this room
pub record ReachesCode {C X : Type 0} (around : C → Around) (begun : C → List Shape → Type 0) (w : Walker C X) (here : Bor C)
    (room height : ℕ) (f : X) : Type 0 where
  pub callable : (alloc : Global) (frame : Bor (List Placed)) (c : Bor Code) (place : ℕ) (bank : MutBor Bank)
      (states : Bor (List State)) → Stays (begun here.now) bank.now → AreStates bank.now states.now
      → w.pre f (alloc, (here, (room, (height, (frame, (c, (place, (bank, (states, tt)))))))))
  pub walks : (alloc : Global) (frame : Bor (List Placed)) (c : Bor Code) (place : ℕ) (bank later : MutBor Bank)
      (states : Bor (List State)) (r : Result Coded WalkFault)
      → w.post f (alloc, (here, (room, (height, (frame, (c, (place, (bank, (states, tt))))))))) (r, (later, tt))
      → IfOk r (λ y. WalksItem (around here.now) frame.now room (code c.now) bank.now later.now states.now place y)
