-- What lives throughout the run, before any initializer is evaluated (C99 5.1.2, 6.2.4p3).
use Rattle.std.specs.Prelude.{◌≡◌, List, [], ◌∷◌}
use Rattle.c_store.specs.Store.{Store, start, make, initial}
use Rattle.core_tree.specs.declared.program.LastingObject.{LastingObject}
use Rattle.core_tree.specs.Programs.{filled_with}
use Rattle.term_bank.specs.declared.sort.Sort.TheVariants.{Memory}
use Rattle.term_bank.specs.declared.sort.Node.{Node}
use Rattle.term_bank.specs.declared.shape.Shape.{Shape}
use Rattle.term_bank.specs.Terms.{IsTerm}
use Rattle.term_bank.specs.Values.{Environment, Values, Models, Grows}
use Rattle.path_states.specs.States.{IsSized}

-- the object was made, with its first bytes
abbrev pub made_in : LastingObject → Store → Store
made_in x s =
    filled_with x.contents (start x.place) x.size (make x.place (record { kind = x.kind; size = x.size }) s)

-- these were made, in order
abbrev pub made_all : List LastingObject → Store → Store
made_all [] s = s
made_all (x ∷ xs) s = made_all xs (made_in x s)

-- a memory of what a function makes of another memory's store; it keeps a store sized
pub record Becomes (a b : List Shape) (m n : Node) (f : Store → Store) : Type 0 where
  pub grows : Grows a b
  pub term : IsTerm b Memory n
  pub is : (e : Environment) (v : Values) → Models b e v → (v n.index).store ≡ f (v m.index).store
  pub sized : (s : Store) → IsSized s → IsSized (f s)

-- a memory of what a function makes of the world's initial bytes, without any object
pub record Begins (a b : List Shape) (n : Node) (f : Store → Store) : Type 0 where
  pub grows : Grows a b
  pub term : IsTerm b Memory n
  pub is : (e : Environment) (v : Values) → Models b e v → (v n.index).store ≡ f (initial e.bytes)
  pub sized : (s : Store) → IsSized s → IsSized (f s)
