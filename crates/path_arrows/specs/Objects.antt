-- Objects of a block, by their places behind the base (C99 6.2.4p5).
use Rattle.std.specs.Prelude.{◌≡◌, ℕ, ◌+◌, ◌≤◌, ◌<◌, ◌^◌, List, [], ◌∷◌}
use Rattle.c_store.specs.declared.object.ObjectKind.TheVariants.{Automatic}
use Rattle.c_store.specs.Store.{Store, make, end}
use Rattle.c_means.specs.Items.{Made}
use Rattle.term_bank.specs.declared.sort.Sort.TheVariants.{Word, Memory}
use Rattle.term_bank.specs.declared.sort.Node.{Node}
use Rattle.term_bank.specs.declared.shape.Shape.{Shape}
use Rattle.term_bank.specs.Terms.{IsTerm}
use Rattle.term_bank.specs.Values.{Environment, Values, Models, Grows}
use Rattle.plain_data.specs.declared.width.Width.TheVariants.{W64}
use Rattle.path_states.specs.States.{IsRoomy}
use Rattle.path_arrows.specs.declared.objects.Object.{Object}

abbrev pub made_at : ℕ → List Object → List Made
made_at base [] = []
made_at base (x ∷ xs) = record { at = x.at; place = base + x.offset; size = x.size } ∷ made_at base xs

-- each has a place of the room, and fewer than 2^32 bytes
abbrev pub Fit : ℕ → List Object → Type 0
Fit room [] = Unit {0}
Fit room (x ∷ xs) = ((x.offset < room) × (x.size < 2 ^ 32)) × Fit room xs

abbrev pub stored_born : List Made → Store → Store
stored_born [] s = s
stored_born (m ∷ ms) s = stored_born ms (make m.place (record { kind = Automatic; size = m.size }) s)

abbrev pub stored_dead : List Made → Store → Store
stored_dead [] s = s
stored_dead (m ∷ ms) s = stored_dead ms (end m.place s)

-- a node of the place that is so many behind the base
pub record IsPlaced (room : ℕ) (a b : List Shape) (n : Node) (offset : ℕ) : Type 0 where
  pub is : (e : Environment) (v : Values) → Models b e v → IsRoomy room e → (v n.index).word ≡ e.base + offset

pub record Places (a b : List Shape) (n : Node) (offset : ℕ) : Type 0 where
  pub grows : Grows a b
  pub term : IsTerm b (Word W64) n
  pub placed : (room : ℕ) → offset ≤ room → IsPlaced room a b n offset

-- a memory of another one's store, in environments with the room
pub record Remakes (room : ℕ) (b : List Shape) (m n : Node) (f : Environment → Store → Store) : Type 0 where
  pub is : (e : Environment) (v : Values) → Models b e v → IsRoomy room e → (v n.index).store ≡ f e (v m.index).store

pub record Bears (a b : List Shape) (m n : Node) (xs : List Object) : Type 0 where
  pub grows : Grows a b
  pub term : IsTerm b Memory n
  pub remakes : (room : ℕ) → Fit room xs → Remakes room b m n (λ e s. stored_born (made_at e.base xs) s)

pub record Buries (a b : List Shape) (m n : Node) (xs : List Object) : Type 0 where
  pub grows : Grows a b
  pub term : IsTerm b Memory n
  pub remakes : (room : ℕ) → Fit room xs → Remakes room b m n (λ e s. stored_dead (made_at e.base xs) s)
