-- The nodes of states, and the table of those that stand for them.
use Rattle.std.proofs.Common.{◌≡◌, ℕ, zero, suc, ◌<◌, List, [], ◌∷◌, ◌++◌, length, take, get_or, Bool, true, false, cond, Option, Some, None}
use Rattle.std.proofs.Common.{refl, sym, ap, subst, arith}
use Rattle.std.specs.Prelude.{nat_eq, unwrap_or}
use Rattle.std.specs.HashMap.{get}
use Rattle.term_bank.specs.declared.binding.Binding.{Binding}
use Rattle.term_bank.specs.declared.shape.Shape.{Shape}
use Rattle.term_bank.specs.declared.sort.Node.{Node}
use Rattle.term_bank.specs.Bindings.{HasImage}
use Rattle.term_bank.specs.Images.{Images, AreImages, Puts, image_at}
use Rattle.term_bank.specs.Shapes.{Each, IsNode}
use Rattle.term_bank.proofs.TermLemmas.{node_of}
use Rattle.path_states.specs.declared.kinds.StateKind.{StateKind}
use Rattle.path_states.specs.declared.kinds.StateKind.TheVariants.{Known, Exited}
use Rattle.path_states.specs.declared.state.Number.{Number}
use Rattle.path_states.specs.declared.state.State.{State}
use Rattle.path_states.specs.States.{AreNumbers, IsMaybeNumber, IsStateKind, IsState, AreStates}
use Rattle.summary_compose.specs.Renaming.{each_of, number_node, maybe_node, kind_node, state_nodes, Pictures}

-- ---- the nodes stand in the bank

all_joined : (P : Node → Type 0) (xs ys : List Node) → Each P xs → Each P ys → Each P (xs ++ ys)
all_joined P [] ys h k = k
all_joined P (x ∷ xs) ys h k = (h.0, all_joined P xs ys h.1 k)

number_roots : (b : List Shape) (xs : List Number) → AreNumbers b xs → Each (IsNode b) (each_of number_node xs)
number_roots b [] h = tt
number_roots b (x ∷ xs) h = (node_of b _ x.node h.0.term, number_roots b xs h.1)

maybe_roots : (b : List Shape) (x : Option Number) → IsMaybeNumber b x → Each (IsNode b) (maybe_node x)
maybe_roots b None h = tt
maybe_roots b (Some x) h = (node_of b _ x.node h.term, tt)

kind_roots : (b : List Shape) (k : StateKind) → IsStateKind b k → Each (IsNode b) (kind_node k)
kind_roots b (Known kind) h = tt
kind_roots b (Exited status) h = (node_of b _ status.node h.term, tt)

state_roots : (b : List Shape) (s : State) → IsState b s → Each (IsNode b) (state_nodes s)
state_roots b s h = (
  node_of b _ s.guard h.guard,
  (
    node_of b _ s.memory h.memory,
    (
      node_of b _ s.events h.events,
      all_joined (IsNode b) (kind_node s.kind) (maybe_node s.value ++ each_of number_node s.operands) (kind_roots b s.kind h.kind)
          (all_joined (IsNode b) (maybe_node s.value) (each_of number_node s.operands) (maybe_roots b s.value h.value)
          (number_roots b s.operands h.operands)),
    ),
  ),
)

pub roots_stand : (b : List Shape) (ss : List State) → AreStates b ss → Each (IsNode b) (each_of state_nodes ss)
roots_stand b [] h = tt
roots_stand b (s ∷ ss) h =
    all_joined (IsNode b) (state_nodes s) (each_of state_nodes ss) (state_roots b s h.0) (roots_stand b ss h.1)

-- ---- the table

module _ (old new : List Shape) (put : Binding) where
  abbrev Has : ℕ → Node → Type 0
  Has = HasImage old new put

  pub images_long : (rs ns : List Node) → AreImages Has rs ns → length rs ≡ length ns
  images_long [] [] h = refl
  images_long [] (n ∷ ns) h = absurd h
  images_long (r ∷ rs) [] h = absurd h
  images_long (r ∷ rs) (n ∷ ns) h = ap suc (images_long rs ns h.1)

  image_of : (rs ns : List Node) (i : ℕ) (d : Node) → AreImages Has rs ns → i < length rs → Has (get_or rs i d).index (get_or ns i d)
  image_of [] ns i d h k = absurd (omega (arith, k))
  image_of (r ∷ rs) [] i d h k = absurd h
  image_of (r ∷ rs) (n ∷ ns) zero d h k = h.0
  image_of (r ∷ rs) (n ∷ ns) (suc i) d h k = image_of rs ns i d h.1 (omega (arith, k))

  nat_eq_true : (m n : ℕ) → nat_eq m n ≡ true → m ≡ n
  nat_eq_true m n h = grind arith

  -- the node that now stands for this one
  now_for : (r : Node) (number : ℕ) (node : Node) (before_it behind_it : Option Node) (b : Bool) → b ≡ nat_eq number r.index
      → behind_it ≡ cond b (Some node) before_it → Has number node → Has r.index (unwrap_or before_it r) → Has r.index (unwrap_or behind_it r)
  now_for r number node before_it behind_it true is h k before =
      let same : number ≡ r.index = nat_eq_true number r.index (sym is) in
      rw h (subst (λ n. Has n node) same k)
  now_for r number node before_it behind_it false is h k before = rw h before

  still : (before now : Images) (number : ℕ) (node : Node) (rs : List Node) → Puts before now number node → Has number node
      → Pictures old new put (image_at before) rs → Pictures old new put (image_at now) rs
  still before now number node [] h k p = tt
  still before now number node (r ∷ rs) h k p = (
    now_for r number node (get nat_eq before r.index) (get nat_eq now r.index) (nat_eq number r.index) refl (h r.index) k p.0,
    still before now number node rs h k p.1,
  )

  put_now : (before now : Images) (r node : Node) → Puts before now r.index node → Has r.index node → Has r.index (image_at now r)
  put_now before now r node h k = chosen (nat_eq r.index r.index) (get nat_eq now r.index) (nat_eq_same r.index) (h r.index) where
    nat_eq_same : (n : ℕ) → nat_eq n n ≡ true
    nat_eq_same n = grind arith

    chosen : (b : Bool) (o : Option Node) → b ≡ true → o ≡ cond b (Some node) (get nat_eq before r.index) → Has r.index (unwrap_or o r)
    chosen b o is j = rw (j, is) k

  pictures_more : (f : Node → Node) (rs : List Node) (r : Node) → Pictures old new put f rs → Has r.index (f r)
      → Pictures old new put f (rs ++ r ∷ [])
  pictures_more f [] r h k = (k, tt)
  pictures_more f (x ∷ xs) r h k = (h.0, pictures_more f xs r h.1 k)

  pub table_more : (before now : Images) (roots nodes : List Node) (i : ℕ) (d : Node) → AreImages Has roots nodes → i < length roots
      → Puts before now (get_or roots i d).index (get_or nodes i d) → Pictures old new put (image_at before) (take i roots)
      → Pictures old new put (image_at now) (take i roots ++ get_or roots i d ∷ [])
  table_more before now roots nodes i d are k h p =
      let has : Has (get_or roots i d).index (get_or nodes i d) = image_of roots nodes i d are k in
      pictures_more (image_at now) (take i roots) (get_or roots i d)
      (still before now (get_or roots i d).index (get_or nodes i d) (take i roots) h has p)
      (put_now before now (get_or roots i d) (get_or nodes i d) h has)
