-- The caller's states behind a call, by the ends of the callee.
use Rattle.std.specs.Prelude.{◌≡◌, ℕ, ℤ, List, [], ◌∷◌, ◌++◌, length, cond, Bool, true, false, ◌&&◌, Option, Some, Result, Err}
use Rattle.plain_data.specs.declared.run.Happening.TheVariants as happening
use Rattle.core_tree.specs.declared.types.ValueType.{ValueType}
use Rattle.core_tree.specs.declared.types.ValueType.TheVariants as vt
use Rattle.core_tree.specs.Numbers.{converted_to}
use Rattle.core_tree.specs.States.{Done, ◌>>=◌, along, note, resumed, returned_in, found}
use Rattle.core_tree.specs.Values.{needed}
use Rattle.term_bank.specs.declared.binding.Binding.{Binding}
use Rattle.term_bank.specs.declared.shape.Shape.{Shape}
use Rattle.term_bank.specs.Bindings.{bound}
use Rattle.term_bank.specs.declared.sort.Node.{Node}
use Rattle.term_bank.specs.Shapes.{Each, IsNode}
use Rattle.term_bank.specs.Values.{Environment, Values, Models, Grows}
use Rattle.path_states.specs.declared.kinds.StateKind.{StateKind}
use Rattle.path_states.specs.declared.state.Number.{Number}
use Rattle.path_states.specs.declared.state.State.{State}
use Rattle.path_states.specs.declared.state.Walked.{Walked}
use Rattle.path_states.specs.States.{Held, IsState, AreNumbers, AreStates, number_in, numbers_in, maybe_number, kind_in, onto, done_in, run_in, standing}
use Rattle.path_states.specs.Ways.{going, ending, to_list}
use Rattle.path_steps.specs.Operands.{pushed}
use Rattle.path_forms.specs.declared.calling.CallSite.{CallSite}
use Rattle.path_forms.specs.Calling.{taken, below}
use Rattle.summary_compose.specs.Renaming.{each_of}
use Rattle.summary_compose.specs.Summaries.{read_as, given}

-- ---- arguments

-- so many operands are taken off a state, in order
pub record Takes (a b : List Shape) (s t : State) (count : ℕ) (xs : List Number) : Type 0 where
  pub grows : Grows a b
  pub state : IsState b t
  pub numbers : AreNumbers b xs
  pub counted : length xs ≡ count
  pub same : t ≡ record s { operands = t.operands }
  pub are : (e : Environment) (v : Values) → Models b e v → numbers_in v xs ≡ taken count (onto v [] s.operands)
  pub rest : (e : Environment) (v : Values) → Models b e v → onto v [] t.operands ≡ below count (onto v [] s.operands)

-- what nodes are as the values of parameters
abbrev pub read_all : List ValueType → List Node → Values → List ℤ
read_all [] ns v = []
read_all (t ∷ ts) [] v = []
read_all (t ∷ ts) (n ∷ ns) v = read_as t (v n.index).word ∷ read_all ts ns v

pub record PassesOne (a b : List Shape) (t : ValueType) (x : Number) (n : Node) : Type 0 where
  pub grows : Grows a b
  pub node : IsNode b n
  pub is : (e : Environment) (v : Values) → Models b e v → read_as t (v n.index).word ≡ converted_to t (number_in v x)

-- the node of the first of some numbers behind others
pub record PassesFirst (a b : List Shape) (t : ValueType) (x : Number) (xs : List Number) (before now : List Node) : Type 0 where
  pub others : AreNumbers b xs
  pub node : Node
  pub behind : now ≡ before ++ node ∷ []
  pub passes : PassesOne a b t x node

-- nodes of the numbers as the parameters' types have them, behind others
pub record Passes (a b : List Shape) (ts : List ValueType) (xs : List Number) (before now : List Node) : Type 0 where
  pub grows : Grows a b
  pub more : List Node
  pub behind : now ≡ before ++ more
  pub long : length more ≡ length ts
  pub alike : length xs ≡ length ts
  pub nodes : Each (IsNode b) more
  pub are : (e : Environment) (v : Values) → Models b e v → read_all ts more v ≡ given ts (numbers_in v xs)

-- ---- ends

-- what an end of the callee is to the caller, whose arguments are taken off: the event of the call, what was noted and
-- left, and the value or the end
abbrev pub answered : CallSite → Held → Held → Option (Result Held (Done ℕ))
answered site h r =
    let d = note (along []) (happening.Call site.at) h.done in
    pushed h.operands (returned_in (along []) d r.done r.done.kind
    >>= (λ w. needed site.is_used site.at site.answer w.0 w.1))

-- what goes on, and what has ended
abbrev pub goes_on : CallSite → Held → Held → List Held
goes_on site h r = to_list (going (answered site h r))

abbrev pub ends_there : CallSite → Held → Held → List Held
ends_there site h r = to_list (ending (answered site h r))

-- ---- states

-- a type that has values
abbrev pub gives_any : ValueType → Bool
gives_any vt.Void = false
gives_any _ = true

-- the caller with what an end of the callee left and noted, where both stand
pub record Continues (a b : List Shape) (site : CallSite) (caller end t : State) : Type 0 where
  pub grows : Grows a b
  pub state : IsState b t
  pub operands : t.operands ≡ caller.operands
  pub guard : (e : Environment) (v : Values) → Models b e v
      → (v t.guard.index).truth ≡ cond (v caller.guard.index).truth (v end.guard.index).truth false
  pub is : (e : Environment) (v : Values) → Models b e v → done_in v t
      ≡ resumed (along []) (note (along []) (happening.Call site.at) (done_in v caller)) (done_in v end)

-- a kind that ends no run
pub record GoesOn (kind : StateKind) : Type 0 where
  pub on : (v : Values) (d r : Done ℕ) → returned_in (along []) d r (kind_in v kind) ≡ found r.value (resumed (along []) d r)

-- a kind that ends the run, for the caller as well
pub record Ends (kind : StateKind) : Type 0 where
  pub over : (v : Values) (d r : Done ℕ)
      → returned_in (along []) d r (kind_in v kind) ≡ Some (Err (record (resumed (along []) d r) { kind = kind_in v kind }))

-- a value must be there (C99 6.9.1p12)
abbrev pub must_give : CallSite → Bool
must_give site = gives_any site.answer && site.is_used

-- the value that a call gave, where one is needed
abbrev pub needed_by : CallSite → Option ℤ → Held → Option (Result Held (Done ℕ))
needed_by site z h = pushed h.operands (needed site.is_used site.at site.answer z h.done)

pub record Gives (a b : List Shape) (site : CallSite) (z : Option Number) (s : State) (w : Walked) : Type 0 where
  pub grows : Grows a b
  pub going_states : AreStates b w.going
  pub ended_states : AreStates b w.ended
  pub going : (e : Environment) (v : Values) → Models b e v → standing v w.going
      ≡ cond (v s.guard.index).truth (to_list (going (needed_by site (maybe_number v z) (run_in v s)))) []
  pub ended : (e : Environment) (v : Values) → Models b e v → standing v w.ended
      ≡ cond (v s.guard.index).truth (to_list (ending (needed_by site (maybe_number v z) (run_in v s)))) []

-- the caller's states behind these ends
pub record Resumes (a b : List Shape) (site : CallSite) (caller : State) (ends : List State) (w : Walked) : Type 0 where
  pub grows : Grows a b
  pub going_states : AreStates b w.going
  pub ended_states : AreStates b w.ended
  pub going : (e : Environment) (v : Values) → Models b e v → standing v w.going
      ≡ cond (v caller.guard.index).truth (each_of (goes_on site (run_in v caller)) (standing v ends)) []
  pub ended : (e : Environment) (v : Values) → Models b e v → standing v w.ended
      ≡ cond (v caller.guard.index).truth (each_of (ends_there site (run_in v caller)) (standing v ends)) []

-- ---- summaries

-- states over the nodes that stand for those of a summary say what these say where the binding's nodes are put in
pub record PutsIn (a b : List Shape) (put : Binding) (ss ts : List State) : Type 0 where
  pub grows : Grows a b
  pub states : AreStates b ts
  pub same : (e : Environment) (v w : Values) → Models b e v → Models a (bound e v put) w → standing v ts ≡ standing w ss
