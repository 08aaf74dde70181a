-- Where the texts of log calls end along a log.
use Rattle.std.specs.Prelude.{◌≡◌, ℕ, ℤ, Bool, true, List, Some, None, length}
use Rattle.c_means.specs.Parts.{Env}
use Rattle.c_store.specs.Store.{Store}
use Rattle.core_tree.specs.declared.expr.Callee.{Callee}
use Rattle.core_tree.specs.declared.types.ValueType.{ValueType}
use Rattle.core_tree.specs.Callees.{says_all, called}
use Rattle.core_tree.specs.States.{along}
use Rattle.printf_text.specs.declared.piece.Arg.{Arg}
use Rattle.printf_text.specs.declared.piece.Piece.{Piece}
use Rattle.printf_text.specs.Texts.{HaveKinds, kinds}
use Rattle.positions.specs.Sets.{has}
use Rattle.log_expr.specs.declared.table.Ends.{Ends}
use Rattle.log_expr.specs.Covers.{Whole, Pair, one, two, CallAlike}
use Rattle.log_expr.specs.Flows.{Wider}
use Rattle.log_expr.specs.Tables.{Known}

-- pieces that are taken along the log from a position on end at one of these; their arguments have their kinds, where
-- there are enough
pub record TextsEnd (pieces : List Piece) (log : List ℕ) (enough : Bool) (from : ℕ) (to : List ℕ) : Type 0 where
  pub holds : (xs : List Arg) (end : ℕ) → (enough ≡ true → HaveKinds (kinds pieces) xs)
      → says_all (along log) pieces xs from ≡ Some end → has to end ≡ true

-- from each of these positions on
abbrev pub AllTextsEnd : List Piece → List ℕ → Bool → List ℕ → List ℕ → Type 0
AllTextsEnd pieces log enough from to = (o : ℕ) → has from o ≡ true → TextsEnd pieces log enough o to

-- the ends of one function at each of these positions are in these sets; where no level is left, the run ends at once
abbrev pub CallsEnd : Known → ℕ → List ℕ → List ℕ → List ℕ → Type 0
CallsEnd None f from to ended = Wider from ended
CallsEnd (Some t) f from to ended =
    (o : ℕ) → has from o ≡ true → (e : Ends) × (t f o ≡ Some e) × Wider e.back to × Wider e.ended ended

-- what is called with so many arguments at one of the first positions comes back at one of the second, or ends the run
-- at one of the last
pub record CoversCallee (w : Whole) (turns : ℕ) (t : Known) (c : Callee) (count : ℕ) (from to ended : List ℕ) : Type 0
  where
    pub alike : (p : Pair t) (at : ℕ) (type : ValueType) (env : Env) (vs : List ℤ) (base : ℕ) (s : Store) (o : ℕ)
        → length vs ≡ count → has from o ≡ true
        → CallAlike to ended (called (one w turns p) c at type env vs base s o) (called (two w turns p) c at type env vs base s o)
