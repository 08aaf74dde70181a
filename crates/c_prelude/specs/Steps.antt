-- Trees made by steps, a node behind its parts.
use Rattle.std.specs.Prelude.{ℕ, ◌+◌, ◌^◌, pos, Bool, true, false, List, [], ◌∷◌, ◌++◌, Option, Some, None}
use Rattle.c_language.specs.declared.token.IntegerType.TheVariants as integer_type
use Rattle.c_language.specs.declared.expr.Declarator.{Declarator}
use Rattle.c_language.specs.declared.expr.Declarator.TheVariants as declarator
use Rattle.c_language.specs.declared.expr.Expr.{Expr}
use Rattle.c_language.specs.declared.expr.Expr.TheVariants as expr
use Rattle.c_language.specs.declared.expr.Parameter.{Parameter}
use Rattle.c_language.specs.declared.expr.PostfixOperator.TheVariants as postfix
use Rattle.c_language.specs.declared.expr.Qualifier.TheVariants as qualifier
use Rattle.c_language.specs.declared.expr.Specifier.{Specifier}
use Rattle.c_language.specs.declared.expr.Specifier.TheVariants as specifier
use Rattle.c_language.specs.declared.unit.Body.TheVariants as body
use Rattle.c_language.specs.declared.unit.External.{External}
use Rattle.c_language.specs.declared.unit.External.TheVariants as external
use Rattle.c_language.specs.declared.unit.ForStart.TheVariants as start
use Rattle.c_language.specs.declared.unit.Initializer.{Initializer}
use Rattle.c_language.specs.declared.unit.Initializer.TheVariants as initializer
use Rattle.c_language.specs.declared.unit.Stmt.{Stmt}
use Rattle.c_language.specs.declared.unit.Stmt.TheVariants as stmt
use Rattle.c_language.specs.Scopes.{Name}
use Rattle.c_prelude.specs.declared.functions.Head.{Head}
use Rattle.c_prelude.specs.declared.step.Step.{Step}
use Rattle.c_prelude.specs.declared.step.Step.TheVariants as step_

-- what was made and isn't part of anything yet, the last first; specifiers and parameters in order; the blocks that
-- are open, each with its statements in order
pub record Parts : Type 0 where
  pub specifiers : List Specifier
  pub parameters : List Parameter
  pub exprs : List Expr
  pub stmts : List Stmt
  pub blocks : List (List Stmt)

abbrev pub nothing : Parts
nothing = record { specifiers = []; parameters = []; exprs = []; stmts = []; blocks = [] }

-- offsets of the prelude's text are none of a source
abbrev pub far : ℕ → ℕ
far n = 2 ^ 31 + n

abbrev pub on_one : {A : Type 0} → List A → (A → List A → Option Parts) → Option Parts
on_one [] f = None
on_one (x ∷ xs) f = f x xs

abbrev pub on_two : {A : Type 0} → List A → (A → A → List A → Option Parts) → Option Parts
on_two xs f = on_one xs (λ x ys. on_one ys (λ y zs. f y x zs))

abbrev pub pointed : Option ℕ → Declarator → Declarator
pointed None x = x
pointed (Some at) x = declarator.Pointer (far at) [] x

abbrev pub variable : Option ℕ → ℕ → ℕ → Declarator
variable star at letter = pointed star (declarator.Name (far at) (letter ∷ []))

abbrev pub with_expr : Parts → Expr → List Expr → Option Parts
with_expr p x xs = Some (record p { exprs = x ∷ xs })

abbrev pub with_stmt : Parts → Stmt → List Stmt → Option Parts
with_stmt p x xs = Some (record p { stmts = x ∷ xs })

abbrev pub declared : Parts → Option ℕ → ℕ → ℕ → Option Initializer → Option Parts
declared p star at letter value = Some (record p {
  specifiers = [];
  stmts = stmt.Declared (record {
    specifiers = p.specifiers;
    declarators = record { declarator = variable star at letter; assembler_name = []; initializer = value } ∷ [];
  }) ∷ p.stmts;
})

abbrev pub declared_if : Bool → Parts → Option ℕ → ℕ → ℕ → Option Parts
declared_if false p star at letter = declared p star at letter None
declared_if true p star at letter =
    on_one p.exprs (λ x xs. declared (record p { exprs = xs }) star at letter (Some (initializer.Value x)))

abbrev pub chosen : Parts → ℕ → Bool → Expr → List Expr → Option Parts
chosen p at false x xs =
    on_one p.stmts (λ s ss. with_stmt (record p { exprs = xs }) (stmt.If (far at) x s None) ss)
chosen p at true x xs =
    on_two p.stmts (λ s t ss. with_stmt (record p { exprs = xs }) (stmt.If (far at) x s (Some t)) ss)

abbrev pub looped : Parts → ℕ → List Expr → Option Parts
looped p at xs =
    on_one xs (λ step ys. on_two ys (λ first condition zs. on_one p.stmts (λ s ss.
    with_stmt (record p { exprs = zs })
    (stmt.For (far at) (start.Value (Some first)) (Some condition) (Some step) s) ss)))

abbrev pub taken : Step → Parts → Option Parts
taken (step_.Word at word) p = Some (record p { specifiers = p.specifiers ++ specifier.Word (far at) word ∷ [] })
taken (step_.Const at) p =
    Some (record p { specifiers = p.specifiers ++ specifier.Qualifier (far at) qualifier.Const ∷ [] })
taken (step_.Parameter star at letter) p = Some (record p {
  specifiers = [];
  parameters = p.parameters ++ record { specifiers = p.specifiers; declarator = variable star at letter } ∷ [];
})
taken (step_.Integer at value) p =
    with_expr p (expr.Integer (far at) (record { value = value; integer_type = integer_type.Int })) p.exprs
taken (step_.Character at value) p = with_expr p (expr.Character (far at) (pos value)) p.exprs
taken (step_.Variable at letter) p = with_expr p (expr.Identifier (far at) (letter ∷ [])) p.exprs
taken (step_.Group at) p = on_one p.exprs (λ x xs. with_expr p (expr.Parenthesized (far at) x) xs)
taken (step_.Subscript at) p = on_two p.exprs (λ x y xs. with_expr p (expr.Subscript (far at) x y) xs)
taken (step_.Increment at) p = on_one p.exprs (λ x xs. with_expr p (expr.Postfix (far at) postfix.Increment x) xs)
taken (step_.Unary at operator) p = on_one p.exprs (λ x xs. with_expr p (expr.Unary (far at) operator x) xs)
taken (step_.Binary at operator) p = on_two p.exprs (λ x y xs. with_expr p (expr.Binary (far at) operator x y) xs)
taken (step_.Assign at) p = on_two p.exprs (λ x y xs. with_expr p (expr.Assign (far at) None x y) xs)
taken (step_.Cast at star) p = on_one p.exprs (λ x xs. with_expr (record p { specifiers = [] }) (expr.Cast (far at) (record {
  specifiers = p.specifiers;
  declarator = pointed star declarator.Omitted;
}) x) xs)
taken (step_.Declared star at letter is_initialised) p = declared_if is_initialised p star at letter
taken (step_.Value at) p =
    on_one p.exprs (λ x xs. with_stmt (record p { exprs = xs }) (stmt.Value (far at) (Some x)) p.stmts)
taken (step_.Return at) p =
    on_one p.exprs (λ x xs. with_stmt (record p { exprs = xs }) (stmt.Return (far at) (Some x)) p.stmts)
taken (step_.While at) p =
    on_one p.exprs (λ x xs. on_one p.stmts (λ s ss. with_stmt (record p { exprs = xs }) (stmt.While (far at) x s) ss))
taken (step_.If at has_else) p = on_one p.exprs (λ x xs. chosen p at has_else x xs)
taken (step_.For at) p = looped p at p.exprs
taken step_.Begin p = Some (record p { blocks = [] ∷ p.blocks })
taken step_.Next p =
    on_one p.stmts (λ s ss. on_one p.blocks (λ b bs. Some (record p { stmts = ss; blocks = (b ++ s ∷ []) ∷ bs })))
taken (step_.Block at) p =
    on_one p.blocks (λ b bs. with_stmt (record p { blocks = bs }) (stmt.Block (far at) b) p.stmts)

abbrev pub after : Option Parts → (Parts → Option Parts) → Option Parts
after None f = None
after (Some p) f = f p

abbrev pub all_taken : List Step → Parts → Option Parts
all_taken [] p = Some p
all_taken (x ∷ xs) p = after (taken x p) (all_taken xs)

-- ---- a function: what the steps leave are its specifiers, its parameters and the block of its body

abbrev pub function_declarator : Name → Head → List Parameter → Declarator
function_declarator name h ps =
    pointed h.star (declarator.Function (far h.parenthesis) (declarator.Name (far h.at) name) ps false)

abbrev pub ended : Name → Head → Parts → Option External
ended name h p = with_body p.stmts
  where
    with_body : List Stmt → Option External
    with_body [] = None
    with_body (b ∷ bs) = Some (external.Function p.specifiers (function_declarator name h p.parameters) (body.Read b))

abbrev pub ended_if : Name → Head → Option Parts → Option External
ended_if name h None = None
ended_if name h (Some p) = ended name h p

abbrev pub made : Name → Head → List Step → Option External
made name h steps = ended_if name h (all_taken steps nothing)
