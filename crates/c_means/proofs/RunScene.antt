-- Programs of the worked rows: each tree is written once, beside what it is worth.
use Rattle.std.proofs.Common.{◌≡◌, ℕ, List, [], ◌∷◌, false, Option, Some, None, ap, ◌∙◌}
use Rattle.std.specs.Prelude.{map, option_map}
use Rattle.c_language.specs.declared.token.IntegerType.TheVariants as integer_type
use Rattle.c_language.specs.declared.expr.BinaryOperator.{BinaryOperator}
use Rattle.c_language.specs.declared.expr.PostfixOperator.TheVariants as postfix_
use Rattle.c_language.specs.declared.expr.StorageClass.TheVariants as class
use Rattle.c_language.specs.declared.expr.TypeWord.{TypeWord}
use Rattle.c_language.specs.declared.expr.UnaryOperator.{UnaryOperator}
use Rattle.c_language.specs.declared.unit.Designator.TheVariants as designator
use Rattle.c_language.specs.declared.unit.ForStart.TheVariants as start_
use Rattle.c_language.specs.declared.unit.InitDeclarator.{InitDeclarator}
use Rattle.c_language.specs.declared.unit.Initializer.TheVariants as initial
use Rattle.c_language.specs.declared.unit.Stmt.TheVariants as tree
use Rattle.c_language.specs.Folds.{fold_expr, fold_declarator, fold_specifier, fold_parameter}
use Rattle.c_language.specs.Scopes.{Name}
use Rattle.c_language.specs.Declares.{Says}
use Rattle.c_language.proofs.Built.{Built, trees, all_say, all_are}
use Rattle.c_language.proofs.Built as built
use Rattle.c_means.specs.Notes.{ExprNoted, noted, noting, declarator_noted, specifier_noted}
use Rattle.c_language.specs.Initials.{ToElement}
use Rattle.c_means.specs.Initials.{initially, listed_item, listed, value_initially, list_initially}
use Rattle.c_means.specs.Statements.{stmt, code, compound, labeled, case_labeled, default_labeled, if_of, switch_of}
use Rattle.c_means.specs.Statements.{while_of, do_of}
use Rattle.c_means.specs.Statements.{for_of, goto_of, continue_of, break_of, return_of, maybe_value, declares_by}
use Rattle.c_means.specs.Statements.{declaring}
use Rattle.c_means.specs.Items.{node}
use Rattle.c_means.proofs.RunEquations as eqs

abbrev pub OfExpr : Type 0
OfExpr = Built (fold_expr {c = Says ExprNoted} noting)

abbrev pub OfDeclarator : Type 0
OfDeclarator = Built (fold_declarator {c = Says ExprNoted} noting)

abbrev pub OfSpecifier : Type 0
OfSpecifier = Built (fold_specifier {c = Says ExprNoted} noting)

abbrev pub OfParameter : Type 0
OfParameter = Built (fold_parameter {c = Says ExprNoted} noting)

abbrev pub OfStmt : Type 0
OfStmt = Built stmt

-- ---- expressions

abbrev pub int : ℕ → OfExpr
int n = built.integer noting 0 (record { value = n; integer_type = integer_type.Int })

abbrev pub text : ℕ → List ℕ → OfExpr
text at bytes = built.string noting at (bytes ∷ [])

abbrev pub the : Name → OfExpr
the name = built.identifier noting 0 name

abbrev pub op : ℕ → BinaryOperator → OfExpr → OfExpr → OfExpr
op at o x y = built.binary noting at o x y

abbrev pub un : ℕ → UnaryOperator → OfExpr → OfExpr
un at o x = built.unary noting at o x

abbrev pub set : OfExpr → OfExpr → OfExpr
set x y = built.assign noting 0 None x y

abbrev pub element : ℕ → OfExpr → OfExpr → OfExpr
element at x y = built.subscript noting at x y

abbrev pub increment : ℕ → OfExpr → OfExpr
increment at x = built.postfix noting at postfix_.Increment x

abbrev pub call : ℕ → Name → List OfExpr → OfExpr
call at name xs = built.call noting 0 (built.identifier noting at name) xs

-- ---- specifiers and declarators

abbrev pub word : TypeWord → OfSpecifier
word x = built.word noting 0 x

abbrev pub name : ℕ → Name → OfDeclarator
name at x = built.named noting at x

abbrev pub pointer : OfDeclarator → OfDeclarator
pointer d = built.pointer noting 0 [] d

abbrev pub array : ℕ → OfDeclarator → OfDeclarator
array n d = built.array noting 0 d [] (Some (int n))

abbrev pub open_array : OfDeclarator → OfDeclarator
open_array d = built.array noting 0 d [] None

abbrev pub static : OfSpecifier
static = built.storage noting 0 class.Static

abbrev pub omitted : OfDeclarator
omitted = built.omitted noting

abbrev pub taking : OfDeclarator → List OfParameter → OfDeclarator
taking d ps = built.function noting 0 d ps false

abbrev pub parameter : List OfSpecifier → OfDeclarator → OfParameter
parameter ss d = built.parameter noting ss d

-- ---- statements

pub noted_is : (x : OfExpr) → noted x.tree ≡ x.says
unfolding noted
noted_is x = x.is

pub declarator_is : (x : OfDeclarator) → declarator_noted x.tree ≡ x.says
unfolding declarator_noted
declarator_is x = x.is

pub specifiers_are : (xs : List OfSpecifier) →
    map specifier_noted (trees (fold_specifier {c = Says ExprNoted} noting) xs) ≡ all_say
    (fold_specifier {c = Says ExprNoted} noting) xs
unfolding specifier_noted
specifiers_are xs = all_are (fold_specifier {c = Says ExprNoted} noting) xs

abbrev pub does : OfExpr → OfStmt
does x = record {
  tree = tree.Value 0 (Some x.tree);
  says = code (λ c. node (maybe_value (Some x.says) c.scope)) [];
  is = eqs.does-Value 0 (Some x.tree) ∙ ap (λ e. code (λ c. node (maybe_value (Some e) c.scope)) []) (noted_is x);
}

abbrev pub block : List OfStmt → OfStmt
block xs = record {
  tree = tree.Block 0 (trees stmt xs);
  says = compound (all_say stmt xs);
  is = eqs.does-Block 0 (trees stmt xs) ∙ ap compound (all_are stmt xs);
}

abbrev pub returns : ℕ → OfExpr → OfStmt
returns at x = record {
  tree = tree.Return at (Some x.tree);
  says = code (return_of at (Some x.says)) [];
  is = eqs.does-Return at (Some x.tree) ∙ ap (λ e. code (return_of at (Some e)) []) (noted_is x);
}

abbrev pub while : ℕ → OfExpr → OfStmt → OfStmt
while at x b = record {
  tree = tree.While at x.tree b.tree;
  says = while_of at x.says b.says;
  is = eqs.does-While at x.tree b.tree ∙ ap (λ e. while_of at e (stmt b.tree)) (noted_is x)
      ∙ ap (λ e. while_of at x.says e) b.is;
}

abbrev pub when : ℕ → OfExpr → OfStmt → OfStmt
when at x y = record {
  tree = tree.If at x.tree y.tree None;
  says = if_of at x.says y.says None;
  is = eqs.does-If at x.tree y.tree None ∙ ap (λ e. if_of at e (stmt y.tree) None) (noted_is x)
      ∙ ap (λ e. if_of at x.says e None) y.is;
}

abbrev pub for : ℕ → OfExpr → OfExpr → OfExpr → OfStmt → OfStmt
for at x y z b = record {
  tree = tree.For at (start_.Value (Some x.tree)) (Some y.tree) (Some z.tree) b.tree;
  says = for_of at (maybe_value (Some x.says)) (Some y.says) (Some z.says) b.says;
  is = eqs.does-For at (start_.Value (Some x.tree)) (Some y.tree) (Some z.tree) b.tree
      ∙ ap (λ e. for_of at (maybe_value (Some e)) (Some (noted y.tree)) (Some (noted z.tree)) (stmt b.tree))
      (noted_is x)
      ∙ ap (λ e. for_of at (maybe_value (Some x.says)) (Some e) (Some (noted z.tree)) (stmt b.tree)) (noted_is y)
      ∙ ap (λ e. for_of at (maybe_value (Some x.says)) (Some y.says) (Some e) (stmt b.tree)) (noted_is z)
      ∙ ap (λ e. for_of at (maybe_value (Some x.says)) (Some y.says) (Some z.says) e) b.is;
}

abbrev pub switch : ℕ → OfExpr → OfStmt → OfStmt
switch at x b = record {
  tree = tree.Switch at x.tree b.tree;
  says = switch_of at x.says b.says;
  is = eqs.does-Switch at x.tree b.tree ∙ ap (λ e. switch_of at e (stmt b.tree)) (noted_is x)
      ∙ ap (λ e. switch_of at x.says e) b.is;
}

abbrev pub case : ℕ → OfExpr → OfStmt → OfStmt
case at x b = record {
  tree = tree.Case at x.tree b.tree;
  says = case_labeled at x.says b.says;
  is = eqs.does-Case at x.tree b.tree ∙ ap (λ e. case_labeled at e (stmt b.tree)) (noted_is x)
      ∙ ap (λ e. case_labeled at x.says e) b.is;
}

abbrev pub otherwise : ℕ → OfStmt → OfStmt
otherwise at b = record {
  tree = tree.Default at b.tree;
  says = default_labeled at b.says;
  is = eqs.does-Default at b.tree ∙ ap (default_labeled at) b.is;
}

abbrev pub label : ℕ → Name → OfStmt → OfStmt
label at x b = record {
  tree = tree.Label at x b.tree;
  says = labeled at x b.says;
  is = eqs.does-Label at x b.tree ∙ ap (labeled at x) b.is;
}

abbrev pub goto : ℕ → Name → OfStmt
goto at x = record { tree = tree.Goto at x; says = code (goto_of at x) []; is = eqs.does-Goto at x }

abbrev pub break : ℕ → OfStmt
break at = record { tree = tree.Break at; says = code (break_of at) []; is = eqs.does-Break at }

abbrev pub continue : ℕ → OfStmt
continue at = record { tree = tree.Continue at; says = code (continue_of at) []; is = eqs.does-Continue at }

abbrev pub loop : ℕ → OfStmt → OfExpr → OfStmt
loop at b x = record {
  tree = tree.Do at b.tree x.tree;
  says = do_of at b.says x.says;
  is = eqs.does-Do at b.tree x.tree ∙ ap (λ e. do_of at e (noted x.tree)) b.is
      ∙ ap (do_of at b.says) (noted_is x);
}

abbrev pub returns_nothing : ℕ → OfStmt
returns_nothing at = record {
  tree = tree.Return at None;
  says = code (return_of at None) [];
  is = eqs.does-Return at None;
}

-- ---- a declaration of one name

abbrev pub OfInitial : Type 0
OfInitial = Built initially

abbrev pub value : OfExpr → OfInitial
value x = record {
  tree = initial.Value x.tree;
  says = value_initially x.says;
  is = eqs.initially-Value x.tree ∙ ap value_initially (noted_is x);
}

abbrev pub OfItem : Type 0
OfItem = Built listed_item

abbrev pub plain_item : OfInitial → OfItem
plain_item x = record {
  tree = record { designators = []; value = x.tree };
  says = listed [] x.says;
  is = eqs.listed-Item (record { designators = []; value = x.tree }) ∙ ap (listed []) x.is;
}

-- [n] = x
abbrev pub item_at : OfExpr → OfInitial → OfItem
item_at n x = record {
  tree = record { designators = designator.Element 0 n.tree ∷ []; value = x.tree };
  says = listed (ToElement 0 n.says ∷ []) x.says;
  is = eqs.listed-Item (record { designators = designator.Element 0 n.tree ∷ []; value = x.tree })
      ∙ ap (λ e. listed (ToElement 0 e ∷ []) (initially x.tree)) (noted_is n)
      ∙ ap (listed (ToElement 0 n.says ∷ [])) x.is;
}

abbrev pub braced : List OfItem → OfInitial
braced xs = record {
  tree = initial.List 0 (trees listed_item xs) false;
  says = list_initially 0 (all_say listed_item xs);
  is = eqs.initially-List 0 (trees listed_item xs) false ∙ ap (list_initially 0) (all_are listed_item xs);
}

abbrev pub one : OfDeclarator → Option OfInitial → InitDeclarator
one d x = record { declarator = d.tree; assembler_name = []; initializer = built.tree_if initially x }

abbrev pub declare : List OfSpecifier → OfDeclarator → Option OfInitial → OfStmt
declare ss d x = record {
  tree = tree.Declared (record {
    specifiers = trees (fold_specifier {c = Says ExprNoted} noting) ss;
    declarators = one d x ∷ [];
  });
  says = code (λ c. declares_by (all_say (fold_specifier {c = Says ExprNoted} noting) ss)
      (record { declarator = d.says; initial = built.says_if initially x } ∷ []) c.scope) [];
  is = eqs.does-Declared (record {
    specifiers = trees (fold_specifier {c = Says ExprNoted} noting) ss;
    declarators = one d x ∷ [];
  })
      ∙ ap (λ fs. code (λ c. declares_by fs (declaring (one d x) ∷ []) c.scope) []) (specifiers_are ss)
      ∙ ap (λ f. code (λ c. declares_by (all_say (fold_specifier {c = Says ExprNoted} noting) ss)
      (record { declarator = f; initial = option_map initially (built.tree_if initially x) } ∷ []) c.scope) [])
      (declarator_is d)
      ∙ ap (λ i. code (λ c. declares_by (all_say (fold_specifier {c = Says ExprNoted} noting) ss)
      (record { declarator = d.says; initial = i } ∷ []) c.scope) []) (built.is_if initially x);
}
