-- Trees beside what a fold says of them: a row's tree is written once, what it says computes, and that it is the
-- tree's is proved.
use Rattle.std.proofs.Common.{◌≡◌, ℕ, ℤ, List, [], ◌∷◌, Option, Some, None, Bool, refl, ap, ◌∙◌}
use Rattle.std.specs.Prelude.{map, option_map}
use Rattle.c_language.specs.declared.token.IntegerConstant.{IntegerConstant}
use Rattle.c_language.specs.declared.expr.UnaryOperator.{UnaryOperator}
use Rattle.c_language.specs.declared.expr.PostfixOperator.{PostfixOperator}
use Rattle.c_language.specs.declared.expr.BinaryOperator.{BinaryOperator}
use Rattle.c_language.specs.declared.expr.StorageClass.{StorageClass}
use Rattle.c_language.specs.declared.expr.Qualifier.{Qualifier}
use Rattle.c_language.specs.declared.expr.TypeWord.{TypeWord}
use Rattle.c_language.specs.declared.expr.AggregateKind.{AggregateKind}
use Rattle.c_language.specs.declared.expr.ArrayWord.{ArrayWord}
use Rattle.c_language.specs.declared.expr.TagName.{TagName}
use Rattle.c_language.specs.declared.expr.Expr.TheVariants as expr
use Rattle.c_language.specs.declared.expr.Specifier.TheVariants as specifier
use Rattle.c_language.specs.declared.expr.Field.TheVariants as field
use Rattle.c_language.specs.declared.expr.Declarator.TheVariants as declarator
use Rattle.c_language.specs.declared.expr.Declarator.TheOpen as open_
use Rattle.c_language.specs.Folds.{
  Carrier,
  Algebra,
  fold_declarator,
  fold_expr,
  fold_field,
  fold_specifier,
  fold_enumerator,
  fold_member,
  fold_parameter,
  fold_type_name,
}
use Rattle.c_language.proofs.Folds as eq
use Rattle.c_language.specs.Scopes.{Name}

pub record Built {A B : Type 0} (f : A → B) : Type 0 where
  pub tree : A
  pub says : B
  pub is : f tree ≡ says

abbrev pub trees : {A B : Type 0} (f : A → B) → List (Built f) → List A
trees f [] = []
trees f (x ∷ xs) = x.tree ∷ trees f xs

abbrev pub all_say : {A B : Type 0} (f : A → B) → List (Built f) → List B
all_say f [] = []
all_say f (x ∷ xs) = x.says ∷ all_say f xs

pub all_are : {A B : Type 0} (f : A → B) (xs : List (Built f)) → map f (trees f xs) ≡ all_say f xs
all_are f [] = refl
all_are f (x ∷ xs) = ap (λ y. y ∷ map f (trees f xs)) x.is ∙ ap (λ ys. x.says ∷ ys) (all_are f xs)

abbrev pub tree_if : {A B : Type 0} (f : A → B) → Option (Built f) → Option A
tree_if f None = None
tree_if f (Some x) = Some x.tree

abbrev pub says_if : {A B : Type 0} (f : A → B) → Option (Built f) → Option B
says_if f None = None
says_if f (Some x) = Some x.says

pub is_if : {A B : Type 0} (f : A → B) (x : Option (Built f)) → option_map f (tree_if f x) ≡ says_if f x
is_if f None = refl
is_if f (Some x) = ap Some x.is

abbrev pub integer : {c : Carrier} (a : Algebra c) → ℕ → IntegerConstant → Built (fold_expr a)
integer a at constant = record {
  tree = expr.Integer at constant;
  says = a.expr (open_.Integer at constant);
  is = eq.fold-Integer a at constant;
}

abbrev pub floating : {c : Carrier} (a : Algebra c) → ℕ → Built (fold_expr a)
floating a at = record {
  tree = expr.Floating at;
  says = a.expr (open_.Floating at);
  is = eq.fold-Floating a at;
}

abbrev pub character : {c : Carrier} (a : Algebra c) → ℕ → ℤ → Built (fold_expr a)
character a at value = record {
  tree = expr.Character at value;
  says = a.expr (open_.Character at value);
  is = eq.fold-Character a at value;
}

abbrev pub string : {c : Carrier} (a : Algebra c) → ℕ → List (List ℕ) → Built (fold_expr a)
string a at pieces = record {
  tree = expr.StringLiteral at pieces;
  says = a.expr (open_.StringLiteral at pieces);
  is = eq.fold-StringLiteral a at pieces;
}

abbrev pub function_name : {c : Carrier} (a : Algebra c) → ℕ → Built (fold_expr a)
function_name a at = record {
  tree = expr.FunctionName at;
  says = a.expr (open_.FunctionName at);
  is = eq.fold-FunctionName a at;
}

abbrev pub identifier : {c : Carrier} (a : Algebra c) → ℕ → Name → Built (fold_expr a)
identifier a at name = record {
  tree = expr.Identifier at name;
  says = a.expr (open_.Identifier at name);
  is = eq.fold-Identifier a at name;
}

abbrev pub grouped : {c : Carrier} (a : Algebra c) → ℕ → Built (fold_expr a) → Built (fold_expr a)
grouped a at x = record {
  tree = expr.Parenthesized at x.tree;
  says = a.expr (open_.Parenthesized at x.says);
  is = eq.fold-Parenthesized a at x.tree
      ∙ ap (λ it. a.expr (open_.Parenthesized at it)) x.is;
}

abbrev pub subscript : {c : Carrier} (a : Algebra c) → ℕ → Built (fold_expr a) → Built (fold_expr a) →
    Built (fold_expr a)
subscript a at x y = record {
  tree = expr.Subscript at x.tree y.tree;
  says = a.expr (open_.Subscript at x.says y.says);
  is = eq.fold-Subscript a at x.tree y.tree
      ∙ ap (λ it. a.expr (open_.Subscript at it (fold_expr a y.tree))) x.is
      ∙ ap (λ it. a.expr (open_.Subscript at x.says it)) y.is;
}

abbrev pub call : {c : Carrier} (a : Algebra c) → ℕ → Built (fold_expr a) → List (Built (fold_expr a)) →
    Built (fold_expr a)
call a at x ys = record {
  tree = expr.Call at x.tree (trees (fold_expr a) ys);
  says = a.expr (open_.Call at x.says (all_say (fold_expr a) ys));
  is = eq.fold-Call a at x.tree (trees (fold_expr a) ys)
      ∙ ap (λ it. a.expr (open_.Call at it (map (fold_expr a) (trees (fold_expr a) ys)))) x.is
      ∙ ap (λ it. a.expr (open_.Call at x.says it)) (all_are (fold_expr a) ys);
}

abbrev pub member : {c : Carrier} (a : Algebra c) → ℕ → Built (fold_expr a) → Name → Built (fold_expr a)
member a at x name = record {
  tree = expr.Member at x.tree name;
  says = a.expr (open_.Member at x.says name);
  is = eq.fold-Member a at x.tree name
      ∙ ap (λ it. a.expr (open_.Member at it name)) x.is;
}

abbrev pub arrow : {c : Carrier} (a : Algebra c) → ℕ → Built (fold_expr a) → Name → Built (fold_expr a)
arrow a at x name = record {
  tree = expr.Arrow at x.tree name;
  says = a.expr (open_.Arrow at x.says name);
  is = eq.fold-Arrow a at x.tree name
      ∙ ap (λ it. a.expr (open_.Arrow at it name)) x.is;
}

abbrev pub postfix : {c : Carrier} (a : Algebra c) → ℕ → PostfixOperator → Built (fold_expr a) → Built (fold_expr a)
postfix a at op x = record {
  tree = expr.Postfix at op x.tree;
  says = a.expr (open_.Postfix at op x.says);
  is = eq.fold-Postfix a at op x.tree
      ∙ ap (λ it. a.expr (open_.Postfix at op it)) x.is;
}

abbrev pub unary : {c : Carrier} (a : Algebra c) → ℕ → UnaryOperator → Built (fold_expr a) → Built (fold_expr a)
unary a at op x = record {
  tree = expr.Unary at op x.tree;
  says = a.expr (open_.Unary at op x.says);
  is = eq.fold-Unary a at op x.tree
      ∙ ap (λ it. a.expr (open_.Unary at op it)) x.is;
}

abbrev pub sizeof_expr : {c : Carrier} (a : Algebra c) → ℕ → Built (fold_expr a) → Built (fold_expr a)
sizeof_expr a at x = record {
  tree = expr.SizeofExpr at x.tree;
  says = a.expr (open_.SizeofExpr at x.says);
  is = eq.fold-SizeofExpr a at x.tree
      ∙ ap (λ it. a.expr (open_.SizeofExpr at it)) x.is;
}

abbrev pub sizeof_type : {c : Carrier} (a : Algebra c) → ℕ → Built (fold_type_name a) → Built (fold_expr a)
sizeof_type a at x = record {
  tree = expr.SizeofType at x.tree;
  says = a.expr (open_.SizeofType at x.says);
  is = eq.fold-SizeofType a at x.tree
      ∙ ap (λ it. a.expr (open_.SizeofType at it)) x.is;
}

abbrev pub cast : {c : Carrier} (a : Algebra c) → ℕ → Built (fold_type_name a) → Built (fold_expr a) →
    Built (fold_expr a)
cast a at x y = record {
  tree = expr.Cast at x.tree y.tree;
  says = a.expr (open_.Cast at x.says y.says);
  is = eq.fold-Cast a at x.tree y.tree
      ∙ ap (λ it. a.expr (open_.Cast at it (fold_expr a y.tree))) x.is
      ∙ ap (λ it. a.expr (open_.Cast at x.says it)) y.is;
}

abbrev pub binary : {c : Carrier} (a : Algebra c) → ℕ → BinaryOperator → Built (fold_expr a) →
    Built (fold_expr a) → Built (fold_expr a)
binary a at op x y = record {
  tree = expr.Binary at op x.tree y.tree;
  says = a.expr (open_.Binary at op x.says y.says);
  is = eq.fold-Binary a at op x.tree y.tree
      ∙ ap (λ it. a.expr (open_.Binary at op it (fold_expr a y.tree))) x.is
      ∙ ap (λ it. a.expr (open_.Binary at op x.says it)) y.is;
}

abbrev pub conditional : {c : Carrier} (a : Algebra c) → ℕ → Built (fold_expr a) → Built (fold_expr a) →
    Built (fold_expr a) → Built (fold_expr a)
conditional a at x y z = record {
  tree = expr.Conditional at x.tree y.tree z.tree;
  says = a.expr (open_.Conditional at x.says y.says z.says);
  is = eq.fold-Conditional a at x.tree y.tree z.tree
      ∙ ap (λ it. a.expr (open_.Conditional at it (fold_expr a y.tree) (fold_expr a z.tree))) x.is
      ∙ ap (λ it. a.expr (open_.Conditional at x.says it (fold_expr a z.tree))) y.is
      ∙ ap (λ it. a.expr (open_.Conditional at x.says y.says it)) z.is;
}

abbrev pub assign : {c : Carrier} (a : Algebra c) → ℕ → Option BinaryOperator → Built (fold_expr a) →
    Built (fold_expr a) → Built (fold_expr a)
assign a at op x y = record {
  tree = expr.Assign at op x.tree y.tree;
  says = a.expr (open_.Assign at op x.says y.says);
  is = eq.fold-Assign a at op x.tree y.tree
      ∙ ap (λ it. a.expr (open_.Assign at op it (fold_expr a y.tree))) x.is
      ∙ ap (λ it. a.expr (open_.Assign at op x.says it)) y.is;
}

abbrev pub comma : {c : Carrier} (a : Algebra c) → ℕ → Built (fold_expr a) → Built (fold_expr a) → Built (fold_expr a)
comma a at x y = record {
  tree = expr.Comma at x.tree y.tree;
  says = a.expr (open_.Comma at x.says y.says);
  is = eq.fold-Comma a at x.tree y.tree
      ∙ ap (λ it. a.expr (open_.Comma at it (fold_expr a y.tree))) x.is
      ∙ ap (λ it. a.expr (open_.Comma at x.says it)) y.is;
}

abbrev pub named : {c : Carrier} (a : Algebra c) → ℕ → Name → Built (fold_declarator a)
named a at name = record {
  tree = declarator.Name at name;
  says = a.declarator (open_.Name at name);
  is = eq.fold-Name a at name;
}

abbrev pub omitted : {c : Carrier} (a : Algebra c) → Built (fold_declarator a)
omitted a = record {
  tree = declarator.Omitted;
  says = a.declarator open_.Omitted;
  is = eq.fold-Omitted a;
}

abbrev pub grouped_declarator : {c : Carrier} (a : Algebra c) → ℕ → Built (fold_declarator a) →
    Built (fold_declarator a)
grouped_declarator a at x = record {
  tree = declarator.Grouped at x.tree;
  says = a.declarator (open_.Grouped at x.says);
  is = eq.fold-Grouped a at x.tree
      ∙ ap (λ it. a.declarator (open_.Grouped at it)) x.is;
}

abbrev pub pointer : {c : Carrier} (a : Algebra c) → ℕ → List Qualifier → Built (fold_declarator a) →
    Built (fold_declarator a)
pointer a at qualifiers x = record {
  tree = declarator.Pointer at qualifiers x.tree;
  says = a.declarator (open_.Pointer at qualifiers x.says);
  is = eq.fold-Pointer a at qualifiers x.tree
      ∙ ap (λ it. a.declarator (open_.Pointer at qualifiers it)) x.is;
}

abbrev pub array : {c : Carrier} (a : Algebra c) → ℕ → Built (fold_declarator a) → List ArrayWord →
    Option (Built (fold_expr a)) → Built (fold_declarator a)
array a at x words y = record {
  tree = declarator.Array at x.tree words (tree_if (fold_expr a) y);
  says = a.declarator (open_.Array at x.says words (says_if (fold_expr a) y));
  is = eq.fold-Array a at x.tree words (tree_if (fold_expr a) y)
      ∙ ap (λ it. a.declarator (open_.Array at it words (option_map (fold_expr a) (tree_if (fold_expr a) y)))) x.is
      ∙ ap (λ it. a.declarator (open_.Array at x.says words it)) (is_if (fold_expr a) y);
}

abbrev pub function : {c : Carrier} (a : Algebra c) → ℕ → Built (fold_declarator a) →
    List (Built (fold_parameter a)) → Bool → Built (fold_declarator a)
function a at x ys variadic = record {
  tree = declarator.Function at x.tree (trees (fold_parameter a) ys) variadic;
  says = a.declarator (open_.Function at x.says (all_say (fold_parameter a) ys) variadic);
  is = eq.fold-Function a at x.tree (trees (fold_parameter a) ys) variadic
      ∙ ap (λ it. a.declarator (open_.Function at it (map (fold_parameter a) (trees (fold_parameter a) ys))
      variadic)) x.is
      ∙ ap (λ it. a.declarator (open_.Function at x.says it variadic)) (all_are (fold_parameter a) ys);
}

abbrev pub storage : {c : Carrier} (a : Algebra c) → ℕ → StorageClass → Built (fold_specifier a)
storage a at class = record {
  tree = specifier.Storage at class;
  says = a.specifier (open_.Storage at class);
  is = eq.fold-Storage a at class;
}

abbrev pub qualifier : {c : Carrier} (a : Algebra c) → ℕ → Qualifier → Built (fold_specifier a)
qualifier a at q = record {
  tree = specifier.Qualifier at q;
  says = a.specifier (open_.Qualifier at q);
  is = eq.fold-Qualifier a at q;
}

abbrev pub inline_ : {c : Carrier} (a : Algebra c) → ℕ → Built (fold_specifier a)
inline_ a at = record {
  tree = specifier.Inline at;
  says = a.specifier (open_.Inline at);
  is = eq.fold-Inline a at;
}

abbrev pub word : {c : Carrier} (a : Algebra c) → ℕ → TypeWord → Built (fold_specifier a)
word a at w = record {
  tree = specifier.Word at w;
  says = a.specifier (open_.Word at w);
  is = eq.fold-Word a at w;
}

abbrev pub typedef : {c : Carrier} (a : Algebra c) → ℕ → Name → Built (fold_specifier a)
typedef a at name = record {
  tree = specifier.Typedef at name;
  says = a.specifier (open_.Typedef at name);
  is = eq.fold-Typedef a at name;
}

abbrev pub tag : {c : Carrier} (a : Algebra c) → ℕ → AggregateKind → TagName → Built (fold_specifier a)
tag a at kind t = record {
  tree = specifier.Tag at kind t;
  says = a.specifier (open_.Tag at kind t);
  is = eq.fold-Tag a at kind t;
}

abbrev pub aggregate : {c : Carrier} (a : Algebra c) → ℕ → AggregateKind → Option TagName →
    List (Built (fold_member a)) → Built (fold_specifier a)
aggregate a at kind t xs = record {
  tree = specifier.Aggregate at kind t (trees (fold_member a) xs);
  says = a.specifier (open_.Aggregate at kind t (all_say (fold_member a) xs));
  is = eq.fold-Aggregate a at kind t (trees (fold_member a) xs)
      ∙ ap (λ it. a.specifier (open_.Aggregate at kind t it)) (all_are (fold_member a) xs);
}

abbrev pub enum_tag : {c : Carrier} (a : Algebra c) → ℕ → TagName → Built (fold_specifier a)
enum_tag a at t = record {
  tree = specifier.EnumTag at t;
  says = a.specifier (open_.EnumTag at t);
  is = eq.fold-EnumTag a at t;
}

abbrev pub enumeration : {c : Carrier} (a : Algebra c) → ℕ → Option TagName → List (Built (fold_enumerator a)) →
    Bool → Built (fold_specifier a)
enumeration a at t xs trailing = record {
  tree = specifier.Enumeration at t (trees (fold_enumerator a) xs) trailing;
  says = a.specifier (open_.Enumeration at t (all_say (fold_enumerator a) xs) trailing);
  is = eq.fold-Enumeration a at t (trees (fold_enumerator a) xs) trailing
      ∙ ap (λ it. a.specifier (open_.Enumeration at t it trailing)) (all_are (fold_enumerator a) xs);
}

abbrev pub plain : {c : Carrier} (a : Algebra c) → Built (fold_declarator a) → Built (fold_field a)
plain a x = record {
  tree = field.Plain x.tree;
  says = a.field (open_.Plain x.says);
  is = eq.fold-Plain a x.tree
      ∙ ap (λ it. a.field (open_.Plain it)) x.is;
}

abbrev pub bits : {c : Carrier} (a : Algebra c) → ℕ → Option (Built (fold_declarator a)) → Built (fold_expr a) →
    Built (fold_field a)
bits a at x y = record {
  tree = field.Bits at (tree_if (fold_declarator a) x) y.tree;
  says = a.field (open_.Bits at (says_if (fold_declarator a) x) y.says);
  is = eq.fold-Bits a at (tree_if (fold_declarator a) x) y.tree
      ∙ ap (λ it. a.field (open_.Bits at it (fold_expr a y.tree))) (is_if (fold_declarator a) x)
      ∙ ap (λ it. a.field (open_.Bits at (says_if (fold_declarator a) x) it)) y.is;
}

abbrev pub enumerator : {c : Carrier} (a : Algebra c) → ℕ → Name → Option (Built (fold_expr a)) →
    Built (fold_enumerator a)
enumerator a at name x = record {
  tree = record { at = at; name = name; value = (tree_if (fold_expr a) x) };
  says = a.enumerator (record { at = at; name = name; value = (says_if (fold_expr a) x) });
  is = eq.fold-Enumerator a (record { at = at; name = name; value = (tree_if (fold_expr a) x) })
      ∙ ap (λ it. a.enumerator (record { at = at; name = name; value = it })) (is_if (fold_expr a) x);
}

abbrev pub member_declaration : {c : Carrier} (a : Algebra c) → List (Built (fold_specifier a)) →
    List (Built (fold_field a)) → Built (fold_member a)
member_declaration a xs ys = record {
  tree = record { specifiers = (trees (fold_specifier a) xs); fields = (trees (fold_field a) ys) };
  says = a.member (record { specifiers = (all_say (fold_specifier a) xs); fields = (all_say (fold_field a) ys) });
  is = eq.fold-MemberDeclaration a (record {
    specifiers = (trees (fold_specifier a) xs);
    fields =
        (trees (fold_field a) ys);
  })
      ∙ ap (λ it. a.member (record { specifiers = it; fields = (map (fold_field a) (trees (fold_field a) ys)) }))
      (all_are (fold_specifier a) xs)
      ∙ ap (λ it. a.member (record {
        specifiers = (all_say (fold_specifier a) xs);
        fields =
            it;
      })) (all_are (fold_field a) ys);
}

abbrev pub parameter : {c : Carrier} (a : Algebra c) → List (Built (fold_specifier a)) →
    Built (fold_declarator a) → Built (fold_parameter a)
parameter a xs y = record {
  tree = record { specifiers = (trees (fold_specifier a) xs); declarator = y.tree };
  says = a.parameter (record { specifiers = (all_say (fold_specifier a) xs); declarator = y.says });
  is = eq.fold-Parameter a (record { specifiers = (trees (fold_specifier a) xs); declarator = y.tree })
      ∙ ap (λ it. a.parameter (record {
        specifiers = it;
        declarator =
            (fold_declarator a y.tree);
      })) (all_are (fold_specifier a) xs)
      ∙ ap (λ it. a.parameter (record { specifiers = (all_say (fold_specifier a) xs); declarator = it })) y.is;
}

abbrev pub type_name : {c : Carrier} (a : Algebra c) → List (Built (fold_specifier a)) →
    Built (fold_declarator a) → Built (fold_type_name a)
type_name a xs y = record {
  tree = record { specifiers = (trees (fold_specifier a) xs); declarator = y.tree };
  says = a.type_name (record { specifiers = (all_say (fold_specifier a) xs); declarator = y.says });
  is = eq.fold-TypeName a (record { specifiers = (trees (fold_specifier a) xs); declarator = y.tree })
      ∙ ap (λ it. a.type_name (record {
        specifiers = it;
        declarator =
            (fold_declarator a y.tree);
      })) (all_are (fold_specifier a) xs)
      ∙ ap (λ it. a.type_name (record { specifiers = (all_say (fold_specifier a) xs); declarator = it })) y.is;
}
