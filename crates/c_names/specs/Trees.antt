-- The names in the kinds of tree for which `c_means` has no name of its own.
use Rattle.std.specs.Prelude.{ℕ, List}
use Rattle.c_language.specs.declared.expr.Declarator.{Declarator}
use Rattle.c_language.specs.declared.expr.Enumerator.{Enumerator}
use Rattle.c_language.specs.declared.expr.Field.{Field}
use Rattle.c_language.specs.declared.expr.MemberDeclaration.{MemberDeclaration}
use Rattle.c_language.specs.declared.expr.Parameter.{Parameter}
use Rattle.c_language.specs.declared.expr.Specifier.{Specifier}
use Rattle.c_language.specs.declared.expr.TypeName.{TypeName}
use Rattle.c_language.specs.declared.unit.Body.{Body}
use Rattle.c_language.specs.declared.unit.InitializerItem.{InitializerItem, fold-InitializerItem}
use Rattle.c_language.specs.Folds.{fold_enumerator, fold_field, fold_member, fold_parameter, fold_type_name}
use Rattle.c_language.specs.Scopes.{Name}
use Rattle.c_means.specs.Names.{Names, Every, naming, ◌then◌, initializer_step, item_step, settled, all_of}
use Rattle.c_means.specs.Names.{specifier_of, with_body, declarator_names, body_names}
use Rattle.c_names.specs.declared.found.NameAt.{NameAt}

unfoldable pub field_names : Field → Names
field_names x = fold_field {c = Every} naming x

unfoldable pub enumerator_names : Enumerator → Names
enumerator_names x = fold_enumerator {c = Every} naming x

unfoldable pub member_names : MemberDeclaration → Names
member_names x = fold_member {c = Every} naming x

unfoldable pub parameter_names : Parameter → Names
parameter_names x = fold_parameter {c = Every} naming x

unfoldable pub type_name_names : TypeName → Names
type_name_names x = fold_type_name {c = Every} naming x

unfoldable pub item_names : InitializerItem → Names
item_names x = fold-InitializerItem Names Names initializer_step item_step x

-- a name beside its offset
abbrev pub pair : NameAt → ℕ × Name
pair n = (n.at, n.name)

-- a function definition
abbrev pub function_names : List Specifier → Declarator → Body → Names
function_names specifiers declarator b =
    settled (all_of specifier_of specifiers then with_body (declarator_names declarator) (body_names b))
