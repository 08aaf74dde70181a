-- The nodes of the core for forms that lack a part, and for parts of objects.
use Rattle.std.specs.Prelude.{◌≡◌, ℕ, false, Option, Some, None}
use Rattle.c_language.specs.declared.ctype.CType.{CType}
use Rattle.c_language.specs.declared.tables.Tables.{Tables}
use Rattle.core_tree.specs.declared.code.Code.{Code}
use Rattle.core_tree.specs.declared.code.Code.TheVariants as code
use Rattle.core_tree.specs.declared.code.Setting.{Setting}
use Rattle.core_tree.specs.declared.code.Setting.TheVariants as setting
use Rattle.core_tree.specs.declared.expr.Expr.{Expr}
use Rattle.core_forms.specs.Nodes.{type_as}

-- a missing `else` does nothing
abbrev pub negative_node : Option Code → Code
negative_node None = code.Nothing false
negative_node (Some x) = x

-- a part of this type that is set to a value, so many bytes behind an object's first
abbrev pub value_setting_node : Tables → CType → ℕ → Expr → Setting
value_setting_node tables t offset e = setting.Value offset (type_as tables (Some t)) e
