-- Declarations in a block: what the functions of this crate make is the core of the declaration.
use Rattle.std.proofs.Common.{◌≡◌, ℕ, ◌+◌, Bool, true, false, List, [], ◌∷◌, map, Option, Some, None}
use Rattle.std.proofs.Common.{refl, sym, ap, ap₂, ◌∙◌, subst}
use Rattle.c_language.specs.declared.ctype.CType.{CType}
use Rattle.c_language.specs.declared.tables.Tables.{Tables}
use Rattle.c_language.specs.Types.{class_of}
use Rattle.c_language.specs.declared.scope.Entry.{Entry}
use Rattle.c_language.specs.declared.scope.Linkage.{Linkage}
use Rattle.c_language.specs.Initials.{Part, Filling, is_text_of}
use Rattle.c_language.specs.Scopes.{Name, Scope, empty}
use Rattle.c_language.specs.Typing.{Typed, typed_in, type_of, an_object}
use Rattle.c_means.specs.Parts as c
use Rattle.c_means.specs.Values.{class_in, bytes_of}
use Rattle.c_means.specs.Notes.{Noted}
use Rattle.c_means.specs.Initials as initials
use Rattle.c_means.specs.Items as runs
use Rattle.c_means.specs.Statements as statements
use Rattle.core_tree.specs.declared.code.Code.{Code}
use Rattle.core_tree.specs.declared.code.Code.TheVariants as tree
use Rattle.core_tree.specs.declared.code.Setting.{Setting}
use Rattle.core_tree.specs.declared.code.Setting.TheVariants as setting
use Rattle.core_tree.specs.declared.expr.Expr.{Expr}
use Rattle.core_tree.specs.declared.types.ValueType.{ValueType}
use Rattle.core_tree.specs.States.{Output, Level}
use Rattle.core_tree.specs.Values.{value, all_sizes}
use Rattle.core_tree.proofs.Equations as eq
use Rattle.elaborate.specs.Means.{Numbering, Like, IsValueOf, IsCodeOf, SameType, OfType}
use Rattle.elaborate.proofs.Codes.{by_item, nothing_code}
use Rattle.elaborate.proofs.Choices.{Sets, value_sets}
use Rattle.elaborate.proofs.Objects.{stored_in}
use Rattle.core_forms.specs.Nodes.{type_as}
use Rattle.code_forms.specs.Nodes.{value_setting_node}

module _ (numbering : Numbering) where
  -- ---- parts that are set

  -- a part that an expression's value sets
  pub value_setting_sets : (tables : Tables) (p : Part) (n : Noted) (e : Expr) (y : Setting)
      → tables ≡ n.part.typed.after.tables → is_text_of p.type n.part.typed ≡ false → IsValueOf numbering e n.part
      → y ≡ value_setting_node tables p.type p.offset e → Sets numbering y p n
  value_setting_sets tables p n e y t no_text h made =
      subst (λ y. Sets numbering y p n) (sym (made ∙ ap (λ u. value_setting_node u p.type p.offset e) t))
      (value_sets numbering e (type_as n.part.typed.after.tables (Some p.type)) p n no_text
      (stored_in n.part.typed.after.tables (Some p.type)) h)

  -- ---- objects that live throughout the run

  -- one without
  pub bare_lasting_code : (at : ℕ) (en : Entry) (n : ℕ) (l : Linkage) (s : Scope)
      → IsCodeOf numbering (tree.Static true []) (statements.lasting at en n l true initials.uninitialised s)
  bare_lasting_code at en n l s = by_item numbering _ _ _ (eq.does-Static true []) (record {
    size = λ l k like. refl;
    room = λ l k like. refl;
    objects = λ l k like base. refl;
    runs = λ l k like env base d. refl;
  })

  -- one that is defined elsewhere
  pub declared_lasting_code : (at : ℕ) (en : Entry) (n : ℕ) (l : Linkage) (x : initials.Initial) (s : Scope)
      → IsCodeOf numbering (tree.Static false []) (statements.lasting at en n l false x s)
  declared_lasting_code at en n l x s = by_item numbering _ _ _ (eq.does-Static false []) (record {
    size = λ l k like. refl;
    room = λ l k like. refl;
    objects = λ l k like base. refl;
    runs = λ l k like env base d. refl;
  })

  -- ---- what does nothing

  -- a function
  pub function_declared_code : (names : List Name) (s : Scope)
      → IsCodeOf numbering (tree.Nothing false) (record (runs.nothing s) { links = names })
  function_declared_code names s =
      let r = nothing_code numbering s in
      record { size = r.size; room = r.room; objects = r.objects; runs = r.runs }
