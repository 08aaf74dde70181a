-- A whole declaration, by the storage class and the type that its specifiers say.
use Rattle.std.proofs.Common.{◌≡◌, Bool, List, [], ◌∷◌, map, Option, Some, None, refl, ap, sym, ◌∙◌}
use Rattle.c_language.specs.declared.unit.Declaration.{Declaration}
use Rattle.c_language.specs.declared.unit.InitDeclarator.{InitDeclarator}
use Rattle.c_language.specs.declared.ctype.CType.{CType}
use Rattle.c_language.specs.Scopes.{Scope}
use Rattle.c_language.specs.Declares.{Said, Whole, said_by, specified, specified_as}
use Rattle.c_language.specs.Declarations.{Declares, Item, each_item, and_declared, declares, is_alone, behind_specifiers}
use Rattle.c_language.specs.Trees.{specifier_says}
use Rattle.c_language.specs.Units.{declaration_says}
use Rattle.c_declares.specs.declared.said.Said.{Said as Held}
use Rattle.c_declares.specs.Views.{said_in}
use Rattle.c_declarations.specs.Views.{each_as, item_of}

each_is : (said : Said) (x : Declares) (ys : List Item)
    → each_item said x ys ≡ each_as said.storage (specified said) x ys
each_is said x [] = refl
each_is said x (y ∷ ys) = each_is said (and_declared x (declares said (y.declarator x.after) y.initial)) ys

specified_by : (x : Held) (s t : Scope) (w : Whole) → specified_as (said_in x s) w ≡ specified_as (said_in x t) w
specified_by x s t None = refl
specified_by x s t (Some None) = refl
specified_by x s t (Some (Some u)) = refl

pub specified_free : (x : Held) (s t : Scope) → specified (said_in x s) ≡ specified (said_in x t)
specified_free x s t = specified_by x s t x.whole

pub whole_is : (x : Declaration) (s t : Scope) (said : Held) (alone : Bool)
    → said_in said t ≡ said_by (map specifier_says x.specifiers) alone [] s
    → alone ≡ is_alone (map item_of x.declarators)
    → each_as said.storage (specified (said_in said t)) (behind_specifiers (said_in said t)) (map item_of x.declarators)
    ≡ declaration_says x s
whole_is x s t said alone e f =
    sym (each_is (said_in said t) (behind_specifiers (said_in said t)) (map item_of x.declarators))
    ∙ ap (λ (y : Said). each_item y (behind_specifiers y) (map item_of x.declarators))
    (e ∙ ap (λ (b : Bool). said_by (map specifier_says x.specifiers) b [] s) f)
