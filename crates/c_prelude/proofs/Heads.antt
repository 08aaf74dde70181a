-- The heads of the functions that have a body here, by what their trees say.
use Rattle.std.proofs.Common.{◌≡◌, Bool, true, false, cond, ℕ, ◌+◌, ◌^◌, List, [], ◌∷◌, ◌++◌, map, length, Option, Some, None, refl, ap, ap₂, ◌∙◌}
use Rattle.std.specs.Prelude.{option_map}
use Rattle.std.specs.Str.{bytes_eq}
use Rattle.c_language.specs.declared.expr.Qualifier.TheVariants as qualifier
use Rattle.c_language.specs.declared.expr.TypeWord.{TypeWord}
use Rattle.c_language.specs.declared.expr.TypeWord.TheVariants as w
use Rattle.c_language.specs.declared.unit.Body.{Body}
use Rattle.c_language.specs.declared.unit.Body.TheVariants as body
use Rattle.c_language.specs.declared.unit.External.TheVariants as external
use Rattle.c_language.specs.Folds.{fold_specifier}
use Rattle.c_language.specs.Declares.{Says}
use Rattle.c_language.specs.Declarations.{FunctionSaid, function_by}
use Rattle.c_language.specs.Scopes.{Name, empty}
use Rattle.c_language.proofs.Built.{trees, all_say}
use Rattle.c_language.proofs.Built as built
use Rattle.c_language.specs.declared.scope.Entry.{Entry}
use Rattle.c_means.specs.Notes.{ExprNoted, noting, declarator_noted, specifier_noted}
use Rattle.c_language.specs.declared.expr.Specifier.{Specifier}
use Rattle.c_language.specs.declared.unit.External.{External}
use Rattle.c_means.specs.Items.{Item}
use Rattle.c_means.specs.Names.{Names}
use Rattle.c_means.specs.Programs.{Function, program_of, functions_of, function_if, function_from, function_named}
use Rattle.c_means.specs.Rules.{declared_taking}
use Rattle.c_means.specs.Prelude as texts
use Rattle.c_means.proofs.RunScene.{OfSpecifier, OfDeclarator, OfParameter, specifiers_are, declarator_is}
use Rattle.c_prelude.specs.Heads.{Head, head_of, head_named}
use Rattle.c_prelude.specs.Heads as heads

-- ---- spelling, as in the prelude's text

abbrev far : ℕ → ℕ
far n = 2 ^ 31 + n

abbrev word : ℕ → TypeWord → OfSpecifier
word n x = built.word noting (far n) x

abbrev const : ℕ → OfSpecifier
const n = built.qualifier noting (far n) qualifier.Const

abbrev name : ℕ → Name → OfDeclarator
name n x = built.named noting (far n) x

abbrev pointer : ℕ → OfDeclarator → OfDeclarator
pointer n d = built.pointer noting (far n) [] d

abbrev taking : ℕ → OfDeclarator → List OfParameter → OfDeclarator
taking n d ps = built.function noting (far n) d ps false

abbrev parameter : List OfSpecifier → OfDeclarator → OfParameter
parameter ss d = built.parameter noting ss d

-- ---- the head of a function that its file alone declares

abbrev head_if : FunctionSaid → Option Entry → List Head
head_if f None = []
head_if f (Some e) = record {
  name = e.name;
  taking = declared_taking f.inside.tables e.means;
  parameters = length f.parameters;
} ∷ []

by_entry : (f : FunctionSaid) (e : Option Entry) (unread : Option ℕ) (b : Item) (names : Names)
    → map head_of (function_if (function_from f e unread b names) []) ≡ head_if f e
by_entry f None unread b names = refl
by_entry f (Some e) unread b names = refl

abbrev specifiers_of : List OfSpecifier → List Specifier
specifiers_of ss = trees (fold_specifier {c = Says ExprNoted} noting) ss

abbrev said_by : List OfSpecifier → OfDeclarator → FunctionSaid
said_by ss d = function_by (all_say (fold_specifier {c = Says ExprNoted} noting) ss) d.says empty

abbrev alone : List OfSpecifier → OfDeclarator → Body → List Function
alone ss d b = functions_of (program_of (external.Function (specifiers_of ss) d.tree b ∷ []))

head_is : (ss : List OfSpecifier) (d : OfDeclarator) (b : Body) → map head_of (alone ss d b)
    ≡ head_if (said_by ss d) (said_by ss d).entry
head_is ss d b =
    by_entry (function_by (map specifier_noted (specifiers_of ss)) (declarator_noted d.tree) empty)
    (function_by (map specifier_noted (specifiers_of ss)) (declarator_noted d.tree) empty).entry _ _ _
    ∙ ap₂ (λ xs y. head_if (function_by xs y empty) (function_by xs y empty).entry) (specifiers_are ss)
    (declarator_is d)

-- ---- the nine functions

abbrev body_of : External → Body
body_of (external.Function ss d b) = b
body_of (external.Declared d) = body.Unread 0
body_of (external.Empty at) = body.Unread 0

strlen_head : map head_of (functions_of (program_of (texts.strlen ∷ []))) ≡ heads.strlen ∷ []
unfolding declarator_noted
strlen_head =
    head_is (word 0 w.Unsigned ∷ word 9 w.Long ∷ []) (taking 20 (name 14 heads.strlen.name) (parameter (const
    21 ∷ word 27 w.Char ∷ []) (pointer 32 (name 33 (115 ∷ []))) ∷ [])) (body_of texts.strlen)

strcmp_head : map head_of (functions_of (program_of (texts.strcmp ∷ []))) ≡ heads.strcmp ∷ []
unfolding declarator_noted
strcmp_head =
    head_is (word 89 w.Int ∷ []) (taking 99 (name 93 heads.strcmp.name) (parameter (const 100 ∷ word 106
    w.Char ∷ []) (pointer 111 (name 112 (97 ∷ []))) ∷ parameter (const 115 ∷ word 121 w.Char ∷ []) (pointer
    126 (name 127 (98 ∷ []))) ∷ [])) (body_of texts.strcmp)

strncmp_head : map head_of (functions_of (program_of (texts.strncmp ∷ []))) ≡ heads.strncmp ∷ []
unfolding declarator_noted
strncmp_head =
    head_is (word 239 w.Int ∷ []) (taking 250 (name 243 heads.strncmp.name) (parameter (const 251 ∷ word 257
    w.Char ∷ []) (pointer 262 (name 263 (97 ∷ []))) ∷ parameter (const 266 ∷ word 272 w.Char ∷ []) (pointer
    277 (name 278 (98 ∷ []))) ∷ parameter (word 281 w.Unsigned ∷ word 290 w.Long ∷ []) (name 295 (110 ∷ [])) ∷
    [])) (body_of texts.strncmp)

strchr_head : map head_of (functions_of (program_of (texts.strchr ∷ []))) ≡ heads.strchr ∷ []
unfolding declarator_noted
strchr_head =
    head_is (word 438 w.Char ∷ []) (pointer 443 (taking 450 (name 444 heads.strchr.name) (parameter (const 451
    ∷ word 457 w.Char ∷ []) (pointer 462 (name 463 (115 ∷ []))) ∷ parameter (word 466 w.Int ∷ []) (name 470
    (99 ∷ [])) ∷ []))) (body_of texts.strchr)

strcpy_head : map head_of (functions_of (program_of (texts.strcpy ∷ []))) ≡ heads.strcpy ∷ []
unfolding declarator_noted
strcpy_head =
    head_is (word 545 w.Char ∷ []) (pointer 550 (taking 557 (name 551 heads.strcpy.name) (parameter (word 558
    w.Char ∷ []) (pointer 563 (name 564 (100 ∷ []))) ∷ parameter (const 567 ∷ word 573 w.Char ∷ []) (pointer
    578 (name 579 (115 ∷ []))) ∷ []))) (body_of texts.strcpy)

strcat_head : map head_of (functions_of (program_of (texts.strcat ∷ []))) ≡ heads.strcat ∷ []
unfolding declarator_noted
strcat_head =
    head_is (word 644 w.Char ∷ []) (pointer 649 (taking 656 (name 650 heads.strcat.name) (parameter (word 657
    w.Char ∷ []) (pointer 662 (name 663 (100 ∷ []))) ∷ parameter (const 666 ∷ word 672 w.Char ∷ []) (pointer
    677 (name 678 (115 ∷ []))) ∷ []))) (body_of texts.strcat)

memset_head : map head_of (functions_of (program_of (texts.memset ∷ []))) ≡ heads.memset ∷ []
unfolding declarator_noted
memset_head =
    head_is (word 786 w.Void ∷ []) (pointer 791 (taking 798 (name 792 heads.memset.name) (parameter (word 799
    w.Void ∷ []) (pointer 804 (name 805 (100 ∷ []))) ∷ parameter (word 808 w.Int ∷ []) (name 812 (99 ∷ [])) ∷
    parameter (word 815 w.Unsigned ∷ word 824 w.Long ∷ []) (name 829 (110 ∷ [])) ∷ []))) (body_of texts.memset)

memcpy_head : map head_of (functions_of (program_of (texts.memcpy ∷ []))) ≡ heads.memcpy ∷ []
unfolding declarator_noted
memcpy_head =
    head_is (word 919 w.Void ∷ []) (pointer 924 (taking 931 (name 925 heads.memcpy.name) (parameter (word 932
    w.Void ∷ []) (pointer 937 (name 938 (100 ∷ []))) ∷ parameter (const 941 ∷ word 947 w.Void ∷ []) (pointer
    952 (name 953 (115 ∷ []))) ∷ parameter (word 956 w.Unsigned ∷ word 965 w.Long ∷ []) (name 970 (110 ∷ []))
    ∷ []))) (body_of texts.memcpy)

atoi_head : map head_of (functions_of (program_of (texts.atoi ∷ []))) ≡ heads.atoi ∷ []
unfolding declarator_noted
atoi_head =
    head_is (word 1091 w.Int ∷ []) (taking 1099 (name 1095 heads.atoi.name) (parameter (const 1100 ∷ word 1106
    w.Char ∷ []) (pointer 1111 (name 1112 (115 ∷ []))) ∷ [])) (body_of texts.atoi)

-- ---- all of them

joined : (xs ys : List Function) → map head_of (xs ++ ys) ≡ map head_of xs ++ map head_of ys
joined [] ys = refl
joined (x ∷ xs) ys = ap (λ zs. head_of x ∷ zs) (joined xs ys)

next : (x : External) (xs : List External) (h : Head) (hs : List Head) → map head_of (functions_of (program_of (x ∷ []))) ≡ h ∷ []
    → map head_of (texts.functions_from xs) ≡ hs → map head_of (texts.functions_from (x ∷ xs)) ≡ h ∷ hs
next x xs h hs first rest =
    joined (functions_of (program_of (x ∷ []))) (texts.functions_from xs) ∙ ap₂ (λ a b. a ++ b) first rest

abbrev from : List External → List Head → Type 0
from xs hs = map head_of (texts.functions_from xs) ≡ hs

from_atoi : from (texts.atoi ∷ []) (heads.atoi ∷ [])
from_atoi = next texts.atoi ([]) heads.atoi ([]) atoi_head refl

from_memcpy : from (texts.memcpy ∷ texts.atoi ∷ []) (heads.memcpy ∷ heads.atoi ∷ [])
from_memcpy = next texts.memcpy (texts.atoi ∷ []) heads.memcpy (heads.atoi ∷ []) memcpy_head from_atoi

from_memset : from (texts.memset ∷ texts.memcpy ∷ texts.atoi ∷ []) (heads.memset ∷ heads.memcpy ∷ heads.atoi ∷
    [])
from_memset = next texts.memset (texts.memcpy ∷ texts.atoi ∷ []) heads.memset (heads.memcpy ∷ heads.atoi ∷ [])
    memset_head from_memcpy

from_strcat : from (texts.strcat ∷ texts.memset ∷ texts.memcpy ∷ texts.atoi ∷ []) (heads.strcat ∷ heads.memset ∷
    heads.memcpy ∷ heads.atoi ∷ [])
from_strcat = next texts.strcat (texts.memset ∷ texts.memcpy ∷ texts.atoi ∷ []) heads.strcat (heads.memset ∷
    heads.memcpy ∷ heads.atoi ∷ []) strcat_head from_memset

from_strcpy : from (texts.strcpy ∷ texts.strcat ∷ texts.memset ∷ texts.memcpy ∷ texts.atoi ∷ []) (heads.strcpy ∷
    heads.strcat ∷ heads.memset ∷ heads.memcpy ∷ heads.atoi ∷ [])
from_strcpy = next texts.strcpy (texts.strcat ∷ texts.memset ∷ texts.memcpy ∷ texts.atoi ∷ []) heads.strcpy
    (heads.strcat ∷ heads.memset ∷ heads.memcpy ∷ heads.atoi ∷ []) strcpy_head from_strcat

from_strchr : from (texts.strchr ∷ texts.strcpy ∷ texts.strcat ∷ texts.memset ∷ texts.memcpy ∷ texts.atoi ∷ [])
    (heads.strchr ∷ heads.strcpy ∷ heads.strcat ∷ heads.memset ∷ heads.memcpy ∷ heads.atoi ∷ [])
from_strchr = next texts.strchr (texts.strcpy ∷ texts.strcat ∷ texts.memset ∷ texts.memcpy ∷ texts.atoi ∷ [])
    heads.strchr (heads.strcpy ∷ heads.strcat ∷ heads.memset ∷ heads.memcpy ∷ heads.atoi ∷ [])
    strchr_head from_strcpy

from_strncmp : from (texts.strncmp ∷ texts.strchr ∷ texts.strcpy ∷ texts.strcat ∷ texts.memset ∷ texts.memcpy ∷
    texts.atoi ∷ []) (heads.strncmp ∷ heads.strchr ∷ heads.strcpy ∷ heads.strcat ∷ heads.memset ∷ heads.memcpy ∷
    heads.atoi ∷ [])
from_strncmp = next texts.strncmp (texts.strchr ∷ texts.strcpy ∷ texts.strcat ∷ texts.memset ∷ texts.memcpy ∷
    texts.atoi ∷ []) heads.strncmp (heads.strchr ∷ heads.strcpy ∷ heads.strcat ∷ heads.memset ∷
    heads.memcpy ∷ heads.atoi ∷ []) strncmp_head from_strchr

from_strcmp : from (texts.strcmp ∷ texts.strncmp ∷ texts.strchr ∷ texts.strcpy ∷ texts.strcat ∷ texts.memset ∷
    texts.memcpy ∷ texts.atoi ∷ []) (heads.strcmp ∷ heads.strncmp ∷ heads.strchr ∷ heads.strcpy ∷ heads.strcat ∷
    heads.memset ∷ heads.memcpy ∷ heads.atoi ∷ [])
from_strcmp = next texts.strcmp (texts.strncmp ∷ texts.strchr ∷ texts.strcpy ∷ texts.strcat ∷ texts.memset ∷
    texts.memcpy ∷ texts.atoi ∷ []) heads.strcmp (heads.strncmp ∷ heads.strchr ∷ heads.strcpy ∷
    heads.strcat ∷ heads.memset ∷ heads.memcpy ∷ heads.atoi ∷ []) strcmp_head from_strncmp

from_strlen : from (texts.strlen ∷ texts.strcmp ∷ texts.strncmp ∷ texts.strchr ∷ texts.strcpy ∷ texts.strcat ∷
    texts.memset ∷ texts.memcpy ∷ texts.atoi ∷ []) (heads.strlen ∷ heads.strcmp ∷ heads.strncmp ∷ heads.strchr ∷
    heads.strcpy ∷ heads.strcat ∷ heads.memset ∷ heads.memcpy ∷ heads.atoi ∷ [])
from_strlen = next texts.strlen (texts.strcmp ∷ texts.strncmp ∷ texts.strchr ∷ texts.strcpy ∷ texts.strcat ∷
    texts.memset ∷ texts.memcpy ∷ texts.atoi ∷ []) heads.strlen (heads.strcmp ∷ heads.strncmp ∷
    heads.strchr ∷ heads.strcpy ∷ heads.strcat ∷ heads.memset ∷ heads.memcpy ∷ heads.atoi ∷ [])
    strlen_head from_strcmp

-- the heads of the prelude's functions, in order
pub heads_are : map head_of texts.prelude_functions ≡ heads.heads
heads_are = from_strlen

-- ---- the function of a name, by its head

by_name : (b : Bool) (f : Function) (o : Option Function) (h : Option Head) → option_map head_of o ≡ h
    → option_map head_of (cond b (Some f) o) ≡ cond b (Some (head_of f)) h
by_name true f o h is = refl
by_name false f o h is = is

in_list : (fs : List Function) (n : Name) → option_map head_of (function_named fs n) ≡ head_named (map head_of fs) n
in_list [] n = refl
in_list (f ∷ fs) n = by_name (bytes_eq f.name n) f (function_named fs n) (head_named (map head_of fs) n) (in_list fs n)

pub prelude_head : (n : Name) → option_map head_of (function_named texts.prelude_functions n) ≡ head_named heads.heads n
prelude_head n = in_list texts.prelude_functions n ∙ ap (λ hs. head_named hs n) heads_are
