-- The scene of the worked rows: some objects and functions of a file, how trees over them are spelled, and what they
-- come to. Each object has the number of its declaration's offset, a literal that of its own offset.
use Rattle.std.proofs.Common.{ℕ, ◌+◌, ℤ, pos, negsuc, List, [], ◌∷◌, false, cond, Option, Some, None}
use Rattle.std.proofs.Common.{Result, Ok, Err}
use Rattle.std.specs.Prelude.{◌||◌}
use Rattle.std.specs.Str.{bytes_eq}
use Rattle.plain_data.specs.declared.run.Event.{Event}
use Rattle.plain_data.specs.declared.run.Finish.TheVariants as finish
use Rattle.plain_data.specs.declared.run.Happening.{Happening}
use Rattle.plain_data.specs.declared.run.Undefined.{Undefined}
use Rattle.c_language.specs.declared.token.IntegerType.TheVariants as i
use Rattle.c_language.specs.declared.expr.AggregateKind.TheVariants as kind_
use Rattle.c_language.specs.declared.expr.BinaryOperator.{BinaryOperator}
use Rattle.c_language.specs.declared.expr.PostfixOperator.TheVariants as postfix_
use Rattle.c_language.specs.declared.expr.UnaryOperator.{UnaryOperator}
use Rattle.c_language.specs.declared.expr.UnaryOperator.TheVariants as u
use Rattle.c_language.specs.declared.expr.TypeWord.{TypeWord}
use Rattle.c_language.specs.declared.expr.TypeWord.TheVariants as w
use Rattle.c_language.specs.Folds.{fold_expr, fold_declarator, fold_specifier, fold_member, fold_type_name}
use Rattle.c_store.specs.declared.object.Object.{Object}
use Rattle.c_store.specs.declared.object.ObjectKind.{ObjectKind}
use Rattle.c_store.specs.declared.object.ObjectKind.TheVariants as object
use Rattle.c_store.specs.Store.{Store, initial, make, end}
use Rattle.c_language.specs.declared.scope.Fault.{Fault}
use Rattle.c_language.specs.Scopes.{Name, Scope, empty, enter}
use Rattle.c_language.specs.Declares.{Says}
use Rattle.c_language.specs.Declarations.{declaration_by}
use Rattle.c_language.proofs.Built.{Built}
use Rattle.c_language.proofs.Built as built
use Rattle.c_means.specs.declared.kind.Kind.{Kind}
use Rattle.c_means.specs.declared.kind.Kind.TheVariants as kind
use Rattle.c_means.specs.Parts.{State, Outcome, Env, Calls, Level, entered, print}
use Rattle.c_means.specs.Trees.{ExprMeans, meaning}

abbrev pub OfExpr : Type 0
OfExpr = Built (fold_expr {c = Says ExprMeans} meaning)

abbrev pub OfDeclarator : Type 0
OfDeclarator = Built (fold_declarator {c = Says ExprMeans} meaning)

abbrev pub OfSpecifier : Type 0
OfSpecifier = Built (fold_specifier {c = Says ExprMeans} meaning)

abbrev pub OfMember : Type 0
OfMember = Built (fold_member {c = Says ExprMeans} meaning)

abbrev pub OfTypeName : Type 0
OfTypeName = Built (fold_type_name {c = Says ExprMeans} meaning)

-- ---- names

abbrev pub a' : Name
a' = 97 ∷ []

abbrev pub b' : Name
b' = 98 ∷ []

abbrev pub c' : Name
c' = 99 ∷ []

abbrev pub e' : Name
e' = 101 ∷ []

abbrev pub f' : Name
f' = 102 ∷ []

abbrev pub g' : Name
g' = 103 ∷ []

abbrev pub h' : Name
h' = 104 ∷ []

abbrev pub q' : Name
q' = 113 ∷ []

abbrev pub k' : Name
k' = 107 ∷ []

abbrev pub m' : Name
m' = 109 ∷ []

abbrev pub p' : Name
p' = 112 ∷ []

abbrev pub r' : Name
r' = 114 ∷ []

abbrev pub s' : Name
s' = 115 ∷ []

abbrev pub t' : Name
t' = 116 ∷ []

abbrev pub u' : Name
u' = 117 ∷ []

abbrev pub v' : Name
v' = 118 ∷ []

abbrev pub w' : Name
w' = 119 ∷ []

abbrev pub x' : Name
x' = 120 ∷ []

abbrev pub y' : Name
y' = 121 ∷ []

abbrev pub z' : Name
z' = 122 ∷ []

-- ---- spelling: an offset is told where a row asks for it

abbrev pub int : ℕ → OfExpr
int n = built.integer meaning 0 (record { value = n; integer_type = i.Int })

abbrev pub unsigned : ℕ → OfExpr
unsigned n = built.integer meaning 0 (record { value = n; integer_type = i.Unsigned })

abbrev pub text : ℕ → List ℕ → OfExpr
text at bytes = built.string meaning at (bytes ∷ [])

abbrev pub the : Name → OfExpr
the name = built.identifier meaning 0 name

abbrev pub op : ℕ → BinaryOperator → OfExpr → OfExpr → OfExpr
op at o x y = built.binary meaning at o x y

abbrev pub un : ℕ → UnaryOperator → OfExpr → OfExpr
un at o x = built.unary meaning at o x

abbrev pub minus : OfExpr → OfExpr
minus x = un 0 u.Minus x

abbrev pub address : OfExpr → OfExpr
address x = un 0 u.Address x

abbrev pub deref : ℕ → OfExpr → OfExpr
deref at x = un at u.Indirection x

abbrev pub element : ℕ → OfExpr → OfExpr → OfExpr
element at x y = built.subscript meaning at x y

abbrev pub dot : OfExpr → Name → OfExpr
dot x name = built.member meaning 0 x name

abbrev pub arrow : ℕ → OfExpr → Name → OfExpr
arrow at x name = built.arrow meaning at x name

abbrev pub set : OfExpr → OfExpr → OfExpr
set x y = built.assign meaning 0 None x y

abbrev pub set_at : ℕ → OfExpr → OfExpr → OfExpr
set_at at x y = built.assign meaning at None x y

abbrev pub set_by : ℕ → BinaryOperator → OfExpr → OfExpr → OfExpr
set_by at o x y = built.assign meaning at (Some o) x y

abbrev pub after_increment : ℕ → OfExpr → OfExpr
after_increment at x = built.postfix meaning at postfix_.Increment x

abbrev pub after_decrement : ℕ → OfExpr → OfExpr
after_decrement at x = built.postfix meaning at postfix_.Decrement x

infixr 3 ◌then◌
abbrev pub ◌then◌ : OfExpr → OfExpr → OfExpr
x then y = built.comma meaning 0 x y

abbrev pub grouped : OfExpr → OfExpr
grouped x = built.grouped meaning 0 x

abbrev pub call : ℕ → Name → List OfExpr → OfExpr
call at name xs = built.call meaning 0 (built.identifier meaning at name) xs

abbrev pub choice : ℕ → OfExpr → OfExpr → OfExpr → OfExpr
choice at c x y = built.conditional meaning at c x y

abbrev pub word : TypeWord → OfSpecifier
word x = built.word meaning 0 x

abbrev pub omitted : OfDeclarator
omitted = built.omitted meaning

abbrev pub pointer : OfDeclarator → OfDeclarator
pointer d = built.pointer meaning 0 [] d

abbrev pub array : ℕ → OfDeclarator → OfDeclarator
array n d = built.array meaning 0 d [] (Some (int n))

abbrev pub type : List OfSpecifier → OfDeclarator → OfTypeName
type ss d = built.type_name meaning ss d

abbrev pub to : OfTypeName → OfExpr → OfExpr
to t x = built.cast meaning 0 t x

abbrev pub size_of : OfExpr → OfExpr
size_of x = built.sizeof_expr meaning 0 x

-- ---- the file

abbrev pub declare : ℕ → Name → List OfSpecifier → (OfDeclarator → OfDeclarator) → Scope → Scope
declare at name ss f s =
    (declaration_by (built.all_say (fold_specifier {c = Says ExprMeans} meaning) ss)
    (record { declarator = (f (built.named meaning at name)).says; initial = None } ∷ []) s).after

abbrev plain : OfDeclarator → OfDeclarator
plain d = d

abbrev field : OfSpecifier → OfDeclarator → OfMember
field t d = built.member_declaration meaning (t ∷ []) (built.plain meaning d ∷ [])

-- struct s { int a; int b; char t[4]; }
abbrev structure : OfSpecifier
structure = built.aggregate meaning 0 kind_.Struct (Some (record { at = 0; name = s' }))
    (field (word w.Int) (built.named meaning 0 a') ∷ field (word w.Int) (built.named meaning 0 b')
    ∷ field (word w.Char) (array 4 (built.named meaning 0 t')) ∷ [])

abbrev pub struct_s : OfSpecifier
struct_s = built.tag meaning 0 kind_.Struct (record { at = 0; name = s' })

-- union { int a; char t[4]; }
abbrev overlay : OfSpecifier
overlay = built.aggregate meaning 0 kind_.Union None
    (field (word w.Int) (built.named meaning 0 a') ∷ field (word w.Char) (array 4 (built.named meaning 0 t')) ∷ [])

abbrev taking : OfSpecifier → OfDeclarator → OfDeclarator
taking t d = built.function meaning 0 d (built.parameter meaning (t ∷ []) omitted ∷ []) false

-- int x; int a[4]; char c; _Bool b; int *p; struct s { .. } s; struct s u; int f(int); int m(void); void e(void);
-- int y(void); enum { g = 7 }; struct s *r; short h[3][2]; union { .. } v; char w[16]; void z(int);
-- int k(void); int q(int);
abbrev pub file : Scope
file =
    declare 19 q' (word w.Int ∷ []) (taking (word w.Int))
    (declare 18 k' (word w.Int ∷ []) (taking (word w.Void))
    (declare 17 z' (word w.Void ∷ []) (taking (word w.Int))
    (declare 16 w' (word w.Char ∷ []) (array 16)
    (declare 15 v' (overlay ∷ []) plain
    (declare 14 h' (word w.Short ∷ []) (λ d. array 2 (array 3 d))
    (declare 13 r' (struct_s ∷ []) pointer
    (seven
    (declare 11 y' (word w.Int ∷ []) (taking (word w.Void))
    (declare 10 e' (word w.Void ∷ []) (taking (word w.Void))
    (declare 9 m' (word w.Int ∷ []) (taking (word w.Void))
    (declare 8 f' (word w.Int ∷ []) (taking (word w.Int))
    (declare 7 u' (struct_s ∷ []) plain
    (declare 6 s' (structure ∷ []) plain
    (declare 5 p' (word w.Int ∷ []) pointer
    (declare 4 b' (word w.Bool ∷ []) plain
    (declare 3 c' (word w.Char ∷ []) plain
    (declare 2 a' (word w.Int ∷ []) (array 4)
    (declare 1 x' (word w.Int ∷ []) plain empty))))))))))))))))))
  where
    seven : Scope → Scope
    seven s =
        (declaration_by (built.all_say (fold_specifier {c = Says ExprMeans} meaning)
        (built.enumeration meaning 0 None (built.enumerator meaning 12 g' (Some (int 7)) ∷ []) false ∷ [])) [] s).after

-- a block of the function `f`, in which there is another int x
abbrev pub block : Scope
block = declare 40 x' (word w.Int ∷ []) plain (enter (record file { function = Some f' }))

abbrev of_size : ObjectKind → ℕ → Object
of_size what size = record { kind = what; size = size }

-- the objects of the file, that of the block, and the literals that stand at 200 and 201, of two bytes and the last, 0
abbrev pub store : Store
store =
    make 201 (of_size object.Literal 3) (make 200 (of_size object.Literal 3)
    (make 340 (of_size object.Automatic 4) (make 16 (of_size object.Static 16) (make 15 (of_size object.Static 4)
    (make 14 (of_size object.Static 12) (make 13 (of_size object.Static 8) (make 11 (of_size object.Static 0)
    (make 10 (of_size object.Static 0) (make 8 (of_size object.Static 0) (make 7 (of_size object.Static 12)
    (make 6 (of_size object.Static 12) (make 5 (of_size object.Static 8) (make 4 (of_size object.Static 1)
    (make 3 (of_size object.Static 1) (make 2 (of_size object.Static 16) (make 1 (of_size object.Static 4)
    (initial (λ _. 0))))))))))))))))))

-- ---- what calls do here: `f` gives its argument back, `m` reaches its `}` without a value, `y` and `q` give their
-- first place, `k` ends the array and gives 1, `z` ends the run, and the others print A

abbrev first : List ℤ → ℤ
first [] = pos 0
first (z ∷ zs) = z

abbrev pub calls : Calls
calls g env vs base s count =
    let d = entered s count in
    cond (bytes_eq g.callee.name f') (record d { value = Some (first vs) })
    (cond (bytes_eq g.callee.name m') d
    (cond (bytes_eq g.callee.name y' || bytes_eq g.callee.name q') (record d { value = Some (pos base) })
    (cond (bytes_eq g.callee.name k') (record d { value = Some (pos 1); store = end 2 s })
    (cond (bytes_eq g.callee.name z') (record d { kind = kind.Ended (finish.Exit (first vs)) }) (print (65 ∷ []) d)))))

abbrev pub level : Level
level = record {
  world = record { word = λ _. 0; byte = λ _. 0 };
  limits = record { turns = 8; heap = 256; outside = 64; texts = 32; arguments = 2 };
  turns = 8;
  static = λ at. at;
  identity = λ name. cond (bytes_eq name f') (Some 0) None;
  size = λ g. 100;
  room = λ g. 4;
  marks = λ g. [];
  call = calls;
}

abbrev pub env : Env
env at = at + 300

-- ---- what they come to

-- none where a rule is broken, else the value, or how the run ended
abbrev pub Found : Type 0
Found = Option (Result ℤ Kind)

abbrev outcome_found : Outcome ℤ → Result ℤ Kind
outcome_found (Ok v) = Ok v.0
outcome_found (Err d) = Err d.kind

abbrev found_where : List Fault → Outcome ℤ → Found
found_where [] o = Some (outcome_found o)
found_where (f ∷ fs) o = None

abbrev pub found_in : Scope → ExprMeans → Found
found_in s m = let p = m s in found_where p.typed.faults (p.run level env 100 (entered store 0))

abbrev pub found : ExprMeans → Found
found m = found_in file m

-- the same, where the value isn't used
abbrev pub done : ExprMeans → Found
done m = let p = m file in found_where p.typed.faults (p.effect level env 100 (entered store 0))

abbrev pub gives : ℕ → Found
gives n = Some (Ok (pos n))

-- -1 - n
abbrev pub gives_less : ℕ → Found
gives_less n = Some (Ok (negsuc n))

abbrev pub stops : Undefined → ℕ → Found
stops reason at = Some (Err (kind.Ended (finish.Stopped reason at)))

abbrev happenings : List Event → List Happening
happenings [] = []
happenings (e ∷ es) = e.what ∷ happenings es

abbrev state_behind : Outcome ℤ → State
state_behind (Ok v) = v.1
state_behind (Err d) = d

-- what happens, in order
abbrev pub happens : ExprMeans → List Happening
happens m = happenings (state_behind ((m file).run level env 100 (entered store 0))).events

-- the counts of bytes printed before each event
abbrev counts : List Event → List ℕ
counts [] = []
counts (e ∷ es) = e.printed ∷ counts es

abbrev pub printed_before : ExprMeans → List ℕ
printed_before m = counts (state_behind ((m file).run level env 100 (entered store 0))).events

abbrev pub prints : ExprMeans → List ℕ
prints m = (state_behind ((m file).run level env 100 (entered store 0))).printed

-- the bytes of the literal that an expression is
abbrev pub text_of : ExprMeans → Option (List ℕ)
text_of m = (m file).text level

-- the nodes that an expression unrolls to
abbrev pub size_in_file : ExprMeans → ℕ
size_in_file m = (m file).size level
