-- Functions of the C library that have a body (C99 7.21, 7.20.1.2), as trees: each stands behind its text. The trees
-- are those of the nine lines as one file, and each offset is 2^31 more than there, so that it is none of a source.
use Rattle.std.specs.Prelude.{ℕ, ◌+◌, ◌^◌, pos, false, List, [], ◌∷◌, ◌++◌, Option, Some, None}
use Rattle.c_language.specs.declared.token.IntegerType.TheVariants as integer_type
use Rattle.c_language.specs.declared.expr.BinaryOperator.{BinaryOperator}
use Rattle.c_language.specs.declared.expr.BinaryOperator.TheVariants as o
use Rattle.c_language.specs.declared.expr.Declarator.{Declarator}
use Rattle.c_language.specs.declared.expr.Declarator.TheVariants as declarator
use Rattle.c_language.specs.declared.expr.Expr.{Expr}
use Rattle.c_language.specs.declared.expr.Expr.TheVariants as expr
use Rattle.c_language.specs.declared.expr.Parameter.{Parameter}
use Rattle.c_language.specs.declared.expr.PostfixOperator.TheVariants as postfix_
use Rattle.c_language.specs.declared.expr.Qualifier.TheVariants as qualifier
use Rattle.c_language.specs.declared.expr.Specifier.{Specifier}
use Rattle.c_language.specs.declared.expr.Specifier.TheVariants as specifier
use Rattle.c_language.specs.declared.expr.TypeWord.{TypeWord}
use Rattle.c_language.specs.declared.expr.TypeWord.TheVariants as w
use Rattle.c_language.specs.declared.expr.UnaryOperator.{UnaryOperator}
use Rattle.c_language.specs.declared.expr.UnaryOperator.TheVariants as u
use Rattle.c_language.specs.declared.unit.Body.TheVariants as body
use Rattle.c_language.specs.declared.unit.External.{External}
use Rattle.c_language.specs.declared.unit.External.TheVariants as external
use Rattle.c_language.specs.declared.unit.ForStart.TheVariants as start_
use Rattle.c_language.specs.declared.unit.Initializer.{Initializer}
use Rattle.c_language.specs.declared.unit.Initializer.TheVariants as initial
use Rattle.c_language.specs.declared.unit.Stmt.{Stmt}
use Rattle.c_language.specs.declared.unit.Stmt.TheVariants as stmt
use Rattle.c_language.specs.Scopes.{Name}
use Rattle.c_means.specs.Programs.{Function, program_of, functions_of}

-- ---- spelling: each by the offset of its token in the text

abbrev far : ℕ → ℕ
far n = 2 ^ 31 + n

abbrev word : ℕ → TypeWord → Specifier
word n x = specifier.Word (far n) x

abbrev const : ℕ → Specifier
const n = specifier.Qualifier (far n) qualifier.Const

abbrev name : ℕ → Name → Declarator
name n x = declarator.Name (far n) x

abbrev pointer : ℕ → Declarator → Declarator
pointer n x = declarator.Pointer (far n) [] x

abbrev parameter : List Specifier → Declarator → Parameter
parameter ss x = record { specifiers = ss; declarator = x }

abbrev taking : ℕ → Declarator → List Parameter → Declarator
taking n x ps = declarator.Function (far n) x ps false

abbrev int : ℕ → ℕ → Expr
int n x = expr.Integer (far n) (record { value = x; integer_type = integer_type.Int })

abbrev char : ℕ → ℕ → Expr
char n x = expr.Character (far n) (pos x)

abbrev the : ℕ → Name → Expr
the n x = expr.Identifier (far n) x

abbrev group : ℕ → Expr → Expr
group n x = expr.Parenthesized (far n) x

abbrev at_index : ℕ → Expr → Expr → Expr
at_index n x y = expr.Subscript (far n) x y

abbrev step : ℕ → Expr → Expr
step n x = expr.Postfix (far n) postfix_.Increment x

abbrev un : ℕ → UnaryOperator → Expr → Expr
un n op x = expr.Unary (far n) op x

abbrev op : ℕ → BinaryOperator → Expr → Expr → Expr
op n f x y = expr.Binary (far n) f x y

abbrev set : ℕ → Expr → Expr → Expr
set n x y = expr.Assign (far n) None x y

abbrev to : ℕ → List Specifier → Declarator → Expr → Expr
to n ss x y = expr.Cast (far n) (record { specifiers = ss; declarator = x }) y

abbrev initial_if : Option Expr → Option Initializer
initial_if None = None
initial_if (Some x) = Some (initial.Value x)

abbrev declares : List Specifier → Declarator → Option Expr → Stmt
declares ss x y =
    stmt.Declared (record {
      specifiers = ss;
      declarators = record { declarator = x; assembler_name = []; initializer = initial_if y } ∷ [];
    })

abbrev does : ℕ → Expr → Stmt
does n x = stmt.Value (far n) (Some x)

abbrev block : ℕ → List Stmt → Stmt
block n xs = stmt.Block (far n) xs

abbrev while : ℕ → Expr → Stmt → Stmt
while n x y = stmt.While (far n) x y

abbrev when : ℕ → Expr → Stmt → Option Stmt → Stmt
when n x y z = stmt.If (far n) x y z

abbrev for : ℕ → Expr → Expr → Expr → Stmt → Stmt
for n x c y b = stmt.For (far n) (start_.Value (Some x)) (Some c) (Some y) b

abbrev returns : ℕ → Expr → Stmt
returns n x = stmt.Return (far n) (Some x)

abbrev defines : List Specifier → Declarator → Stmt → External
defines ss x b = external.Function ss x (body.Read b)

-- ---- names

abbrev a' : Name
a' = 97 ∷ []

abbrev atoi' : Name
atoi' = 97 ∷ 116 ∷ 111 ∷ 105 ∷ []

abbrev b' : Name
b' = 98 ∷ []

abbrev c' : Name
c' = 99 ∷ []

abbrev d' : Name
d' = 100 ∷ []

abbrev g' : Name
g' = 103 ∷ []

abbrev i' : Name
i' = 105 ∷ []

abbrev memcpy' : Name
memcpy' = 109 ∷ 101 ∷ 109 ∷ 99 ∷ 112 ∷ 121 ∷ []

abbrev memset' : Name
memset' = 109 ∷ 101 ∷ 109 ∷ 115 ∷ 101 ∷ 116 ∷ []

abbrev n' : Name
n' = 110 ∷ []

abbrev p' : Name
p' = 112 ∷ []

abbrev q' : Name
q' = 113 ∷ []

abbrev s' : Name
s' = 115 ∷ []

abbrev strcat' : Name
strcat' = 115 ∷ 116 ∷ 114 ∷ 99 ∷ 97 ∷ 116 ∷ []

abbrev strchr' : Name
strchr' = 115 ∷ 116 ∷ 114 ∷ 99 ∷ 104 ∷ 114 ∷ []

abbrev strcmp' : Name
strcmp' = 115 ∷ 116 ∷ 114 ∷ 99 ∷ 109 ∷ 112 ∷ []

abbrev strcpy' : Name
strcpy' = 115 ∷ 116 ∷ 114 ∷ 99 ∷ 112 ∷ 121 ∷ []

abbrev strlen' : Name
strlen' = 115 ∷ 116 ∷ 114 ∷ 108 ∷ 101 ∷ 110 ∷ []

abbrev strncmp' : Name
strncmp' = 115 ∷ 116 ∷ 114 ∷ 110 ∷ 99 ∷ 109 ∷ 112 ∷ []

abbrev v' : Name
v' = 118 ∷ []

-- ---- the functions

-- unsigned long strlen(const char *s) { unsigned long n = 0; while (s[n]) n++; return n; }
abbrev pub strlen : External
strlen = defines (word 0 w.Unsigned ∷ word 9 w.Long ∷ [])
    (taking 20 (name 14 strlen') (parameter (const 21 ∷ word 27 w.Char ∷ []) (pointer 32 (name 33 s')) ∷ []))
    (block 36 (
    declares (word 38 w.Unsigned ∷ word 47 w.Long ∷ []) (name 52 n') (Some (int 56 0)) ∷
    while 59 (at_index 67 (the 66 s') (the 68 n')) (does 75 (step 73 (the 72 n'))) ∷
    returns 77 (the 84 n') ∷ []))

-- int strcmp(const char *a, const char *b) { unsigned long i = 0; while (a[i] && a[i] == b[i]) i++; return (unsigned
--   char)a[i] - (unsigned char)b[i]; }
abbrev pub strcmp : External
strcmp = defines (word 89 w.Int ∷ [])
    (taking 99 (name 93 strcmp') (parameter (const 100 ∷ word 106 w.Char ∷ []) (pointer 111
    (name 112 a')) ∷ parameter (const 115 ∷ word 121 w.Char ∷ []) (pointer 126 (name 127 b')) ∷ []))
    (block 130 (
    declares (word 132 w.Unsigned ∷ word 141 w.Long ∷ []) (name 146 i') (Some (int 150 0)) ∷
    while 153 (op 165 o.LogicalAnd (at_index 161 (the 160 a') (the 162 i')) (op 173 o.Equal (at_index 169
    (the 168 a') (the 170 i')) (at_index 177 (the 176 b') (the 178 i')))) (does 185 (step 183 (the 182 i'))) ∷
    returns 187 (op 214 o.Subtract (to 194 (word 195 w.Unsigned ∷ word 204 w.Char ∷ []) declarator.Omitted
    (at_index 210 (the 209 a') (the 211 i'))) (to 216
    (word 217 w.Unsigned ∷ word 226 w.Char ∷ []) declarator.Omitted (at_index 232 (the 231 b')
    (the 233 i')))) ∷ []))

-- int strncmp(const char *a, const char *b, unsigned long n) { unsigned long i = 0; while (i < n && a[i] && a[i] ==
--   b[i]) i++; if (i == n) return 0; return (unsigned char)a[i] - (unsigned char)b[i]; }
abbrev pub strncmp : External
strncmp = defines (word 239 w.Int ∷ [])
    (taking 250 (name 243 strncmp') (parameter (const 251 ∷ word 257 w.Char ∷ []) (pointer 262
    (name 263 a')) ∷ parameter (const 266 ∷ word 272 w.Char ∷ []) (pointer 277 (name 278 b')) ∷ parameter
    (word 281 w.Unsigned ∷ word 290 w.Long ∷ []) (name 295 n') ∷ []))
    (block 298 (
    declares (word 300 w.Unsigned ∷ word 309 w.Long ∷ []) (name 314 i') (Some (int 318 0)) ∷
    while 321 (op 342 o.LogicalAnd (op 334 o.LogicalAnd (op 330 o.Less (the 328 i') (the 332 n')) (at_index 338
    (the 337 a') (the 339 i'))) (op 350 o.Equal (at_index 346 (the 345 a') (the 347 i')) (at_index 354
    (the 353 b') (the 355 i')))) (does 362 (step 360 (the 359 i'))) ∷
    when 364 (op 370 o.Equal (the 368 i') (the 373 n')) (returns 376 (int 383 0)) None ∷
    returns 386 (op 413 o.Subtract (to 393 (word 394 w.Unsigned ∷ word 403 w.Char ∷ []) declarator.Omitted
    (at_index 409 (the 408 a') (the 410 i'))) (to 415
    (word 416 w.Unsigned ∷ word 425 w.Char ∷ []) declarator.Omitted (at_index 431 (the 430 b')
    (the 432 i')))) ∷ []))

-- char *strchr(const char *s, int c) { while (*s != (char)c) { if (!*s) return 0; s++; } return (char *)s; }
abbrev pub strchr : External
strchr = defines (word 438 w.Char ∷ [])
    (pointer 443 (taking 450 (name 444 strchr') (parameter (const 451 ∷ word 457 w.Char ∷ []) (pointer 462
    (name 463 s')) ∷ parameter (word 466 w.Int ∷ []) (name 470 c') ∷ [])))
    (block 473 (
    while 475 (op 485 o.NotEqual (un 482 u.Indirection (the 483 s')) (to 488
    (word 489 w.Char ∷ []) declarator.Omitted (the 494 c'))) (block 497 (
    when 499 (un 503 u.Not (un 504 u.Indirection (the 505 s'))) (returns 508 (int 515 0)) None ∷
    does 521 (step 519 (the 518 s')) ∷ [])) ∷
    returns 525 (to 532 (word 533 w.Char ∷ []) (pointer 538 declarator.Omitted) (the 540 s')) ∷ []))

-- char *strcpy(char *d, const char *s) { unsigned long i = 0; while ((d[i] = s[i])) i++; return d; }
abbrev pub strcpy : External
strcpy = defines (word 545 w.Char ∷ [])
    (pointer 550 (taking 557 (name 551 strcpy') (parameter (word 558 w.Char ∷ []) (pointer 563
    (name 564 d')) ∷ parameter (const 567 ∷ word 573 w.Char ∷ []) (pointer 578 (name 579 s')) ∷ [])))
    (block 582 (
    declares (word 584 w.Unsigned ∷ word 593 w.Long ∷ []) (name 598 i') (Some (int 602 0)) ∷
    while 605 (group 612 (set 618 (at_index 614 (the 613 d') (the 615 i')) (at_index 621 (the 620 s')
    (the 622 i')))) (does 630 (step 628 (the 627 i'))) ∷
    returns 632 (the 639 d') ∷ []))

-- char *strcat(char *d, const char *s) { unsigned long n = 0; unsigned long i = 0; while (d[n]) n++; while ((d[n + i]
--   = s[i])) i++; return d; }
abbrev pub strcat : External
strcat = defines (word 644 w.Char ∷ [])
    (pointer 649 (taking 656 (name 650 strcat') (parameter (word 657 w.Char ∷ []) (pointer 662
    (name 663 d')) ∷ parameter (const 666 ∷ word 672 w.Char ∷ []) (pointer 677 (name 678 s')) ∷ [])))
    (block 681 (
    declares (word 683 w.Unsigned ∷ word 692 w.Long ∷ []) (name 697 n') (Some (int 701 0)) ∷
    declares (word 704 w.Unsigned ∷ word 713 w.Long ∷ []) (name 718 i') (Some (int 722 0)) ∷
    while 725 (at_index 733 (the 732 d') (the 734 n')) (does 741 (step 739 (the 738 n'))) ∷
    while 743 (group 750 (set 760 (at_index 752 (the 751 d') (op 755 o.Add (the 753 n') (the 757 i')))
    (at_index 763 (the 762 s') (the 764 i')))) (does 772 (step 770 (the 769 i'))) ∷
    returns 774 (the 781 d') ∷ []))

-- void *memset(void *d, int c, unsigned long n) { unsigned char *p = d; unsigned long i; for (i = 0; i < n; i++) p[i]
--   = c; return d; }
abbrev pub memset : External
memset = defines (word 786 w.Void ∷ [])
    (pointer 791 (taking 798 (name 792 memset') (parameter (word 799 w.Void ∷ []) (pointer 804
    (name 805 d')) ∷ parameter (word 808 w.Int ∷ []) (name 812 c') ∷ parameter
    (word 815 w.Unsigned ∷ word 824 w.Long ∷ []) (name 829 n') ∷ [])))
    (block 832 (
    declares (word 834 w.Unsigned ∷ word 843 w.Char ∷ []) (pointer 848 (name 849 p')) (Some (the 853 d')) ∷
    declares (word 856 w.Unsigned ∷ word 865 w.Long ∷ []) (name 870 i') None ∷
    for 873 (set 880 (the 878 i') (int 882 0)) (op 887 o.Less (the 885 i') (the 889 n')) (step 893 (the 892 i'))
    (does 905 (set 902 (at_index 898 (the 897 p') (the 899 i')) (the 904 c'))) ∷
    returns 907 (the 914 d') ∷ []))

-- void *memcpy(void *d, const void *s, unsigned long n) { unsigned char *p = d; const unsigned char *q = s; unsigned
--   long i; for (i = 0; i < n; i++) p[i] = q[i]; return d; }
abbrev pub memcpy : External
memcpy = defines (word 919 w.Void ∷ [])
    (pointer 924 (taking 931 (name 925 memcpy') (parameter (word 932 w.Void ∷ []) (pointer 937
    (name 938 d')) ∷ parameter (const 941 ∷ word 947 w.Void ∷ []) (pointer 952 (name 953 s')) ∷ parameter
    (word 956 w.Unsigned ∷ word 965 w.Long ∷ []) (name 970 n') ∷ [])))
    (block 973 (
    declares (word 975 w.Unsigned ∷ word 984 w.Char ∷ []) (pointer 989 (name 990 p')) (Some (the 994 d')) ∷
    declares (const 997 ∷ word 1003 w.Unsigned ∷ word 1012 w.Char ∷ []) (pointer 1017 (name 1018 q')) (Some
    (the 1022 s')) ∷
    declares (word 1025 w.Unsigned ∷ word 1034 w.Long ∷ []) (name 1039 i') None ∷
    for 1042 (set 1049 (the 1047 i') (int 1051 0)) (op 1056 o.Less (the 1054 i') (the 1058 n')) (step 1062
    (the 1061 i')) (does 1077 (set 1071 (at_index 1067 (the 1066 p') (the 1068 i')) (at_index 1074
    (the 1073 q') (the 1075 i')))) ∷
    returns 1079 (the 1086 d') ∷ []))

-- int atoi(const char *s) { int v = 0; int g = 1; while (*s == ' ' || (*s >= 9 && *s <= 13)) s++; if (*s == '-') { g
--   = -1; s++; } else if (*s == '+') s++; while (*s >= '0' && *s <= '9') { v = v * 10 + g * (*s - '0'); s++; } return
--   v; }
abbrev pub atoi : External
atoi = defines (word 1091 w.Int ∷ [])
    (taking 1099 (name 1095 atoi') (parameter (const 1100 ∷ word 1106 w.Char ∷ []) (pointer 1111
    (name 1112 s')) ∷ []))
    (block 1115 (
    declares (word 1117 w.Int ∷ []) (name 1121 v') (Some (int 1125 0)) ∷
    declares (word 1128 w.Int ∷ []) (name 1132 g') (Some (int 1136 1)) ∷
    while 1139 (op 1156 o.LogicalOr (op 1149 o.Equal (un 1146 u.Indirection (the 1147 s')) (char 1152 32))
    (group 1159 (op 1168 o.LogicalAnd (op 1163 o.GreaterEqual (un 1160 u.Indirection (the 1161 s'))
    (int 1166 9)) (op 1174 o.LessEqual (un 1171 u.Indirection (the 1172 s')) (int 1177 13))))) (does 1185
    (step 1183 (the 1182 s'))) ∷
    when 1187 (op 1194 o.Equal (un 1191 u.Indirection (the 1192 s')) (char 1197 45)) (block 1202 (
    does 1210 (set 1206 (the 1204 g') (un 1208 u.Minus (int 1209 1))) ∷
    does 1215 (step 1213 (the 1212 s')) ∷ [])) (Some (when 1224 (op 1231 o.Equal (un 1228 u.Indirection
    (the 1229 s')) (char 1234 43)) (does 1242 (step 1240 (the 1239 s'))) None)) ∷
    while 1244 (op 1261 o.LogicalAnd (op 1254 o.GreaterEqual (un 1251 u.Indirection (the 1252 s'))
    (char 1257 48)) (op 1267 o.LessEqual (un 1264 u.Indirection (the 1265 s')) (char 1270 57))) (block 1275 (
    does 1304 (set 1279 (the 1277 v') (op 1288 o.Add (op 1283 o.Multiply (the 1281 v') (int 1285 10))
    (op 1292 o.Multiply (the 1290 g') (group 1294 (op 1298 o.Subtract (un 1295 u.Indirection
    (the 1296 s')) (char 1300 48)))))) ∷
    does 1309 (step 1307 (the 1306 s')) ∷ [])) ∷
    returns 1313 (the 1320 v') ∷ []))

abbrev pub externals : List External
externals = strlen ∷ strcmp ∷ strncmp ∷ strchr ∷ strcpy ∷ strcat ∷ memset ∷ memcpy ∷ atoi ∷ []

-- each in a file scope of its own
abbrev pub functions_from : List External → List Function
functions_from [] = []
functions_from (x ∷ xs) = functions_of (program_of (x ∷ [])) ++ functions_from xs

abbrev pub prelude_functions : List Function
prelude_functions = functions_from externals
