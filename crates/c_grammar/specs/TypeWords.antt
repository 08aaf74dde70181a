-- Which type specifiers may stand together (C99 6.7.2).
use Rattle.std.specs.Prelude.{ℕ, suc, min, List, [], ◌∷◌, Bool, true, false, ◌&&◌, ◌||◌, not, nat_eq, nat_le}
use Rattle.c_language.specs.declared.expr.TypeWord.{TypeWord}
use Rattle.c_language.specs.declared.expr.TypeWord.TheVariants as word
use Rattle.c_grammar.specs.declared.type_words.TypeKind.{TypeKind}
use Rattle.c_grammar.specs.declared.type_words.TypeKind.TheVariants as kind
use Rattle.c_grammar.specs.declared.type_words.TypeWords.{TypeWords}

abbrev pub none : TypeWords
none = record {
  alone = 0;
  char = 0;
  short = 0;
  int = 0;
  long = 0;
  sign = 0;
  float = 0;
  double = 0;
  complex = 0;
  float32 = 0;
  float64 = 0;
  float64x = 0;
  float128 = 0;
}

-- counted up to 3
abbrev pub more : ℕ → ℕ
more n = min (suc n) 3

abbrev pub with_word : TypeWords → TypeWord → TypeWords
with_word w word.Char = record w { char = more w.char }
with_word w word.Short = record w { short = more w.short }
with_word w word.Int = record w { int = more w.int }
with_word w word.Long = record w { long = more w.long }
with_word w word.Signed = record w { sign = more w.sign }
with_word w word.Unsigned = record w { sign = more w.sign }
with_word w word.Double = record w { double = more w.double }
with_word w word.Complex = record w { complex = more w.complex }
with_word w word.Imaginary = record w { complex = more w.complex }
with_word w word.Float = record w { float = more w.float }
with_word w word.Float32 = record w { float32 = more w.float32 }
with_word w word.Float64 = record w { float64 = more w.float64 }
with_word w word.Float32x = record w { float64 = more w.float64 }
with_word w word.Float64x = record w { float64x = more w.float64x }
with_word w word.Float128 = record w { float128 = more w.float128 }
with_word w word.Void = record w { alone = more w.alone }
with_word w word.Bool = record w { alone = more w.alone }
with_word w word.VaList = record w { alone = more w.alone }

abbrev pub with_kind : TypeWords → TypeKind → TypeWords
with_kind w kind.NoType = w
with_kind w (kind.Word x) = with_word w x
with_kind w kind.Whole = record w { alone = more w.alone }

-- `char`, `short`, `int`, `signed`, `unsigned` are not among them
abbrev pub has_no_integer : TypeWords → Bool
has_no_integer w = nat_eq w.char 0 && nat_eq w.short 0 && nat_eq w.int 0 && nat_eq w.sign 0

-- no type of TS 18661-3 is
abbrev pub has_no_interchange : TypeWords → Bool
has_no_interchange w = nat_eq w.float32 0 && nat_eq w.float64 0 && nat_eq w.float64x 0 && nat_eq w.float128 0

-- no word of a floating type is, but `long`
abbrev pub has_no_floating : TypeWords → Bool
has_no_floating w = nat_eq w.float 0 && nat_eq w.double 0 && nat_eq w.complex 0 && has_no_interchange w

-- a type that stands alone
abbrev pub is_whole : TypeWords → Bool
is_whole w = nat_eq w.alone 1 && has_no_integer w && nat_eq w.long 0 && has_no_floating w

-- `char`, and at most one of `signed` and `unsigned`
abbrev pub is_char : TypeWords → Bool
is_char w =
    nat_eq w.char 1 && nat_le w.sign 1 && nat_eq w.alone 0 && nat_eq w.short 0 && nat_eq w.int 0 && nat_eq w.long 0
    && has_no_floating w

-- `int`, `short`, `long` and `long long`, where `int` may be left out beside another word
abbrev pub is_integer : TypeWords → Bool
is_integer w =
    nat_eq w.alone 0 && nat_eq w.char 0 && has_no_floating w && nat_le w.sign 1 && nat_le w.int 1
    && ((nat_le w.short 1 && nat_eq w.long 0) || (nat_eq w.short 0 && nat_le w.long 2))
    && not (nat_eq w.sign 0 && nat_eq w.int 0 && nat_eq w.short 0 && nat_eq w.long 0)

-- `float`, `double` or `long double`
abbrev pub is_standard : TypeWords → Bool
is_standard w =
    has_no_interchange w
    && ((nat_eq w.float 1 && nat_eq w.double 0 && nat_eq w.long 0)
    || (nat_eq w.float 0 && nat_eq w.double 1 && nat_le w.long 1))

-- one type of TS 18661-3
abbrev pub is_interchange : TypeWords → Bool
is_interchange w =
    nat_eq w.float 0 && nat_eq w.double 0 && nat_eq w.long 0
    && ((nat_eq w.float32 1 && nat_eq w.float64 0 && nat_eq w.float64x 0 && nat_eq w.float128 0)
    || (nat_eq w.float32 0 && nat_eq w.float64 1 && nat_eq w.float64x 0 && nat_eq w.float128 0)
    || (nat_eq w.float32 0 && nat_eq w.float64 0 && nat_eq w.float64x 1 && nat_eq w.float128 0)
    || (nat_eq w.float32 0 && nat_eq w.float64 0 && nat_eq w.float64x 0 && nat_eq w.float128 1))

-- a type of TS 18661-3 beside the type that a C library's headers declare it as
abbrev pub is_declared : TypeWords → Bool
is_declared w =
    nat_eq w.complex 0 && nat_eq w.float128 0
    && ((nat_eq w.float 1 && nat_eq w.double 0 && nat_eq w.long 0
    && nat_eq w.float32 1 && nat_eq w.float64 0 && nat_eq w.float64x 0)
    || (nat_eq w.float 0 && nat_eq w.double 1 && nat_eq w.long 0
    && nat_eq w.float32 0 && nat_eq w.float64 1 && nat_eq w.float64x 0)
    || (nat_eq w.float 0 && nat_eq w.double 1 && nat_eq w.long 1
    && nat_eq w.float32 0 && nat_eq w.float64 0 && nat_eq w.float64x 1))

-- a floating type, real, complex or imaginary
abbrev pub is_floating : TypeWords → Bool
is_floating w =
    nat_eq w.alone 0 && has_no_integer w
    && ((nat_le w.complex 1 && (is_standard w || is_interchange w)) || is_declared w)

abbrev pub is_allowed : TypeWords → Bool
is_allowed w = is_integer w || is_whole w || is_char w || is_floating w

-- what stands together, the first first
abbrev pub words_from : TypeWords → List TypeKind → TypeWords
words_from w [] = w
words_from w (k ∷ ks) = words_from (with_kind w k) ks

abbrev pub are_allowed : List TypeKind → Bool
are_allowed ks = is_allowed (words_from none ks)

-- whether a specifier is one of the type
abbrev pub is_type : TypeKind → Bool
is_type kind.NoType = false
is_type (kind.Word x) = true
is_type kind.Whole = true
