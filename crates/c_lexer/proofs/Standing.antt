-- Each token stands in its source where its place says.
use Rattle.std.proofs.Common.{◌≡◌, ℕ, zero, suc, ◌+◌, ◌-◌, ◌<◌, ◌≤◌, Bool, true, false, cond, eqb, List, []}
use Rattle.std.proofs.Common.{◌∷◌, ◌++◌, length, take, drop, Option, Some, None, Ok, Err, refl, ap, sym, subst, ◌∙◌}
use Rattle.std.proofs.Common.{inl, inr, arith, length-append, append_assoc}
use Rattle.std.specs.Prelude.{slice_get, unwrap_or, ◌⊎◌}
use Rattle.std.specs.List.{All, AllByRecursion}
use Rattle.std.specs.Result.{IfOk}
use Rattle.std.proofs.lemmas.Bool.{le-ltb, lt-ltb}
use Rattle.std.proofs.lemmas.List.Elements.{All-from_recursion}
use Rattle.c_lexer.specs.Class.{Text}
use Rattle.c_lexer.specs.Division.{Element, divide, fresh_after}
use Rattle.c_lexer.specs.Spelling.{Divides}
use Rattle.c_lexer.specs.Places.{beginning, past_byte, moved, spot_after, spot_in, located}
use Rattle.c_lexer.specs.Meaning.{Meaning, meaning}
use Rattle.c_lexer.specs.Attributes.{Kept, keep, kept_before, first_of_all, role_of}
use Rattle.c_lexer.specs.Reading.{Reading, Spells, read, given, followed_by, finished, named_by, token_at, place_at}
use Rattle.c_lexer.specs.Standing.{IsPlaced}
use Rattle.c_language.specs.Standing.{StandInOrder}
use Rattle.c_lexer.specs.declared.attribute.Role.{Role}
use Rattle.c_lexer.specs.declared.attribute.Role.TheVariants as role
use Rattle.c_lexer.specs.declared.piece.Lexeme.{Lexeme}
use Rattle.c_lexer.specs.declared.piece.Lexeme.TheVariants as lexeme
use Rattle.c_language.specs.declared.token.Place.{Place}
use Rattle.c_language.specs.declared.token.Spot.{Spot}
use Rattle.c_language.specs.declared.token.Token.{Token}
use Rattle.c_language.specs.declared.token.TokenKind.{TokenKind}
use Rattle.c_language.specs.declared.token.Tokens.{Tokens}
use Rattle.c_lexer.proofs.Unique.{begins_long, only}

-- ---- what is kept of tokens is a part of them

-- some of the tokens, in their order
pub data IsPart : List Token → List Token → Type 0 where
  none : IsPart [] []
  kept : (t : Token) (us ts : List Token) → IsPart us ts → IsPart (t ∷ us) (t ∷ ts)
  left_out : (t : Token) (us ts : List Token) → IsPart us ts → IsPart us (t ∷ ts)

abbrev pub AllParts : List Token → List (List Token) → Type 0
AllParts ts [] = Unit {0}
AllParts ts (us ∷ uss) = IsPart us ts × AllParts ts uss

abbrev pub SomePart : List Token → Option (List Token) → Type 0
SomePart ts None = Unit {0}
SomePart ts (Some us) = IsPart us ts

pub record KeptPart (ts : List Token) (k : Kept) : Type 0 where
  pub here : IsPart k.here ts
  pub group : SomePart ts k.group
  pub closers : AllParts ts k.closers

all_more : (t : Token) (ts : List Token) (uss : List (List Token)) → AllParts ts uss → AllParts (t ∷ ts) uss
all_more t ts [] all = tt
all_more t ts (us ∷ uss) all = (left_out t us ts all.0, all_more t ts uss all.1)

first_part : (ts : List Token) (uss : List (List Token)) → AllParts ts uss → SomePart ts (first_of_all uss)
first_part ts [] all = tt
first_part ts (us ∷ uss) all = all.0

later_parts : (ts : List Token) (uss : List (List Token)) → AllParts ts uss → AllParts ts (drop 1 uss)
later_parts ts [] all = tt
later_parts ts (us ∷ uss) all = all.1

chosen_part : (t : Token) (ts : List Token) (g : Option (List Token)) (us : List Token) → SomePart ts g → IsPart us ts →
    IsPart (unwrap_or g (t ∷ us)) (t ∷ ts)
chosen_part t ts None us group here = kept t us ts here
chosen_part t ts (Some g) us group here = left_out t g ts group

kept_part : (r : Role) (t : Token) (ts : List Token) (k : Kept) → KeptPart ts k → KeptPart (t ∷ ts) (kept_before r t k)
kept_part role.Open t ts k all = record {
  here = kept t k.here ts all.here;
  group = first_part (t ∷ ts) k.closers (all_more t ts k.closers all.closers);
  closers = later_parts (t ∷ ts) k.closers (all_more t ts k.closers all.closers);
}
kept_part role.Close t ts k all = record {
  here = kept t k.here ts all.here;
  group = tt;
  closers = (left_out t k.here ts all.here, all_more t ts k.closers all.closers);
}
kept_part role.Attribute t ts k all = record {
  here = chosen_part t ts k.group k.here all.group all.here;
  group = tt;
  closers = all_more t ts k.closers all.closers;
}
kept_part role.Other t ts k all = record {
  here = kept t k.here ts all.here;
  group = tt;
  closers = all_more t ts k.closers all.closers;
}

pub keep_part : (ts : List Token) → KeptPart ts (keep ts)
keep_part [] = record { here = none; group = tt; closers = tt }
keep_part (t ∷ ts) = kept_part (role_of t.kind) t ts (keep ts) (keep_part ts)

part_all : (P : Token → Type 0) (us ts : List Token) → IsPart us ts → AllByRecursion P ts → AllByRecursion P us
part_all P us ts none all = tt
part_all P _ _ (kept t us ts part) all = (all.0, part_all P us ts part all.1)
part_all P _ _ (left_out t us ts part) all = part_all P us ts part all.1

in_order_from : (less more end : ℕ) (ts : List Token) → less ≤ more → StandInOrder more end ts →
    StandInOrder less end ts
in_order_from less more end [] h all = tt
in_order_from less more end (t ∷ ts) h all = (omega (arith, all.0), all.1, all.2, all.3)

part_order : (from end : ℕ) (us ts : List Token) → IsPart us ts → StandInOrder from end ts → StandInOrder from end us
part_order from end us ts none all = tt
part_order from end _ _ (kept t us ts part) all = (all.0, all.1, all.2, part_order t.end end us ts part all.3)
part_order from end _ _ (left_out t us ts part) all =
    in_order_from from t.end end us (omega (arith, all.0, all.1)) (part_order t.end end us ts part all.3)

-- ---- the pieces of a division

abbrev AllLong : List Element → Type 0
AllLong [] = Unit {0}
AllLong (e ∷ es) = (1 ≤ length e.1) × AllLong es

abbrev all_bytes : List Element → ℕ
all_bytes [] = 0
all_bytes (e ∷ es) = length e.1 + all_bytes es

divided_long : (fresh : Bool) (text : Text) (es : List Element) → Divides fresh text es → AllLong es
divided_long fresh text [] divides = tt
divided_long fresh text (e ∷ es) (rest, is, divides) =
    (begins_long fresh e.0 e.1 rest is.begins, divided_long (fresh_after fresh e.0) rest es divides)

divided_bytes : (fresh : Bool) (text : Text) (es : List Element) → Divides fresh text es → all_bytes es ≤ length text
divided_bytes fresh text [] divides = omega arith
divided_bytes fresh text (e ∷ es) (rest, is, divides) =
    let later = divided_bytes (fresh_after fresh e.0) rest es divides in
    omega (arith, later, ap length is.splits, length-append e.1 rest)

-- ---- a file's name changes at line markers alone

byte_file : (last : Bool) (s : Spot) →
    (cond last (record s { line = s.line + 1; column = 1 }) (record s { column = s.column + 1 })).file ≡ s.file
byte_file true s = refl
byte_file false s = refl

moved_file : (bytes : Text) (s : Spot) → (moved s bytes).file ≡ s.file
moved_file [] s = refl
moved_file (b ∷ bytes) s = moved_file bytes (past_byte s b) ∙ byte_file (eqb b 10) s

abbrev FileAfter : Spot → Element → Type 0
FileAfter s e = ((named_by e ≡ []) × ((spot_after s e).file ≡ s.file)) ⊎ (named_by e ≡ (spot_after s e).file ∷ [])

file_after : (s : Spot) (kind : Lexeme) (bytes : Text) → FileAfter s (kind, bytes)
file_after s lexeme.Blank bytes = inl (refl, refl)
file_after s lexeme.Newline bytes = inl (refl, refl)
file_after s lexeme.Comment bytes = inl (refl, moved_file bytes s)
file_after s (lexeme.Marker line from to) bytes = inr refl
file_after s lexeme.Ignored bytes = inl (refl, moved_file bytes s)
file_after s lexeme.Word bytes = inl (refl, refl)
file_after s lexeme.Number bytes = inl (refl, refl)
file_after s lexeme.Character bytes = inl (refl, refl)
file_after s lexeme.Text bytes = inl (refl, refl)
file_after s lexeme.WideCharacter bytes = inl (refl, refl)
file_after s lexeme.WideText bytes = inl (refl, refl)
file_after s (lexeme.Punctuator p) bytes = inl (refl, refl)
file_after s (lexeme.Stray x) bytes = inl (refl, refl)

get_last : (names : List Text) (name : Text) → slice_get (names ++ name ∷ []) (length names) ≡ Some name
get_last [] name = refl
get_last (n ∷ names) name = get_last names name

get_more : (names more : List Text) (k : ℕ) (name : Text) → slice_get names k ≡ Some name →
    slice_get (names ++ more) k ≡ Some name
get_more [] more k name h = absurd cc
get_more (n ∷ names) more zero name h = h
get_more (n ∷ names) more (suc k) name h = get_more names more k name h

-- the last of some names is that of a place's file
record IsLast (names : List Text) (file : ℕ) (s : Spot) : Type 0 where
  count : length names ≡ file + 1
  last : slice_get names file ≡ Some s.file

last_after : (names : List Text) (file : ℕ) (s : Spot) (e : Element) → IsLast names file s → FileAfter s e →
    IsLast (names ++ named_by e) (file + length (named_by e)) (spot_after s e)
last_after names file s e is (inl stays) =
    let more : IsLast (names ++ []) (file + 0) s = record {
      count = omega (arith, is.count, length-append names []);
      last = get_at file (file + 0) (omega arith) (get_more names [] file s.file is.last);
    } in
    record {
      count = rw stays.0 more.count;
      last = rw (stays.0, stays.1) more.last;
    }
  where
    get_at : (k n : ℕ) → k ≡ n → slice_get (names ++ []) k ≡ Some s.file → slice_get (names ++ []) n ≡ Some s.file
    get_at k n same h = subst (λ m. slice_get (names ++ []) m ≡ Some s.file) same h
last_after names file s e is (inr new) =
    let name : Text = (spot_after s e).file in
    let place : length names ≡ file + 1 = is.count in
    record {
      count = rw new (omega (arith, is.count, length-append names (name ∷ [])));
      last = rw new (subst (λ k. slice_get (names ++ name ∷ []) k ≡ Some name) place (get_last names name));
    }

-- ---- one piece and the rest

ok_is : {x y : Tokens} {r : Reading} → r ≡ Ok x → r ≡ Ok y → x ≡ y
ok_is is also = cc

record ReadStep (file at : ℕ) (s : Spot) (e : Element) (more : Reading) (t : Tokens) : Type 0 where
  kind : Option TokenKind
  rest : Tokens
  rest_is : more ≡ Ok rest
  whole : t ≡ record {
    files = named_by e ++ rest.files;
    tokens = token_at (place_at file s) at (at + length e.1) kind
        ++ rest.tokens;
  }

read_step : (file at : ℕ) (s : Spot) (e : Element) (m : Meaning) (more : Reading) (t : Tokens) →
    followed_by (given file at s e m) more ≡ Ok t →
    ReadStep file at s e more t
read_step file at s e (Err f) more t h = absurd cc
read_step file at s e (Ok k) (Err f) t h = absurd cc
read_step file at s e (Ok k) (Ok u) t h = record { kind = k; rest = u; rest_is = refl; whole = sym (ok_is refl h) }

-- ---- places

-- what is located from a byte on, by the pieces that begin there
abbrev LocatedFrom : (name bytes : Text) → ℕ → Spot → List Element → Type 0
LocatedFrom name bytes at s es = (k : ℕ) → located name bytes (at + k) ≡ spot_in s es k

located_first : (name bytes : Text) (at : ℕ) (s : Spot) (e : Element) (es : List Element) → 1 ≤ length e.1 →
    LocatedFrom name bytes at s (e ∷ es) → located name bytes at ≡ s
located_first name bytes at s e es long from =
    let here : at ≡ at + 0 = omega arith in
    ap (located name bytes) here
    ∙ from 0
    ∙ ap (λ b. cond b s (spot_in (spot_after s e) es (0 - length e.1))) (lt-ltb 0 (length e.1) long)

located_next : (name bytes : Text) (at : ℕ) (s : Spot) (e : Element) (es : List Element) →
    LocatedFrom name bytes at s (e ∷ es) →
    LocatedFrom name bytes (at + length e.1) (spot_after s e) es
located_next name bytes at s e es from = λ (k : ℕ).
    let n = length e.1 in
    let there : at + n + k ≡ at + (n + k) = omega arith in
    let left : n + k - n ≡ k = omega arith in
    let past : n ≤ n + k = omega arith in
    ap (located name bytes) there
    ∙ from (n + k)
    ∙ ap (λ b. cond b (moved s (take (n + k) e.1)) (spot_in (spot_after s e) es (n + k - n))) (le-ltb (n + k) n past)
    ∙ ap (spot_in (spot_after s e) es) left

module _ (name bytes : Text) (files : List Text) where
  token_placed : (file start end : ℕ) (s : Spot) (k : Option TokenKind) (more : List Token) →
      slice_get files file ≡ Some s.file →
      located name bytes start ≡ s → AllByRecursion (IsPlaced name bytes files) more →
      AllByRecursion (IsPlaced name bytes files) (token_at (place_at file s) start end k ++ more)
  token_placed file start end s None more named is all = all
  token_placed file start end s (Some k) more named is all = (
    record {
      file = named ∙ ap (λ (x : Spot). Some x.file) (sym is);
      line =
          ap (λ (x : Spot). x.line) (sym is);
      column = ap (λ (x : Spot). x.column) (sym is);
    },
    all,
  )

  read_placed : (file at : ℕ) (s : Spot) (es : List Element) (names : List Text) (t : Tokens) → AllLong es →
      LocatedFrom name bytes at s es →
      IsLast names file s → files ≡ names ++ t.files → read file at s es ≡ Ok t →
      AllByRecursion (IsPlaced name bytes files) t.tokens
  read_placed file at s [] names t long from last all h =
      subst (λ (r : Tokens). AllByRecursion (IsPlaced name bytes files) r.tokens) (ok_is refl h) tt
  read_placed file at s (e ∷ es) names t long from last all h =
      let step = read_step file at s e (meaning at e)
      (read (file + length (named_by e)) (at + length e.1) (spot_after s e) es) t h in
      let whole_files : t.files ≡ named_by e ++ step.rest.files = ap (λ (r : Tokens). r.files) step.whole in
      let grouped : files ≡ (names ++ named_by e) ++ step.rest.files
      = all ∙ ap (λ fs. names ++ fs) whole_files ∙ sym (append_assoc names (named_by e) step.rest.files) in
      let here : slice_get files file ≡ Some s.file = rw all (get_more names t.files file s.file last.last) in
      let later = read_placed (file + length (named_by e)) (at + length e.1) (spot_after s e) es
      (names ++ named_by e) step.rest long.1
      (located_next name bytes at s e es from)
      (last_after names file s e last (file_after s e.0 e.1)) grouped step.rest_is in
      subst (λ (r : Tokens). AllByRecursion (IsPlaced name bytes files) r.tokens) (sym step.whole)
      (token_placed file at (at + length e.1) s step.kind step.rest.tokens here
      (located_first name bytes at s e es long.0 from) later)

-- ---- order

token_first : (place : Place) (start stop end : ℕ) (k : Option TokenKind) (more : List Token) → start < stop →
    stop ≤ end →
    StandInOrder stop end more → StandInOrder start end (token_at place start stop k ++ more)
token_first place start stop end None more some within all = in_order_from start stop end more (omega arith) all
token_first place start stop end (Some k) more some within all = (omega arith, some, within, all)

read_in_order : (end file at : ℕ) (s : Spot) (es : List Element) (t : Tokens) → AllLong es → at + all_bytes es ≤ end →
    read file at s es ≡ Ok t →
    StandInOrder at end t.tokens
read_in_order end file at s [] t long within h = subst (λ (r : Tokens). StandInOrder at end r.tokens) (ok_is refl h) tt
read_in_order end file at s (e ∷ es) t long within h =
    let step = read_step file at s e (meaning at e)
    (read (file + length (named_by e)) (at + length e.1) (spot_after s e) es) t h in
    let later = read_in_order end (file + length (named_by e)) (at + length e.1) (spot_after s e) es step.rest long.1
    (omega arith) step.rest_is in
    subst (λ (r : Tokens). StandInOrder at end r.tokens) (sym step.whole)
    (token_first (place_at file s) at (at + length e.1) end step.kind step.rest.tokens (omega (arith, long.0))
    (omega arith) later)

-- ---- a whole source

record Finished (name : Text) (r : Reading) (tokens : Tokens) : Type 0 where
  found : Tokens
  found_is : r ≡ Ok found
  files : tokens.files ≡ name ∷ found.files
  tokens_are : (keep found.tokens).here ≡ tokens.tokens

finished_is : (name : Text) (r : Reading) (tokens : Tokens) → finished name r ≡ Ok tokens → Finished name r tokens
finished_is name (Err f) tokens h = absurd cc
finished_is name (Ok found) tokens h =
    record {
      found = found;
      found_is = refl;
      files = ap (λ (t : Tokens). t.files) (sym (ok_is refl h));
      tokens_are =
          ap (λ (t : Tokens). t.tokens) (ok_is refl h);
    }

located_all : (name bytes : Text) (es : List Element) → Divides true bytes es →
    LocatedFrom name bytes 0 (beginning name) es
unfolding located
located_all name bytes es divides = λ (k : ℕ).
    let here : 0 + k ≡ k = omega arith in
    ap (spot_in (beginning name) (divide 0 true bytes)) here
    ∙ ap (λ ds. spot_in (beginning name) ds k) (sym (only true bytes es divides))

pub tokens_placed : (name bytes : Text) (tokens : Tokens) → Spells name bytes tokens →
    All (IsPlaced name bytes tokens.files) tokens.tokens
tokens_placed name bytes tokens spells =
    let done = finished_is name (read 0 0 (beginning name) spells.division) tokens spells.reads in
    let all = read_placed name bytes tokens.files 0 0 (beginning name) spells.division (name ∷ []) done.found
    (divided_long true bytes spells.division spells.divides) (located_all name bytes spells.division spells.divides)
    (record { count = refl; last = refl }) done.files done.found_is in
    All-from_recursion (IsPlaced name bytes tokens.files) tokens.tokens
    (subst (λ ts. AllByRecursion (IsPlaced name bytes tokens.files) ts) done.tokens_are
    (part_all (IsPlaced name bytes tokens.files) (keep done.found.tokens).here done.found.tokens
    (keep_part done.found.tokens).here all))

pub tokens_in_order : (name bytes : Text) (tokens : Tokens) → Spells name bytes tokens →
    StandInOrder 0 (length bytes) tokens.tokens
tokens_in_order name bytes tokens spells =
    let done = finished_is name (read 0 0 (beginning name) spells.division) tokens spells.reads in
    let within : 0 + all_bytes spells.division ≤ length bytes =
    omega (arith, divided_bytes true bytes spells.division spells.divides) in
    subst (λ ts. StandInOrder 0 (length bytes) ts) done.tokens_are
    (part_order 0 (length bytes) (keep done.found.tokens).here done.found.tokens (keep_part done.found.tokens).here
    (read_in_order (length bytes) 0 0 (beginning name) spells.division done.found
    (divided_long true bytes spells.division spells.divides) within done.found_is))

pub answer_placed : (name bytes : Text) (r : Reading) → IfOk r (λ tokens. Spells name bytes tokens) →
    IfOk r (λ tokens. All (IsPlaced name bytes tokens.files) tokens.tokens)
answer_placed name bytes (Ok tokens) spells = tokens_placed name bytes tokens spells
answer_placed name bytes (Err f) spells = tt

pub answer_in_order : (name bytes : Text) (r : Reading) → IfOk r (λ tokens. Spells name bytes tokens) →
    IfOk r (λ tokens. StandInOrder 0 (length bytes) tokens.tokens)
answer_in_order name bytes (Ok tokens) spells = tokens_in_order name bytes tokens spells
answer_in_order name bytes (Err f) spells = tt
