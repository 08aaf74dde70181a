-- What is kept of tokens is what is left of them without their attributes.
use Rattle.std.proofs.Common.{◌≡◌, ◌≢◌, List, [], ◌∷◌, ◌++◌, drop, Option, Some, None, Ok, Err, refl, ap, sym}
use Rattle.std.proofs.Common.{subst, ◌∙◌, append_assoc}
use Rattle.std.specs.Prelude.{unwrap_or}
use Rattle.std.specs.Result.{IfOk, IfErr}
use Rattle.c_lexer.specs.Class.{Text}
use Rattle.c_lexer.specs.Places.{beginning}
use Rattle.c_lexer.specs.Attributes.{Kept, keep, kept_before, first_of_all, role_of}
use Rattle.c_lexer.specs.Dropping.{Matched, IsClosed, IsGroup, IsAttribute, IsLeft, Gives, none, plain, group}
use Rattle.c_lexer.specs.Dropping.{attribute, other}
use Rattle.c_lexer.specs.Reading.{Reading, Spells, read, finished}
use Rattle.c_lexer.specs.declared.attribute.Role.{Role}
use Rattle.c_lexer.specs.declared.attribute.Role.TheVariants as role
use Rattle.c_lexer.specs.declared.fault.LexFault.TheVariants as fault
use Rattle.c_language.specs.declared.token.Token.{Token}
use Rattle.c_language.specs.declared.token.Tokens.{Tokens}

-- ---- a group ends at one place

tail_is : {t u : Token} {ts us : List Token} → t ∷ ts ≡ u ∷ us → ts ≡ us
tail_is h = cc

head_is : {t u : Token} {ts us : List Token} → t ∷ ts ≡ u ∷ us → t ≡ u
head_is h = cc

role_is : (t u : Token) (r : Role) → t ≡ u → role_of u.kind ≡ r → role_of t.kind ≡ r
role_is t u r same is = ap (λ (x : Token). role_of x.kind) same ∙ is

apart : (t : Token) → role_of t.kind ≡ role.Open → role_of t.kind ≡ role.Close → ⊥
apart t begins closes = cc

-- two ways to close are one
record Same (a : List Token) (x : Token) (r b : List Token) (y : Token) (s : List Token) : Type 0 where
  inner : a ≡ b
  last : x ≡ y
  rest : r ≡ s

one_more : (t u : Token) (a : List Token) (x : Token) (r b : List Token) (y : Token) (s : List Token) → t ≡ u →
    Same a x r b y s →
    Same (t ∷ a) x r (u ∷ b) y s
one_more t u a x r b y s same is =
    record { inner = ap (λ v. v ∷ a) same ∙ ap (λ l. u ∷ l) is.inner; last = is.last; rest = is.rest }

one_end : (a : List Token) → Matched a → (b : List Token) → Matched b → (x y : Token) (r s : List Token) →
    a ++ x ∷ r ≡ b ++ y ∷ s →
    role_of x.kind ≡ role.Close → role_of y.kind ≡ role.Close → Same a x r b y s
one_end _ none _ none x y r s h cx cy = record { inner = refl; last = head_is h; rest = tail_is h }
one_end _ none _ (plain u us o c m) x y r s h cx cy = absurd (c (role_is u x role.Close (sym (head_is h)) cx))
one_end _ none _ (group g l inner us o c m n) x y r s h cx cy =
    absurd (apart g o (role_is g x role.Close (sym (head_is h)) cx))
one_end _ (plain t ts o c m) _ none x y r s h cx cy = absurd (c (role_is t y role.Close (head_is h) cy))
one_end _ (group f k inner ts o c m n) _ none x y r s h cx cy =
    absurd (apart f o (role_is f y role.Close (head_is h) cy))
one_end _ (plain t ts o c m) _ (plain u us o' c' m') x y r s h cx cy =
    one_more t u ts x r us y s (head_is h) (one_end ts m us m' x y r s (tail_is h) cx cy)
one_end _ (plain t ts o c m) _ (group g l inner us o' c' m' n') x y r s h cx cy =
    absurd (o (role_is t g role.Open (head_is h) o'))
one_end _ (group f k inner ts o c m n) _ (plain u us o' c' m') x y r s h cx cy =
    absurd (o' (role_is u f role.Open (sym (head_is h)) o))
one_end _ (group f k inner ts o c m n) _ (group g l inner' us o' c' m' n') x y r s h cx cy =
    let e : inner ++ k ∷ (ts ++ x ∷ r) ≡ inner' ++ l ∷ (us ++ y ∷ s)
    = sym (append_assoc inner (k ∷ ts) (x ∷ r)) ∙ tail_is h ∙ append_assoc inner' (l ∷ us) (y ∷ s) in
    let first = one_end inner m inner' m' k l (ts ++ x ∷ r) (us ++ y ∷ s) e c c' in
    let then = one_end ts n us n' x y r s first.rest cx cy in
    record {
      inner =
          ap (λ v. v ∷ (inner ++ k ∷ ts)) (head_is h)
          ∙ ap (λ l'. g ∷ (l' ++ k ∷ ts)) first.inner
          ∙ ap (λ v. g ∷ (inner' ++ v ∷ ts)) first.last
          ∙ ap (λ l'. g ∷ (inner' ++ l ∷ l')) then.inner;
      last = then.last;
      rest = then.rest;
    }

closed_once : (ts r s : List Token) → IsClosed ts r → IsClosed ts s → r ≡ s
closed_once ts r s c d = (one_end c.inner c.matched d.inner d.matched c.last d.last r s
    (sym c.is ∙ d.is) c.closes d.closes).rest

group_once : (ts r s : List Token) → IsGroup ts r → IsGroup ts s → r ≡ s
group_once ts r s g h =
    let same : g.more ≡ h.more = tail_is (sym g.is ∙ h.is) in
    closed_once h.more r s (subst (λ l. IsClosed l r) same g.closed) h.closed

attribute_once : (ts r s : List Token) → IsAttribute ts r → IsAttribute ts s → r ≡ s
attribute_once ts r s a b =
    let same : a.more ≡ b.more = tail_is (sym a.is ∙ b.is) in
    group_once b.more r s (subst (λ l. IsGroup l r) same a.group) b.group

-- ---- what is left is one list

nil_cons : {t : Token} {ts : List Token} → [] ≡ t ∷ ts → ⊥
nil_cons h = cc

pub one_left : (ts a b : List Token) → IsLeft ts a → IsLeft ts b → a ≡ b
one_left _ _ _ none none = refl
one_left _ _ b none (attribute tokens rest left is more) = absurd (nil_cons is.is)
one_left _ a _ (attribute tokens rest left is more) none = absurd (nil_cons is.is)
one_left _ a b (attribute tokens rest left is more) (attribute _ rest' left' is' more') =
    one_left rest a b more (subst (λ l. IsLeft l b) (attribute_once tokens rest' rest is' is) more')
one_left _ a _ (attribute tokens rest left is more) (other t ts left' never more') = absurd (never rest is)
one_left _ _ b (other t ts left never more) (attribute _ rest left' is more') = absurd (never rest is)
one_left _ _ _ (other t ts left never more) (other _ _ left' never' more') =
    ap (λ l. t ∷ l) (one_left ts left left' more more')

-- ---- what is kept

-- what is left behind each closing bracket that closes none of some tokens
data AreClosed : List Token → List (List Token) → Type 0 where
  stops : (ts : List Token) → ((rest : List Token) → IsClosed ts rest → ⊥) → AreClosed ts []
  next : (ts rest left : List Token) (lefts : List (List Token)) → IsClosed ts rest → IsLeft rest left →
      AreClosed rest lefts →
      AreClosed ts (left ∷ lefts)

record LeftBehind (ts left : List Token) : Type 0 where
  rest : List Token
  is : IsGroup ts rest
  left_is : IsLeft rest left

abbrev IsBehind : List Token → Option (List Token) → Type 0
IsBehind ts None = (rest : List Token) → IsGroup ts rest → ⊥
IsBehind ts (Some left) = LeftBehind ts left

record IsKept (ts : List Token) (k : Kept) : Type 0 where
  here : IsLeft ts k.here
  group_is : IsBehind ts k.group
  closers : AreClosed ts k.closers

-- a token that is no opening bracket begins no group, and one that is no attribute's word no attribute
no_group : (t : Token) (ts : List Token) → role_of t.kind ≢ role.Open → (rest : List Token) → IsGroup (t ∷ ts) rest → ⊥
no_group t ts not_open rest g = not_open (role_is t g.first role.Open (head_is g.is) g.begins)

no_attribute : (t : Token) (ts : List Token) → role_of t.kind ≢ role.Attribute → (rest : List Token) →
    IsAttribute (t ∷ ts) rest → ⊥
no_attribute t ts not_word rest a = not_word (role_is t a.word role.Attribute (head_is a.is) a.names)

stays : (t : Token) (ts left : List Token) → role_of t.kind ≢ role.Attribute → IsLeft ts left →
    IsLeft (t ∷ ts) (t ∷ left)
stays t ts left not_word is = other t ts left (no_attribute t ts not_word) is

-- a token that is no bracket stands before what closes
closed_more : (t : Token) (ts rest : List Token) → role_of t.kind ≢ role.Open → role_of t.kind ≢ role.Close →
    IsClosed ts rest → IsClosed (t ∷ ts) rest
closed_more t ts rest o c is = record {
  inner = t ∷ is.inner;
  last = is.last;
  is = ap (λ l. t ∷ l) is.is;
  matched = plain t is.inner o c is.matched;
  closes = is.closes;
}

closed_less : (t : Token) (ts rest : List Token) → role_of t.kind ≢ role.Open → role_of t.kind ≢ role.Close →
    IsClosed (t ∷ ts) rest → IsClosed ts rest
closed_less t ts rest o c is = by_inner is.inner is.matched is.is
  where
    by_inner : (inner : List Token) → Matched inner → t ∷ ts ≡ inner ++ is.last ∷ rest → IsClosed ts rest
    by_inner _ none h = absurd (c (role_is t is.last role.Close (head_is h) is.closes))
    by_inner _ (plain u us o' c' m) h =
        record { inner = us; last = is.last; is = tail_is h; matched = m; closes = is.closes }
    by_inner _ (group f l inner us o' c' m n) h = absurd (o (role_is t f role.Open (head_is h) o'))

all_more : (t : Token) (ts : List Token) (lefts : List (List Token)) → role_of t.kind ≢ role.Open →
    role_of t.kind ≢ role.Close →
    AreClosed ts lefts → AreClosed (t ∷ ts) lefts
all_more t _ _ o c (stops ts never) = stops (t ∷ ts) (λ rest is. never rest (closed_less t ts rest o c is))
all_more t _ _ o c (next ts rest left lefts is more all) =
    next (t ∷ ts) rest left lefts (closed_more t ts rest o c is) more all

-- an opening bracket pairs with the first of those that close
record Pairs (ts rest : List Token) : Type 0 where
  between : List Token
  first : IsClosed ts between
  second : IsClosed between rest

pair_up : (t : Token) (ts rest : List Token) → role_of t.kind ≡ role.Open → IsClosed (t ∷ ts) rest → Pairs ts rest
pair_up t ts rest o is = by_inner is.inner is.matched is.is
  where
    by_inner : (inner : List Token) → Matched inner → t ∷ ts ≡ inner ++ is.last ∷ rest → Pairs ts rest
    by_inner _ none h = absurd (apart t o (role_is t is.last role.Close (head_is h) is.closes))
    by_inner _ (plain u us o' c' m) h = absurd (o' (role_is u t role.Open (sym (head_is h)) o))
    by_inner _ (group f l inner us o' c' m n) h = record {
      between = us ++ is.last ∷ rest;
      first = record {
        inner = inner;
        last = l;
        is = tail_is h
            ∙ append_assoc inner (l ∷ us) (is.last ∷ rest);
        matched = m;
        closes = c';
      };
      second = record { inner = us; last = is.last; is = refl; matched = n; closes = is.closes };
    }

pair : (t : Token) (ts between rest : List Token) → role_of t.kind ≡ role.Open → IsClosed ts between →
    IsClosed between rest → IsClosed (t ∷ ts) rest
pair t ts between rest o c d = record {
  inner = t ∷ (c.inner ++ c.last ∷ d.inner);
  last = d.last;
  is = ap (λ l. t ∷ l) (c.is ∙ ap (λ l. c.inner ++ c.last ∷ l) d.is
      ∙ sym (append_assoc c.inner (c.last ∷ d.inner) (d.last ∷ rest)));
  matched = group t c.last c.inner d.inner o c.closes c.matched d.matched;
  closes = d.closes;
}

later_closed : (t : Token) (ts : List Token) (lefts : List (List Token)) → role_of t.kind ≡ role.Open →
    AreClosed ts lefts → AreClosed (t ∷ ts) (drop 1 lefts)
later_closed t _ _ o (stops ts never) =
    stops (t ∷ ts) (λ rest is. let p = pair_up t ts rest o is in never p.between p.first)
later_closed t _ _ o (next ts between left lefts is more all) = behind lefts all
  where
    behind : (ls : List (List Token)) → AreClosed between ls → AreClosed (t ∷ ts) ls
    behind _ (stops _ never) = stops (t ∷ ts) (λ rest c. let p = pair_up t ts rest o c in
        never rest (subst (λ l. IsClosed l rest) (closed_once ts p.between between p.first is) p.second))
    behind _ (next _ rest left' ls is' more' all') =
        next (t ∷ ts) rest left' ls (pair t ts between rest o is is') more' all'

first_behind : (t : Token) (ts : List Token) (lefts : List (List Token)) → role_of t.kind ≡ role.Open →
    AreClosed ts lefts → IsBehind (t ∷ ts) (first_of_all lefts)
first_behind t _ _ o (stops ts never) = λ rest g.
    never rest (subst (λ l. IsClosed l rest) (sym (tail_is g.is)) g.closed)
first_behind t _ _ o (next ts rest left lefts is more all) = record {
  rest = rest;
  is = record { first = t; more = ts; is = refl; begins = o; closed = is };
  left_is = more;
}

chosen_left : (t : Token) (ts here : List Token) (g : Option (List Token)) → role_of t.kind ≡ role.Attribute →
    IsBehind ts g → IsLeft ts here →
    IsLeft (t ∷ ts) (unwrap_or g (t ∷ here))
chosen_left t ts here None is behind left =
    other t ts here (λ rest a. behind rest (subst (λ l. IsGroup l rest) (sym (tail_is a.is)) a.group)) left
chosen_left t ts here (Some g) is behind left =
    attribute (t ∷ ts) behind.rest g
    (record { word = t; more = ts; is = refl; names = is; group = behind.is }) behind.left_is

one_kept : (r : Role) (t : Token) (ts : List Token) (k : Kept) → role_of t.kind ≡ r → IsKept ts k →
    IsKept (t ∷ ts) (kept_before r t k)
one_kept role.Open t ts k is all = record {
  here = stays t ts k.here (λ e. cc) all.here;
  group_is = first_behind t ts k.closers is all.closers;
  closers = later_closed t ts k.closers is all.closers;
}
one_kept role.Close t ts k is all = record {
  here = stays t ts k.here (λ e. cc) all.here;
  group_is = no_group t ts (λ e. cc);
  closers = next (t ∷ ts) ts k.here k.closers
      (record { inner = []; last = t; is = refl; matched = none; closes = is }) all.here all.closers;
}
one_kept role.Attribute t ts k is all = record {
  here = chosen_left t ts k.here k.group is all.group_is all.here;
  group_is = no_group t ts (λ e. cc);
  closers = all_more t ts k.closers (λ e. cc) (λ e. cc) all.closers;
}
one_kept role.Other t ts k is all = record {
  here = stays t ts k.here (λ e. cc) all.here;
  group_is = no_group t ts (λ e. cc);
  closers = all_more t ts k.closers (λ e. cc) (λ e. cc) all.closers;
}

nothing_closed : (rest : List Token) → IsClosed [] rest → ⊥
nothing_closed rest is = by_inner is.inner is.is
  where
    by_inner : (inner : List Token) → [] ≡ inner ++ is.last ∷ rest → ⊥
    by_inner [] h = cc
    by_inner (t ∷ ts) h = cc

all_kept : (ts : List Token) → IsKept ts (keep ts)
all_kept [] = record {
  here = none;
  group_is = λ rest g. nil_cons g.is;
  closers = stops [] nothing_closed;
}
all_kept (t ∷ ts) = one_kept (role_of t.kind) t ts (keep ts) refl (all_kept ts)

-- ---- what a source gives

ok_is : {x y : Tokens} {r : Reading} → r ≡ Ok x → r ≡ Ok y → x ≡ y
ok_is is also = cc

gives_all : (name bytes : Text) (tokens : Tokens) (s : Spells name bytes tokens) (r : Reading) →
    read 0 0 (beginning name) s.division ≡ r →
    finished name r ≡ Ok tokens → Gives name bytes tokens
gives_all name bytes tokens s (Err f) is h = absurd cc
gives_all name bytes tokens s (Ok all) is h =
    let same : record { files = name ∷ all.files; tokens = (keep all.tokens).here } ≡ tokens = ok_is refl h in
    record {
      division = s.division;
      divides = s.divides;
      all = all;
      reads = is;
      files = ap (λ (t : Tokens). t.files) (sym same);
      left = subst (λ (t : Tokens). IsLeft all.tokens t.tokens) same (all_kept all.tokens).here;
    }

-- what is spelled is given
pub spells_gives : (name bytes : Text) (tokens : Tokens) → Spells name bytes tokens → Gives name bytes tokens
spells_gives name bytes tokens s = gives_all name bytes tokens s (read 0 0 (beginning name) s.division) refl s.reads

-- and what is given is spelled
pub gives_spells : (name bytes : Text) (tokens : Tokens) → Gives name bytes tokens → Spells name bytes tokens
gives_spells name bytes tokens g = record {
  division = g.division;
  divides = g.divides;
  reads =
      ap (finished name) g.reads
      ∙ ap (λ fs. Ok (record { files = fs; tokens = (keep g.all.tokens).here })) (sym g.files)
      ∙ ap (λ ts. Ok (record { files = tokens.files; tokens = ts }))
      (one_left g.all.tokens (keep g.all.tokens).here tokens.tokens (all_kept g.all.tokens).here g.left);
}

pub answer_gives : (name bytes : Text) (r : Reading) → IfOk r (λ tokens. Spells name bytes tokens) →
    IfOk r (λ tokens. Gives name bytes tokens)
answer_gives name bytes (Ok tokens) s = spells_gives name bytes tokens s
answer_gives name bytes (Err f) s = tt

pub answer_gives_none : (name bytes : Text) (r : Reading) →
    IfErr r (λ f. f ≢ fault.Memory → (tokens : Tokens) → Spells name bytes tokens → ⊥) →
    IfErr r (λ f. f ≢ fault.Memory → (tokens : Tokens) → Gives name bytes tokens → ⊥)
answer_gives_none name bytes (Ok tokens) refuses = tt
answer_gives_none name bytes (Err f) refuses = λ other tokens g. refuses other tokens (gives_spells name bytes tokens g)
