-- How a brace group is cut off, token by token.
use Rattle.std.proofs.Common.{
  ◌≡◌,
  ◌+◌,
  ◌≤◌,
  ◌<◌,
  ℕ,
  suc,
  List,
  [],
  ◌∷◌,
  ◌++◌,
  length,
  take,
  drop,
  get_or,
  Option,
  Some,
  None,
  Bool,
  true,
  false,
  refl,
  sym,
  ap,
  ◌∙◌,
  append_assoc,
  add-one,
  cond,
}
use Rattle.std.proofs.Math.ListN.{drop_of_length-le}
use Rattle.std.proofs.Math.Seq.{drop-cons, take-suc}
use Rattle.c_language.specs.declared.token.Token.{Token}
use Rattle.c_language.specs.declared.token.Punctuator.{Punctuator}
use Rattle.c_grammar.specs.Parts.{is_punctuator}
use Rattle.c_grammar.specs.Units.{closer, closing}
use Rattle.c_grammar.specs.UnitReading.{Cut, cut, cut_by, with_front}
use Rattle.c_reading.proofs.Lists.{append_nothing}
use Rattle.c_parser.specs.Groups.{wants_none, wanted_by, wanted_behind, Changes, fronted}

-- ---- a token of a list

pub here_on : (tokens : List Token) (n : ℕ) (t : Token) → n < length tokens → t ≡ get_or tokens n t
    → drop n tokens ≡ t ∷ drop (n + 1) tokens
here_on tokens n t within is = drop-cons tokens n t within ∙ ap (λ x. x ∷ drop (suc n) tokens) (sym is)
    ∙ ap (λ k. t ∷ drop k tokens) (sym (add-one n))

pub up_to : (tokens : List Token) (n : ℕ) (t : Token) → n < length tokens → t ≡ get_or tokens n t
    → take (n + 1) tokens ≡ take n tokens ++ t ∷ []
up_to tokens n t within is = ap (λ k. take k tokens) (add-one n) ∙ take-suc tokens n t within
    ∙ ap (λ x. take n tokens ++ x ∷ []) (sym is)

fronted_twice : (front : List Token) (t : Token) (read : Cut)
    → fronted (front ++ t ∷ []) read ≡ fronted front (with_front t read)
fronted_twice front t None = refl
fronted_twice front t (Some x) = ap (λ l. Some (l, x.1)) (append_assoc front (t ∷ []) x.0)

-- ---- one token of a group

abbrev cut_with : List Token → Option (List Punctuator) → Cut
cut_with ts None = None
cut_with ts (Some ws) = cut ts ws

by_kind : (ts : List Token) (m : Punctuator) (ms : List Punctuator) (o : Option Punctuator)
    (is_closing is_wanted : Bool)
    → cut_by o is_closing is_wanted (λ p. cut ts (p ∷ m ∷ ms)) (cut ts (m ∷ ms)) (cut ts ms)
    ≡ cut_with ts (wanted_by o is_closing (cond is_wanted (Some ms) None) (m ∷ ms))
by_kind ts m ms (Some o) is_closing is_wanted = refl
by_kind ts m ms None true true = refl
by_kind ts m ms None true false = refl
by_kind ts m ms None false is_wanted = refl

one_token : (t : Token) (ts : List Token) (ws : List Punctuator) → wants_none ws ≡ false
    → cut (t ∷ ts) ws ≡ with_front t (cut_with ts (wanted_behind t.kind ws))
unfolding cut
one_token t ts [] wants = cc
one_token t ts (m ∷ ms) wants = ap (with_front t)
    (by_kind ts m ms (closer t.kind) (closing t.kind) (is_punctuator m t.kind))

no_token : (ws : List Punctuator) → wants_none ws ≡ false → cut [] ws ≡ None
unfolding cut
no_token [] wants = cc
no_token (m ∷ ms) wants = refl

all_closed : (ts : List Token) (ws : List Punctuator) → wants_none ws ≡ true → cut ts ws ≡ Some ([], ts)
unfolding cut
all_closed [] [] wants = refl
all_closed (t ∷ ts) [] wants = refl
all_closed ts (m ∷ ms) wants = cc

-- ---- the loop's exits

pub cut_stop : (tokens : List Token) (n : ℕ) (ws : List Punctuator) (whole : Cut) → wants_none ws ≡ true
    → fronted (take n tokens) (cut (drop n tokens) ws) ≡ whole → whole ≡ Some (take n tokens, drop n tokens)
cut_stop tokens n ws whole wants reads =
    sym reads ∙ ap (fronted (take n tokens)) (all_closed (drop n tokens) ws wants)
    ∙ ap (λ l. Some (l, drop n tokens)) (append_nothing (take n tokens))

pub cut_out : (tokens : List Token) (n : ℕ) (ws : List Punctuator) (whole : Cut) → length tokens ≤ n
    → wants_none ws ≡ false → fronted (take n tokens) (cut (drop n tokens) ws) ≡ whole → whole ≡ None
cut_out tokens n ws whole past wants reads = sym reads
    ∙ ap (λ ts. fronted (take n tokens) (cut ts ws)) (drop_of_length-le tokens past)
    ∙ ap (fronted (take n tokens)) (no_token ws wants)

step : (tokens : List Token) (n : ℕ) (t : Token) (ws : List Punctuator) (behind : Option (List Punctuator))
    → n < length tokens → t ≡ get_or tokens n t → wants_none ws ≡ false → wanted_behind t.kind ws ≡ behind
    → cut (drop n tokens) ws ≡ with_front t (cut_with (drop (n + 1) tokens) behind)
step tokens n t ws behind within is wants then = ap (λ ts. cut ts ws) (here_on tokens n t within is)
    ∙ one_token t (drop (n + 1) tokens) ws wants ∙ ap (λ b. with_front t (cut_with (drop (n + 1) tokens) b)) then

pub cut_lost : (tokens : List Token) (n : ℕ) (t : Token) (ws new : List Punctuator) (whole : Cut) → n < length tokens
    → t ≡ get_or tokens n t → wants_none ws ≡ false → Changes (wanted_behind t.kind ws) false new
    → fronted (take n tokens) (cut (drop n tokens) ws) ≡ whole → whole ≡ None
cut_lost tokens n t ws new whole within is wants none reads = sym reads
    ∙ ap (fronted (take n tokens)) (step tokens n t ws None within is wants none)

pub cut_next : (tokens : List Token) (n : ℕ) (t : Token) (ws new : List Punctuator) (whole : Cut) → n < length tokens
    → t ≡ get_or tokens n t → wants_none ws ≡ false → Changes (wanted_behind t.kind ws) true new
    → fronted (take n tokens) (cut (drop n tokens) ws) ≡ whole
    → fronted (take (n + 1) tokens) (cut (drop (n + 1) tokens) new) ≡ whole
cut_next tokens n t ws new whole within is wants then reads =
    ap (λ l. fronted l (cut (drop (n + 1) tokens) new)) (up_to tokens n t within is)
    ∙ fronted_twice (take n tokens) t (cut (drop (n + 1) tokens) new)
    ∙ sym (ap (fronted (take n tokens)) (step tokens n t ws (Some new) within is wants then))
    ∙ reads
