-- Where a literal and a comment are closed.
use Rattle.std.proofs.Common.{◌≡◌, ℕ, ◌+◌, Bool, true, false, cond, ◌&&◌, eqb, [], ◌∷◌, ◌++◌, length, Some, None, refl}
use Rattle.std.proofs.Common.{ap, ◌∙◌, arith}
use Rattle.std.proofs.lemmas.Bool.{false≢true, eqb-true}
use Rattle.c_lexer.specs.Class.{Text}
use Rattle.c_lexer.specs.Literal.{closing}
use Rattle.c_lexer.specs.Piece.{comment_end}
use Rattle.c_lexer.specs.Spelling.{IsBody, none, plain, escaped, IsUnclosed, ends_in_star}

none_some : {A : Type 0} {a : A} → None ≡ Some a → ⊥
none_some h = cc

some_is : (a b : ℕ) → Some a ≡ Some b → a ≡ b
some_is a b h = cc

-- ---- literals

-- a text begins with a body and a quote, which end at a place
pub record Closed (quote at : ℕ) (text : Text) (end : ℕ) : Type 0 where
  pub body : Text
  pub rest : Text
  pub is_body : IsBody quote body
  pub text_is : text ≡ body ++ quote ∷ rest
  pub end_is : end ≡ at + length body + 1

-- the same after a backslash
pub record Escaped (quote at : ℕ) (text : Text) (end : ℕ) : Type 0 where
  pub byte : ℕ
  pub more : Text
  pub begins : text ≡ byte ∷ more
  pub newline : eqb byte 10 ≡ false
  pub closed : Closed quote (at + 1) more end

abbrev ClosedBy : Bool → ℕ → ℕ → Text → ℕ → Type 0
ClosedBy true = Escaped
ClosedBy false = Closed

module _ (quote at b : ℕ) (text : Text) (end : ℕ) where
  by_plain : eqb b 10 ≡ false → eqb b quote ≡ false → eqb b 92 ≡ false → Closed quote (at + 1) text end →
      Closed quote at (b ∷ text) end
  by_plain newline other backslash c =
      record {
        body = b ∷ c.body;
        rest = c.rest;
        is_body = plain newline other backslash c.is_body;
        text_is =
            ap (λ t. b ∷ t) c.text_is;
        end_is = omega (arith, c.end_is);
      }

  by_escape : eqb b 92 ≡ true → Escaped quote (at + 1) text end → Closed quote at (b ∷ text) end
  by_escape backslash e =
      let c = e.closed in
      let is : b ≡ 92 = eqb-true b 92 backslash in
      record {
        body = 92 ∷ e.byte ∷ c.body;
        rest = c.rest;
        is_body = escaped e.newline c.is_body;
        text_is = ap (λ t. b ∷ t) e.begins ∙ ap (λ x. x ∷ e.byte ∷ e.more) is ∙ ap (λ t. 92 ∷ e.byte ∷ t) c.text_is;
        end_is = omega (arith, c.end_is);
      }

  by_quote : eqb b quote ≡ true → at + 1 ≡ end → Closed quote at (b ∷ text) end
  by_quote same ends =
      record {
        body = [];
        rest = text;
        is_body = none;
        text_is = ap (λ x. x ∷ text) (eqb-true b quote same);
        end_is =
            omega (arith, ends);
      }

  after_plain : (newline other backslash : Bool) → eqb b 10 ≡ newline → eqb b quote ≡ other → eqb b 92 ≡ backslash →
      cond newline None (cond other (Some (at + 1)) (closing quote backslash (at + 1) text)) ≡ Some end →
      ((e : Bool) → closing quote e (at + 1) text ≡ Some end → ClosedBy e quote (at + 1) text end) →
      Closed quote at (b ∷ text) end
  after_plain true other backslash n o s h more = absurd (none_some h)
  after_plain false true backslash n o s h more = by_quote o (some_is (at + 1) end h)
  after_plain false false true n o s h more = by_escape s (more true h)
  after_plain false false false n o s h more = by_plain n o s (more false h)

  after_escape : (newline : Bool) → eqb b 10 ≡ newline →
      cond newline None (closing quote false (at + 1) text) ≡ Some end →
      (closing quote false (at + 1) text ≡ Some end → Closed quote (at + 1) text end) → Escaped quote at (b ∷ text) end
  after_escape true n h more = absurd (none_some h)
  after_escape false n h more = record { byte = b; more = text; begins = refl; newline = n; closed = more h }

pub closed_from : (quote : ℕ) (escaped : Bool) (at : ℕ) (text : Text) (end : ℕ) →
    closing quote escaped at text ≡ Some end → ClosedBy escaped quote at text end
closed_from quote true at [] end h = absurd (none_some h)
closed_from quote false at [] end h = absurd (none_some h)
closed_from quote true at (b ∷ text) end h =
    after_escape quote at b text end (eqb b 10) refl h (closed_from quote false (at + 1) text end)
closed_from quote false at (b ∷ text) end h =
    after_plain quote at b text end (eqb b 10) (eqb b quote) (eqb b 92) refl refl refl h
    (λ e. closed_from quote e (at + 1) text end)

-- ---- comments

-- a text begins with what is no end of a comment but for its star, and `/`, which ends at a place
pub record Ended (after_star : Bool) (at : ℕ) (text : Text) (end : ℕ) : Type 0 where
  pub body : Text
  pub rest : Text
  pub unclosed : IsUnclosed after_star body
  pub star : ends_in_star after_star body ≡ true
  pub text_is : text ≡ body ++ 47 ∷ rest
  pub end_is : end ≡ at + length body + 1

halves : (a b : Bool) → (a && b) ≡ true → (a ≡ true) × (b ≡ true)
halves true b h = (refl, h)
halves false b h = absurd (false≢true h)

module _ (after_star : Bool) (at b : ℕ) (text : Text) (end : ℕ) where
  after_byte : (closes : Bool) → (after_star && eqb b 47) ≡ closes →
      cond closes (Some (at + 1)) (comment_end (eqb b 42) (at + 1) text) ≡ Some end →
      (comment_end (eqb b 42) (at + 1) text ≡ Some end → Ended (eqb b 42) (at + 1) text end) →
      Ended after_star at (b ∷ text) end
  after_byte true c h more =
      let ends = some_is (at + 1) end h in
      let both = halves after_star (eqb b 47) c in
      record {
        body = [];
        rest = text;
        unclosed = tt;
        star = both.0;
        text_is =
            ap (λ x. x ∷ text) (eqb-true b 47 both.1);
        end_is = omega (arith, ends);
      }
  after_byte false c h more =
      let e = more h in
      record {
        body = b ∷ e.body;
        rest = e.rest;
        unclosed = (c, e.unclosed);
        star = e.star;
        text_is =
            ap (λ t. b ∷ t) e.text_is;
        end_is = omega (arith, e.end_is);
      }

pub ended_from : (after_star : Bool) (at : ℕ) (text : Text) (end : ℕ) → comment_end after_star at text ≡ Some end →
    Ended after_star at text end
ended_from after_star at [] end h = absurd (none_some h)
ended_from after_star at (b ∷ text) end h =
    after_byte after_star at b text end (after_star && eqb b 47) refl h (ended_from (eqb b 42) (at + 1) text end)

pub comment_closes : (after_star : Bool) (body rest : Text) (at : ℕ) → IsUnclosed after_star body →
    ends_in_star after_star body ≡ true →
    comment_end after_star at (body ++ 47 ∷ rest) ≡ Some (at + length body + 1)
comment_closes after_star [] rest at unclosed star =
    ap (λ s. cond (s && true) (Some (at + 1)) (comment_end false (at + 1) rest)) star ∙ ap Some (omega arith)
comment_closes after_star (b ∷ body) rest at unclosed star =
    ap (λ c. cond c (Some (at + 1)) (comment_end (eqb b 42) (at + 1) (body ++ 47 ∷ rest))) unclosed.0
    ∙ comment_closes (eqb b 42) body rest (at + 1) unclosed.1 star
    ∙ ap Some (omega arith)
