-- Statements of several parts, read in two steps.
use Rattle.std.proofs.Common.{◌≡◌, ℕ, Option, Some, None, refl, sym, ◌∙◌}
use Rattle.c_language.specs.declared.token.Punctuator.TheVariants as mark
use Rattle.c_language.specs.declared.expr.Expr.{Expr}
use Rattle.c_language.specs.declared.unit.ForStart.{ForStart}
use Rattle.c_language.specs.declared.unit.Stmt.{Stmt}
use Rattle.c_language.specs.declared.unit.Stmt.TheVariants as stmt
use Rattle.c_grammar.specs.Parts.{State, entered, left}
use Rattle.c_grammar.specs.Reading.{Reading, Rules, ◌>>=◌, expect}
use Rattle.c_grammar.specs.UnitReading.{
  Turn,
  Inside,
  condition_at,
  if_at,
  optional_at,
  substatement_at,
  else_at,
  for_start_at,
  for_at,
}
use Rattle.c_parser.specs.Control.{branches_at, turning_at, heading_at}

-- steps are taken one behind another, however they are grouped
bound : {A B C : Type 0} (o : Option A) (f : A → Option B) (g : B → Option C) (h : A → Option C)
    → ((a : A) → (f a >>= g) ≡ h a) → ((o >>= f) >>= g) ≡ (o >>= h)
bound None f g h e = refl
bound (Some a) f g h e = e a

same : {A C : Type 0} (o : Option A) (f h : A → Option C) → ((a : A) → f a ≡ h a) → (o >>= f) ≡ (o >>= h)
same None f h e = refl
same (Some a) f h e = e a

branched : {C : Type 0} (turn : Turn) (s : State) (k : (Stmt × Option Stmt) × State → Option C)
    → (branches_at turn s >>= k) ≡ (substatement_at turn s >>= (λ p. else_at turn p.1 >>= (λ n. k ((p.0, n.0), n.1))))
unfolding branches_at
branched turn s k = bound (substatement_at turn s) _ k _ (λ p. bound (else_at turn p.1) _ k _ (λ n. refl))

pub if_is : (turn : Turn) (r : Rules) (at : ℕ) (s : State)
    → if_at turn r at s ≡ (condition_at r (s.0, entered s.1)
    >>= (λ c. branches_at turn c.1 >>= (λ b. Some (stmt.If at c.0 b.0.0 b.0.1, (b.1.0, left b.1.1)))))
unfolding if_at
if_is turn r at s = same (condition_at r (s.0, entered s.1)) _ _
    (λ c. sym (branched turn c.1 (λ b. Some (stmt.If at c.0 b.0.0 b.0.1, (b.1.0, left b.1.1)))))

turned : {C : Type 0} (r : Rules) (s : State) (k : (Option Expr × Option Expr) × State → Option C)
    → (turning_at r s >>= k)
    ≡ (optional_at r mark.Semicolon s >>= (λ c. expect mark.Semicolon c.1
    >>= (λ m. optional_at r mark.RightParen m.2
    >>= (λ e. expect mark.RightParen e.1 >>= (λ z. k ((c.0, e.0), z.2))))))
unfolding turning_at
turned r s k = bound (optional_at r mark.Semicolon s) _ k _
    (λ c. bound (expect mark.Semicolon c.1) _ k _
    (λ m. bound (optional_at r mark.RightParen m.2) _ k _ (λ e. bound (expect mark.RightParen e.1) _ k _ (λ z. refl))))

headed : {C : Type 0} (r : Rules) (inside : Inside) (s : State)
    (k : (ForStart × Option Expr × Option Expr) × State → Option C) → (heading_at r inside s >>= k)
    ≡ (expect mark.LeftParen s >>= (λ o. for_start_at r inside o.2
    >>= (λ f. turning_at r f.1 >>= (λ t. k ((f.0, t.0.0, t.0.1), t.1)))))
unfolding heading_at
headed r inside s k = bound (expect mark.LeftParen s) _ k _
    (λ o. bound (for_start_at r inside o.2) _ k _ (λ f. bound (turning_at r f.1) _ k _ (λ t. refl)))

pub for_is : (turn : Turn) (r : Rules) (inside : Inside) (at : ℕ) (s : State) → for_at turn r inside at s
    ≡ (heading_at r inside (s.0, entered s.1)
    >>= (λ h. substatement_at turn h.1 >>= (λ x. Some (stmt.For at h.0.0 h.0.1 h.0.2 x.0, (x.1.0, left x.1.1)))))
unfolding for_at
for_is turn r inside at s =
    let k : (ForStart × Option Expr × Option Expr) × State → Reading Stmt =
    (λ h. substatement_at turn h.1 >>= (λ x. Some (stmt.For at h.0.0 h.0.1 h.0.2 x.0, (x.1.0, left x.1.1)))) in
    sym (headed r inside (s.0, entered s.1) k
    ∙ same (expect mark.LeftParen (s.0, entered s.1)) _ _
    (λ o. same (for_start_at r inside o.2) _ _ (λ f. turned r f.1 (λ t. k ((f.0, t.0.0, t.0.1), t.1)))))
