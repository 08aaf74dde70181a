-- Trees of height 0, and those of one more.
use Rattle.std.proofs.Common.{◌≡◌, ℕ, suc, None, refl, ap}
use Rattle.c_grammar.specs.declared.declarator_place.DeclaratorPlace.{DeclaratorPlace}
use Rattle.c_grammar.specs.Parts.{State}
use Rattle.c_grammar.specs.Reading.{rules, next_rules, nothing, expr_by, specifier_in, declarator_by}

rules_none : (h : ℕ) → h ≡ 0 → rules h ≡ nothing
unfolding rules
rules_none h e = rw e refl

rules_next : (h m : ℕ) → h ≡ suc m → rules h ≡ next_rules (rules m) (suc m)
unfolding rules
rules_next h m e = rw e refl

pub no_expr : (h rank : ℕ) (s : State) → h ≡ 0 → (rules h).expr rank s ≡ None
no_expr h rank s e = ap (λ r. r.expr rank s) (rules_none h e)

pub no_specifier : (h : ℕ) (s : State) → h ≡ 0 → (rules h).specifier s ≡ None
no_specifier h s e = ap (λ r. r.specifier s) (rules_none h e)

pub no_declarator : (h : ℕ) (place : DeclaratorPlace) (s : State) → h ≡ 0 → (rules h).declarator place s ≡ None
no_declarator h place s e = ap (λ r. r.declarator place s) (rules_none h e)

pub next_expr : (h m rank : ℕ) (s : State) → h ≡ suc m → (rules h).expr rank s ≡ expr_by (rules m) (suc m) rank s
next_expr h m rank s e = ap (λ r. r.expr rank s) (rules_next h m e)

pub next_specifier : (h m : ℕ) (s : State) → h ≡ suc m → (rules h).specifier s ≡ specifier_in (rules m) s.0 s.1
next_specifier h m s e = ap (λ r. r.specifier s) (rules_next h m e)

pub next_declarator : (h m : ℕ) (place : DeclaratorPlace) (s : State) → h ≡ suc m →
    (rules h).declarator place s ≡ declarator_by (rules m) (suc m) place s
next_declarator h m place s e = ap (λ r. r.declarator place s) (rules_next h m e)
