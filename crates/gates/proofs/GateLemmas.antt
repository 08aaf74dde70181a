-- A gate's clauses define its variable, so each model extends.
use Rattle.std.proofs.Common.{◌≡◌, ◌<◌, ◌++◌, ◌∷◌, [], ℕ, ◌+◌, List, Bool, true, false, not, cond, ◌&&◌, ◌||◌, eqb, refl, sym, ap, ◌∙◌, arith, append-nil, append_assoc}
use mathlib.Core.Bool.{beq}
use Rattle.std.proofs.lemmas.Bool.{and_parts, and_from, eq-eqb, ne_eqb}
use Rattle.std.proofs.lemmas.List.Elements.{All-head, All-tail}
use Rattle.std.proofs.lemmas.List.Folds.{list_all-append}
use Rattle.cnf_core.specs.Literal.{Literal, negated}
use Rattle.cnf_core.specs.Truth.{Valuation, literal_holds, clause_holds, formula_holds}
use Rattle.gates.specs.declared.bit.Bit.TheVariants.{Unknown}
use Rattle.gates.specs.Nets.{Net, Below, AllBelow, Agree, Defines, IsInput, exclusive, majority}

pub negated-holds : (v : Valuation) (l : Literal) → literal_holds v (negated l) ≡ not (literal_holds v l)
negated-holds v l = go (v l.variable) l.positive
  where
    go : (b p : Bool) → cond (not p) b (not b) ≡ not (cond p b (not b))
    go true true = refl
    go true false = refl
    go false true = refl
    go false false = refl

pub literal-agree : (n : ℕ) (v w : Valuation) (l : Literal) → Agree n v w → l.variable < n → literal_holds v l ≡ literal_holds w l
literal-agree n v w l a h = ap (λ b. cond l.positive b (not b)) (a l.variable h)

clause-agree : (n : ℕ) (v w : Valuation) (clause : List Literal) → Agree n v w → Below n clause → clause_holds v clause ≡ clause_holds w clause
clause-agree n v w [] a b = refl
clause-agree n v w (l ∷ ls) a b =
    let h = literal-agree n v w l a (All-head (λ k. k.variable < n) l ls b) in
    let t = clause-agree n v w ls a (All-tail (λ k. k.variable < n) l ls b) in
    rw (h, t) refl

pub formula-agree : (n : ℕ) (v w : Valuation) (formula : List (List Literal)) → Agree n v w → AllBelow n formula → formula_holds v formula ≡ formula_holds w formula
formula-agree n v w [] a b = refl
formula-agree n v w (c ∷ cs) a b =
    let h = clause-agree n v w c a (All-head (Below n) c cs b) in
    let t = formula-agree n v w cs a (All-tail (Below n) c cs b) in
    rw (h, t) refl

-- the valuation with another value at n
abbrev pub with_value : Valuation → ℕ → Bool → Valuation
with_value v n b x = cond (eqb x n) b (v x)

with_value-agrees : (v : Valuation) (n : ℕ) (b : Bool) → Agree n v (with_value v n b)
with_value-agrees v n b x h = let e : eqb x n ≡ false = ne_eqb x n (λ s. omega arith) in rw e refl

with_value-at : (v : Valuation) (n : ℕ) (b : Bool) → with_value v n b n ≡ b
with_value-at v n b = rw (eq-eqb n n refl) refl

beq-self : (b : Bool) → beq b b ≡ true
beq-self true = refl
beq-self false = refl

beq-true : (a b : Bool) → beq a b ≡ true → a ≡ b
beq-true true true e = refl
beq-true true false e = cc
beq-true false true e = cc
beq-true false false e = refl

pub positive : ℕ → Literal
positive n = record { variable = n; positive = true }

-- clauses that define the next variable make a gate
pub gate-of : (old new : Net) (x : Literal) (clauses : List (List Literal)) (f : Valuation → Bool) → AllBelow (old.count + 1) old.clauses → new.clauses ≡ old.clauses ++ clauses → new.count ≡ old.count + 1 → x ≡ record { variable = old.count + 1; positive = true } → ((v : Valuation) → formula_holds v clauses ≡ beq (v (old.count + 1)) (f v)) → ((v w : Valuation) → Agree (old.count + 1) v w → f v ≡ f w) → Defines old new f x
gate-of old new x clauses f ok is next is_x defines local = record {
  grows = record {
    more = omega (arith, next);
    begins = record { more = clauses; is = is };
    keeps = λ v h. (split v h).0;
    extends = λ v h.
        let n : ℕ = old.count + 1 in
        let w : Valuation = with_value v n (f v) in
        let a : Agree n v w = with_value-agrees v n (f v) in
        let same : formula_holds w old.clauses ≡ true = sym (formula-agree n v w old.clauses a ok) ∙ h in
        let new_true : formula_holds w clauses ≡ true = defines w ∙ ap (λ b. beq b (f w)) (with_value-at v n (f v) ∙ local v w a) ∙ beq-self (f w) in
        record { model = w; agrees = a; is = ap (formula_holds w) is ∙ list_all-append (clause_holds w) old.clauses clauses ∙ and_from (formula_holds w old.clauses) (formula_holds w clauses) same new_true };
  };
  positive = ap (λ l. l.positive) is_x;
  from_one = rw is_x (omega arith);
  within = rw (is_x, next) (omega arith);
  means = λ v h. ap (literal_holds v) is_x ∙ beq-true (v (old.count + 1)) (f v) (sym (defines v) ∙ (split v h).1);
}
  where
    split : (v : Valuation) → formula_holds v new.clauses ≡ true → (formula_holds v old.clauses ≡ true) × (formula_holds v clauses ≡ true)
    split v h = and_parts (formula_holds v old.clauses) (formula_holds v clauses) (sym (list_all-append (clause_holds v) old.clauses clauses) ∙ ap (formula_holds v) (sym is) ∙ h)

and-table : (x a b : Bool) → ((not x || (a || false)) && ((not x || (b || false)) && ((x || (not a || (not b || false))) && true))) ≡ beq x (a && b)
and-table true true true = refl
and-table true true false = refl
and-table true false true = refl
and-table true false false = refl
and-table false true true = refl
and-table false true false = refl
and-table false false true = refl
and-table false false false = refl

pub and-gate : (old new : Net) (x off a b not_a not_b : Literal) (f1 f2 f3 : List (List Literal)) → AllBelow (old.count + 1) old.clauses → a.variable < old.count + 1 → b.variable < old.count + 1 → new.count ≡ old.count + 1 → x ≡ record { variable = old.count + 1; positive = true } → off ≡ negated x → not_a ≡ negated a → not_b ≡ negated b → f1 ≡ old.clauses → f2 ≡ f1 ++ (off ∷ a ∷ []) ∷ [] → f3 ≡ f2 ++ (off ∷ b ∷ []) ∷ [] → new.clauses ≡ f3 ++ (x ∷ not_a ∷ not_b ∷ []) ∷ [] → Defines old new (λ v. (literal_holds v a) && (literal_holds v b)) x
and-gate old new x off a b not_a not_b f1 f2 f3 ok in_a in_b next is_x is_off is_a is_b e1 e2 e3 e4 =
    let p : Literal = record { variable = old.count + 1; positive = true } in
    let is_neg : off ≡ negated p = is_off ∙ ap negated is_x in
    gate-of old new x ((negated p ∷ a ∷ []) ∷ (negated p ∷ b ∷ []) ∷ (p ∷ negated a ∷ negated b ∷ []) ∷ []) (λ v. (literal_holds v a) && (literal_holds v b)) ok
    (rw (e4, e3, e2, e1, is_neg, is_x, is_a, is_b) (simp append_assoc))
    next is_x
    (λ v. rw (negated-holds v a, negated-holds v b) (and-table (v (old.count + 1)) (literal_holds v a) (literal_holds v b)))
    (λ v w ag. rw (literal-agree (old.count + 1) v w a ag in_a, literal-agree (old.count + 1) v w b ag in_b) refl)

xor-table : (x a b : Bool) → ((not x || (a || (b || false))) && ((not x || (not a || (not b || false))) && ((x || (not a || (b || false))) && ((x || (a || (not b || false))) && true)))) ≡ beq x (exclusive a b)
xor-table true true true = refl
xor-table true true false = refl
xor-table true false true = refl
xor-table true false false = refl
xor-table false true true = refl
xor-table false true false = refl
xor-table false false true = refl
xor-table false false false = refl

pub xor-gate : (old new : Net) (x off a b not_a not_b : Literal) (f1 f2 f3 f4 : List (List Literal)) → AllBelow (old.count + 1) old.clauses → a.variable < old.count + 1 → b.variable < old.count + 1 → new.count ≡ old.count + 1 → x ≡ record { variable = old.count + 1; positive = true } → off ≡ negated x → not_a ≡ negated a → not_b ≡ negated b → f1 ≡ old.clauses → f2 ≡ f1 ++ (off ∷ a ∷ b ∷ []) ∷ [] → f3 ≡ f2 ++ (off ∷ not_a ∷ not_b ∷ []) ∷ [] → f4 ≡ f3 ++ (x ∷ not_a ∷ b ∷ []) ∷ [] → new.clauses ≡ f4 ++ (x ∷ a ∷ not_b ∷ []) ∷ [] → Defines old new (λ v. exclusive (literal_holds v a) (literal_holds v b)) x
xor-gate old new x off a b not_a not_b f1 f2 f3 f4 ok in_a in_b next is_x is_off is_a is_b e1 e2 e3 e4 e5 =
    let p : Literal = record { variable = old.count + 1; positive = true } in
    let is_neg : off ≡ negated p = is_off ∙ ap negated is_x in
    gate-of old new x ((negated p ∷ a ∷ b ∷ []) ∷ (negated p ∷ negated a ∷ negated b ∷ []) ∷ (p ∷ negated a ∷ b ∷ []) ∷ (p ∷ a ∷ negated b ∷ []) ∷ []) (λ v. exclusive (literal_holds v a) (literal_holds v b)) ok
    (rw (e5, e4, e3, e2, e1, is_neg, is_x, is_a, is_b) (simp append_assoc))
    next is_x
    (λ v. rw (negated-holds v a, negated-holds v b) (xor-table (v (old.count + 1)) (literal_holds v a) (literal_holds v b)))
    (λ v w ag. rw (literal-agree (old.count + 1) v w a ag in_a, literal-agree (old.count + 1) v w b ag in_b) refl)

majority-table : (x a b c : Bool) → ((not x || (a || (b || false))) && ((not x || (a || (c || false))) && ((not x || (b || (c || false))) && ((x || (not a || (not b || false))) && ((x || (not a || (not c || false))) && ((x || (not b || (not c || false))) && true)))))) ≡ beq x (majority a b c)
majority-table true true true true = refl
majority-table true true true false = refl
majority-table true true false true = refl
majority-table true true false false = refl
majority-table true false true true = refl
majority-table true false true false = refl
majority-table true false false true = refl
majority-table true false false false = refl
majority-table false true true true = refl
majority-table false true true false = refl
majority-table false true false true = refl
majority-table false true false false = refl
majority-table false false true true = refl
majority-table false false true false = refl
majority-table false false false true = refl
majority-table false false false false = refl

pub majority-gate : (old new : Net) (x off a b c not_a not_b not_c : Literal) (f1 f2 f3 f4 f5 f6 : List (List Literal)) → AllBelow (old.count + 1) old.clauses → a.variable < old.count + 1 → b.variable < old.count + 1 → c.variable < old.count + 1 → new.count ≡ old.count + 1 → x ≡ record { variable = old.count + 1; positive = true } → off ≡ negated x → not_a ≡ negated a → not_b ≡ negated b → not_c ≡ negated c → f1 ≡ old.clauses → f2 ≡ f1 ++ (off ∷ a ∷ b ∷ []) ∷ [] → f3 ≡ f2 ++ (off ∷ a ∷ c ∷ []) ∷ [] → f4 ≡ f3 ++ (off ∷ b ∷ c ∷ []) ∷ [] → f5 ≡ f4 ++ (x ∷ not_a ∷ not_b ∷ []) ∷ [] → f6 ≡ f5 ++ (x ∷ not_a ∷ not_c ∷ []) ∷ [] → new.clauses ≡ f6 ++ (x ∷ not_b ∷ not_c ∷ []) ∷ [] → Defines old new (λ v. majority (literal_holds v a) (literal_holds v b) (literal_holds v c)) x
majority-gate old new x off a b c not_a not_b not_c f1 f2 f3 f4 f5 f6 ok in_a in_b in_c next is_x is_off is_a is_b is_c e1 e2 e3 e4 e5 e6 e7 =
    let p : Literal = record { variable = old.count + 1; positive = true } in
    let is_neg : off ≡ negated p = is_off ∙ ap negated is_x in
    gate-of old new x ((negated p ∷ a ∷ b ∷ []) ∷ (negated p ∷ a ∷ c ∷ []) ∷ (negated p ∷ b ∷ c ∷ []) ∷ (p ∷ negated a ∷ negated b ∷ []) ∷ (p ∷ negated a ∷ negated c ∷ []) ∷ (p ∷ negated b ∷ negated c ∷ []) ∷ []) (λ v. majority (literal_holds v a) (literal_holds v b) (literal_holds v c)) ok
    (rw (e7, e6, e5, e4, e3, e2, e1, is_neg, is_x, is_a, is_b, is_c) (simp append_assoc))
    next is_x
    (λ v. rw (negated-holds v a, negated-holds v b, negated-holds v c) (majority-table (v (old.count + 1)) (literal_holds v a) (literal_holds v b) (literal_holds v c)))
    (λ v w ag. rw (literal-agree (old.count + 1) v w a ag in_a, literal-agree (old.count + 1) v w b ag in_b, literal-agree (old.count + 1) v w c ag in_c) refl)

choose-table : (x c a b : Bool) → ((not x || (not c || (a || false))) && ((not x || (c || (b || false))) && ((x || (not c || (not a || false))) && ((x || (c || (not b || false))) && true)))) ≡ beq x (cond c a b)
choose-table true true true true = refl
choose-table true true true false = refl
choose-table true true false true = refl
choose-table true true false false = refl
choose-table true false true true = refl
choose-table true false true false = refl
choose-table true false false true = refl
choose-table true false false false = refl
choose-table false true true true = refl
choose-table false true true false = refl
choose-table false true false true = refl
choose-table false true false false = refl
choose-table false false true true = refl
choose-table false false true false = refl
choose-table false false false true = refl
choose-table false false false false = refl

pub choose-gate : (old new : Net) (x off c a b not_c not_a not_b : Literal) (f1 f2 f3 f4 : List (List Literal)) → AllBelow (old.count + 1) old.clauses → c.variable < old.count + 1 → a.variable < old.count + 1 → b.variable < old.count + 1 → new.count ≡ old.count + 1 → x ≡ record { variable = old.count + 1; positive = true } → off ≡ negated x → not_c ≡ negated c → not_a ≡ negated a → not_b ≡ negated b → f1 ≡ old.clauses → f2 ≡ f1 ++ (off ∷ not_c ∷ a ∷ []) ∷ [] → f3 ≡ f2 ++ (off ∷ c ∷ b ∷ []) ∷ [] → f4 ≡ f3 ++ (x ∷ not_c ∷ not_a ∷ []) ∷ [] → new.clauses ≡ f4 ++ (x ∷ c ∷ not_b ∷ []) ∷ [] → Defines old new (λ v. cond (literal_holds v c) (literal_holds v a) (literal_holds v b)) x
choose-gate old new x off c a b not_c not_a not_b f1 f2 f3 f4 ok in_c in_a in_b next is_x is_off is_c is_a is_b e1 e2 e3 e4 e5 =
    let p : Literal = record { variable = old.count + 1; positive = true } in
    let is_neg : off ≡ negated p = is_off ∙ ap negated is_x in
    gate-of old new x ((negated p ∷ negated c ∷ a ∷ []) ∷ (negated p ∷ c ∷ b ∷ []) ∷ (p ∷ negated c ∷ negated a ∷ []) ∷ (p ∷ c ∷ negated b ∷ []) ∷ []) (λ v. cond (literal_holds v c) (literal_holds v a) (literal_holds v b)) ok
    (rw (e5, e4, e3, e2, e1, is_neg, is_x, is_c, is_a, is_b) (simp append_assoc))
    next is_x
    (λ v. rw (negated-holds v c, negated-holds v a, negated-holds v b) (choose-table (v (old.count + 1)) (literal_holds v c) (literal_holds v a) (literal_holds v b)))
    (λ v w ag. rw (literal-agree (old.count + 1) v w c ag in_c, literal-agree (old.count + 1) v w a ag in_a, literal-agree (old.count + 1) v w b ag in_b) refl)

-- a variable that stands in no clause is free
pub input-free : (old new : Net) (x : Literal) → AllBelow (old.count + 1) old.clauses → new.clauses ≡ old.clauses → new.count ≡ old.count + 1 → x ≡ record { variable = old.count + 1; positive = true } → IsInput old new (Unknown x)
input-free old new x ok is next is_x = record {
  grows = record {
    more = omega (arith, next);
    begins = record { more = []; is = is ∙ sym (append-nil old.clauses) };
    keeps = λ v h. ap (formula_holds v) (sym is) ∙ h;
    extends = λ v h. record { model = v; agrees = λ y l. refl; is = ap (formula_holds v) is ∙ h };
  };
  stands = rw (is_x, next) (omega arith);
  free = λ v b h.
      let n : ℕ = old.count + 1 in
      let w : Valuation = with_value v n b in
      let a : Agree n v w = with_value-agrees v n b in
      let same : formula_holds w old.clauses ≡ true = sym (formula-agree n v w old.clauses a ok) ∙ h in
      (record { model = w; agrees = a; is = ap (formula_holds w) is ∙ same }, ap (literal_holds w) is_x ∙ with_value-at v n b);
}
