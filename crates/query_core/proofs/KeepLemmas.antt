-- Queries that go on.
use Rattle.std.proofs.Common.{◌≡◌, ◌⊎◌, inl, inr, ◌<◌, ◌≤◌, ◌++◌, ◌∷◌, [], ℕ, zero, suc, ℤ, List, Option, Some, None, Bool, true, false, cond, length, take, get_or, nat_eq, refl, sym, ap, ◌∙◌, subst, arith}
use Rattle.std.specs.Prelude.{slice_get, ◌&&◌, IfSome}
use Rattle.std.specs.Ordering.{int_eq}
use Rattle.std.proofs.lemmas.Bool.{and_from, and_parts}
use Rattle.std.proofs.lemmas.Bool.Decides.{Decides-int_eq, nat_tests}
use Rattle.term_bank.specs.declared.shape.Shape.{Shape}
use Rattle.proof_check.specs.Steps.{Step}
use Rattle.term_bank.specs.Banks.{IsBank}
use Rattle.term_bank.specs.Values.{Grows}
use Rattle.plain_data.specs.declared.fact.Fact.{Fact}
use Rattle.term_bank.proofs.BankLemmas.{grows_on}
use Rattle.path_states.proofs.Growth.{states_grown}
use Rattle.bitvectors.specs.declared.blasting.Blasted.{Blasted}
use Rattle.bitvectors.specs.declared.more.More.{More}
use Rattle.bitvectors.specs.Blasts.{IsMore}
use Rattle.bitvectors.proofs.FormulaLemmas.{ready-grown}
use Rattle.term_bank.specs.declared.sort.Node.{Node}
use Rattle.run_formula.specs.declared.watches.Watch.{Watch}
use Rattle.run_formula.specs.Formula.{AnswersOther}
use Rattle.log_expr.specs.Tours.{Tour}
use Rattle.run_formula.specs.declared.formula.RunFormula.{RunFormula}
use Rattle.query_core.specs.declared.query.Query.{Query}
use Rattle.query_core.specs.declared.others.Other.{Other as OtherLiteral}
use Rattle.query_core.specs.declared.others.Made.{Made}
use Rattle.query_core.specs.declared.target.Target.{Target}
use Rattle.query_core.specs.declared.target.Target.TheVariants.{Fits, Having, Lacking, Other}
use Rattle.query_core.specs.Claims.{claim, claimed, is_of, other_at, other_bit, other_clauses, watch_at, with_others, with_kept, GoesOn, HasMade, IsBankOf, IsAbout, IsDefined, IsFoundAt, IsLiteral, IsMadeOf, IsQuery, IsWhole, Keeps, OfSome}

-- ---- literals by watched variable and value

no-literal : {A : Type 0} (o : OtherLiteral) → ◌≡◌ {A = Option OtherLiteral} None (Some o) → A
no-literal o e = absurd (cc)

one : {x y : OtherLiteral} → Some x ≡ Some y → x ≡ y
one e = cc

-- a literal that was found stays where more are put behind
pub stays-found : (os more : List OtherLiteral) (k : ℕ) (x : ℤ) (o : OtherLiteral) → other_at os k x ≡ Some o → other_at (os ++ more) k x ≡ Some o
stays-found [] more k x o is = no-literal o is
stays-found (p ∷ os) more k x o is = split (is_of p k x) is (stays-found os more k x o)
  where
    split : (b : Bool) → cond b (Some p) (other_at os k x) ≡ Some o → (other_at os k x ≡ Some o → other_at (os ++ more) k x ≡ Some o)
        → cond b (Some p) (other_at (os ++ more) k x) ≡ Some o
    split true e h = e
    split false e h = h e

pub found-parted : (os more : List OtherLiteral) (k : ℕ) (x : ℤ) (o : OtherLiteral) → other_at (os ++ more) k x ≡ Some o
    → (other_at os k x ≡ Some o) ⊎ (other_at more k x ≡ Some o)
found-parted [] more k x o is = inr is
found-parted (p ∷ os) more k x o is = split (is_of p k x) is (found-parted os more k x o)
  where
    split : (b : Bool) → cond b (Some p) (other_at (os ++ more) k x) ≡ Some o
        → (other_at (os ++ more) k x ≡ Some o → (other_at os k x ≡ Some o) ⊎ (other_at more k x ≡ Some o))
        → (cond b (Some p) (other_at os k x) ≡ Some o) ⊎ (other_at more k x ≡ Some o)
    split true e h = inl e
    split false e h = h e

pub none-behind : (os more : List OtherLiteral) (k : ℕ) (x : ℤ) → other_at os k x ≡ None → other_at (os ++ more) k x ≡ other_at more k x
none-behind [] more k x is = refl
none-behind (p ∷ os) more k x is = split (is_of p k x) is (none-behind os more k x)
  where
    split : (b : Bool) → cond b (Some p) (other_at os k x) ≡ None → (other_at os k x ≡ None → other_at (os ++ more) k x ≡ other_at more k x)
        → cond b (Some p) (other_at (os ++ more) k x) ≡ other_at more k x
    split true e h = no-literal p (sym e)
    split false e h = h e

same-int : (x y : ℤ) → int_eq x y ≡ true → x ≡ y
same-int x y h = (Decides-int_eq x y).0 h

same-nat : (m n : ℕ) → nat_eq m n ≡ true → m ≡ n
same-nat m n h = grind (arith, nat_tests)

nat_same : (m n : ℕ) → m ≡ n → nat_eq m n ≡ true
nat_same m n h = grind (arith, nat_tests)

record IsOf (o : OtherLiteral) (k : ℕ) (x : ℤ) : Type 0 where
  watch : o.watch ≡ k
  value : o.value ≡ x

of-so : (o : OtherLiteral) (k : ℕ) (x : ℤ) → is_of o k x ≡ true → IsOf o k x
of-so o k x h =
    let p = and_parts (nat_eq o.watch k) (int_eq o.value x) h in
    record { watch = same-nat o.watch k p.0; value = same-int o.value x p.1 }

of-itself : (o : OtherLiteral) (k : ℕ) (x : ℤ) → o.watch ≡ k → o.value ≡ x → is_of o k x ≡ true
of-itself o k x h e = and_from (nat_eq o.watch k) (int_eq o.value x) (nat_same o.watch k h) ((Decides-int_eq o.value x).1 e)

alone-is : (p o : OtherLiteral) (k : ℕ) (x : ℤ) → other_at (p ∷ []) k x ≡ Some o → IsOf p k x × (p ≡ o)
alone-is p o k x is = split (is_of p k x) refl is
  where
    split : (b : Bool) → is_of p k x ≡ b → cond b (Some p) None ≡ Some o → IsOf p k x × (p ≡ o)
    split true e h = (of-so p k x e, one h)
    split false e h = no-literal o h

pub found-at : (os : List OtherLiteral) (k : ℕ) (x : ℤ) (i : ℕ) (o : OtherLiteral) → i < length os → o ≡ get_or os i o
    → other_at (take i os) k x ≡ None → is_of o k x ≡ true → IsFoundAt os k x i
found-at [] k x i o less at none is = absurd (omega (arith, less))
found-at (p ∷ os) k x zero o less at none is = record {
  other = p;
  at = refl;
  is = ap (λ b. cond b (Some p) (other_at os k x)) (subst (λ y. is_of y k x ≡ true) at is);
}
found-at (p ∷ os) k x (suc i) o less at none is = split (is_of p k x) refl none (λ h. found-at os k x i o (omega (arith, less)) at h is)
  where
    split : (b : Bool) → is_of p k x ≡ b → cond b (Some p) (other_at (take i os) k x) ≡ None
        → (other_at (take i os) k x ≡ None → IsFoundAt os k x i) → IsFoundAt (p ∷ os) k x (suc i)
    split true e h g = no-literal p (sym h)
    split false e h g =
        let found = g h in
        record { other = found.other; at = found.at; is = ap (λ b. cond b (Some p) (other_at os k x)) e ∙ found.is }

pub none-more : (os : List OtherLiteral) (k : ℕ) (x : ℤ) (o : OtherLiteral) → other_at os k x ≡ None → is_of o k x ≡ false
    → other_at (os ++ o ∷ []) k x ≡ None
none-more os k x o none other = none-behind os (o ∷ []) k x none ∙ ap (λ b. cond b (Some o) None) other

-- the one that was put behind is found there
pub found-last : (os : List OtherLiteral) (k : ℕ) (x : ℤ) (o : OtherLiteral) → other_at os k x ≡ None → o.watch ≡ k → o.value ≡ x
    → IsFoundAt (os ++ o ∷ []) k x (length os)
found-last os k x o none h e = record {
  other = o;
  at = last os;
  is = none-behind os (o ∷ []) k x none ∙ ap (λ b. cond b (Some o) None) (of-itself o k x h e);
} where
  last : (ps : List OtherLiteral) → slice_get (ps ++ o ∷ []) (length ps) ≡ Some o
  last [] = refl
  last (p ∷ ps) = last ps

-- ---- queries with another bank, and more literals

module _ (q : Query) (bank : Option (List Shape)) (others : List OtherLiteral)
    (new-bank : (h : IsWhole q) → IfSome bank (IsBankOf h.first q.blasted q.formula))
    (new-literals : (h : IsWhole q) (k : ℕ) (x : ℤ) (o : OtherLiteral) → other_at others k x ≡ Some o → IsLiteral h.first q.formula q.blasted k x o)
    (stay : (k : ℕ) (x : ℤ) (o : OtherLiteral) → other_at q.others k x ≡ Some o → other_at others k x ≡ Some o) where
  new : Query
  new = with_others q bank others

  whole : (h : IsWhole q) → IsWhole (with_others q bank others)
  whole h = record {
    words = h.words;
    bytes = h.bytes;
    clauses = h.clauses;
    number = h.number;
    first = h.first;
    blasted = h.blasted;
    bank = new-bank h;
    literals = new-literals h;
  }

  query : (t : Tour) (fs : List Fact) → IsQuery t fs q → IsQuery t fs (with_others q bank others)
  unfolding whole
  query t fs h = record {
    whole = whole h.whole;
    run = h.run;
    count = h.count;
    models = λ e honest fits. let r = h.models e honest fits in record { model = r.model; holds = r.holds; tells = r.tells };
    worlds = λ v world k decoded e of. let r = h.worlds v world k decoded e of in record { fits = r.fits; tells = r.tells };
  }

  claims : (x : Target) → IsDefined q x → IsDefined (with_others q bank others) x × (claim (with_others q bank others) x ≡ claim q x)
  claims Fits h = (tt, refl)
  claims (Having k) h = (tt, refl)
  claims (Lacking k) h = (tt, refl)
  claims (Other k x) h = (
    (h.0, stay k x h.0 h.1),
    ap (λ z. (q.solver.clauses ++ other_clauses z) ++ claimed (other_bit z)) (stay k x h.0 h.1 ∙ sym h.1),
  )

  about : (x : Target) → IsAbout q x → IsAbout (with_others q bank others) x
  about Fits h = h
  about (Having k) h = h
  about (Lacking k) h = h
  about (Other k x) h = h

  pub keeps-with : Keeps q (with_others q bank others)
  keeps-with = record { solver = refl; watches = refl; about = about; whole = whole; query = query; claims = claims }

pub keeps-same : (q : Query) → Keeps q q
keeps-same q = record {
  solver = refl;
  watches = refl;
  about = λ x h. h;
  whole = λ h. h;
  query = λ t fs h. h;
  claims = λ x h. (h, refl);
}

-- ---- queries whose solver keeps other steps

whole-kept : (q : Query) (steps : List Step) → IsWhole q → IsWhole (with_kept q steps)
whole-kept q steps h = record {
  words = h.words;
  bytes = h.bytes;
  clauses = h.clauses;
  number = h.number;
  first = h.first;
  blasted = h.blasted;
  bank = h.bank;
  literals = h.literals;
}

query-kept : (q : Query) (steps : List Step) (t : Tour) (fs : List Fact) → IsQuery t fs q → IsQuery t fs (with_kept q steps)
unfolding whole-kept
query-kept q steps t fs h = record {
  whole = whole-kept q steps h.whole;
  run = h.run;
  count = h.count;
  models = λ e honest fits. let r = h.models e honest fits in record { model = r.model; holds = r.holds; tells = r.tells };
  worlds = λ v world k decoded e of. let r = h.worlds v world k decoded e of in record { fits = r.fits; tells = r.tells };
}

pub goes-on : (old new : Query) → new ≡ with_kept old new.solver.kept → GoesOn old new
goes-on old new is = record {
  same = is;
  whole = λ h. subst IsWhole (sym is) (whole-kept old new.solver.kept h);
  query = λ t fs h. subst (IsQuery t fs) (sym is) (query-kept old new.solver.kept t fs h);
}

-- the bank was lost
pub keeps-lost : (q : Query) → Keeps q (with_others q None q.others)
keeps-lost q = keeps-with q None q.others (λ h. tt) (λ h. h.literals) (λ k x o is. is)

bank-grown : (first b c : List Shape) (x : Blasted) (r : RunFormula) → Grows b c → IsBank c → IsBankOf first x r b → IsBankOf first x r c
bank-grown first b c x r g bank h = record {
  stands = bank;
  grows = grows_on h.grows g;
  ready = ready-grown b c x g h.ready;
  ends = states_grown g r.states h.ends;
}

-- the bank of the query before
of-bank : (q : Query) (b : List Shape) → q.bank ≡ Some b → (h : IsWhole q) → IsBankOf h.first q.blasted q.formula b
of-bank q b is h = subst (λ o. IfSome o (IsBankOf h.first q.blasted q.formula)) is h.bank

-- the bank has grown, and nothing was made
pub keeps-none : (q : Query) (b c : List Shape) → q.bank ≡ Some b → Grows b c → IsBank c → Keeps q (with_others q (Some c) q.others)
keeps-none q b c is g bank =
    keeps-with q (Some c) q.others (λ h. bank-grown h.first b c q.blasted q.formula g bank (of-bank q b is h)) (λ h. h.literals) (λ k x o e. e)

-- a literal was made
pub keeps-more : (q : Query) (b c : List Shape) (k : ℕ) (x : ℤ) (o : OtherLiteral) → q.bank ≡ Some b → Grows b c → IsBank c
    → IsMadeOf b c q.formula q.blasted k x o → Keeps q (with_others q (Some c) (q.others ++ o ∷ []))
keeps-more q b c k x o is g bank made =
    keeps-with q (Some c) (q.others ++ o ∷ []) (λ h. bank-grown h.first b c q.blasted q.formula g bank (of-bank q b is h)) literals
    (λ j y p e. stays-found q.others (o ∷ []) j y p e)
  where
    literals : (h : IsWhole q) (j : ℕ) (y : ℤ) (p : OtherLiteral) → other_at (q.others ++ o ∷ []) j y ≡ Some p
        → IsLiteral h.first q.formula q.blasted j y p
    literals h j y p e = elim (found-parted q.others (o ∷ []) j y p e) [
      | inl i ↦ h.literals j y p i
      | inr i ↦
          let a = alone-is o p j y i in
          let here : IsLiteral h.first q.formula q.blasted k x o =
          record { old = b; bank = c; since = (of-bank q b is h).grows; made = made } in
          subst (λ z. IsLiteral h.first q.formula q.blasted j y z) a.1
          (subst (λ z. IsLiteral h.first q.formula q.blasted j z o) (sym made.value ∙ a.0.value)
          (subst (λ z. IsLiteral h.first q.formula q.blasted z x o) (sym made.watch ∙ a.0.watch) here))
    ]

-- ---- literals that are made

watch-numbered : (ws : List Watch) (k : ℕ) (w : Watch) → 1 ≤ k → ((m : ℕ) → k ≡ suc m → slice_get ws m ≡ Some w) → watch_at ws k ≡ Some w
watch-numbered ws zero w h at = absurd (omega (arith, h))
watch-numbered ws (suc m) w h at = at m refl

pub made-none : (b t c : List Shape) (r : RunFormula) (x : Blasted) (k : ℕ) (v : ℤ) → Grows b t → Grows t c → IsBank c
    → HasMade b r x k v (record { other = None; bank = c })
made-none b t c r x k v g h bank = record { grows = grows_on g h; stands = bank; is = tt }

pub made-some : (b t c : List Shape) (r : RunFormula) (x : Blasted) (k : ℕ) (v : ℤ) (w : Watch) (n : Node) (m : More) → 1 ≤ k
    → ((i : ℕ) → k ≡ suc i → slice_get r.watches i ≡ Some w) → AnswersOther b t r w v n → Grows t c → IsBank c → IsMore c (n ∷ []) x m
    → HasMade b r x k v (record { other = Some (record { watch = k; value = v; more = m }); bank = c })
made-some b t c r x k v w n m one at answers g bank more = record {
  grows = grows_on answers.grows g;
  stands = bank;
  is = record {
    watch = refl;
    value = refl;
    seen = w;
    numbered = watch-numbered r.watches k w one at;
    node = n;
    told = t;
    answers = answers;
    grows = g;
    stands = bank;
    more = more;
  };
}

-- a literal was put behind the others
pub keeps-put : (q : Query) (b : List Shape) (k : ℕ) (x : ℤ) (m : Made) (index : ℕ) (new : Query) → q.bank ≡ Some b
    → other_at q.others k x ≡ None → HasMade b q.formula q.blasted k x m
    → OfSome m.other (λ o. (index ≡ length q.others) × (new ≡ with_others q (Some m.bank) (q.others ++ o ∷ [])))
    → Keeps q new × IsFoundAt new.others k x index
keeps-put q b k x m index new is none has put = go m.other has.is put
  where
    go : (other : Option OtherLiteral) → IfSome other (IsMadeOf b m.bank q.formula q.blasted k x)
        → OfSome other (λ o. (index ≡ length q.others) × (new ≡ with_others q (Some m.bank) (q.others ++ o ∷ [])))
        → Keeps q new × IsFoundAt new.others k x index
    go None h p = absurd p
    go (Some o) h p = (
      subst (Keeps q) (sym p.1) (keeps-more q b m.bank k x o is has.grows has.stands h),
      subst (λ n. IsFoundAt n.others k x index) (sym p.1)
          (subst (IsFoundAt (q.others ++ o ∷ []) k x) (sym p.0) (found-last q.others k x o none h.watch h.value)),
    )
