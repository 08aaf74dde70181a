-- Questions on values.
use Rattle.std.proofs.Common.{◌≡◌, ◌↔◌, ◌<◌, ◌+◌, ◌++◌, ◌∷◌, [], ℕ, zero, suc, ℤ, ◌&&◌, List, Option, Some, None, Bool, true, length, refl, sym, ap, ◌∙◌, subst, append_assoc, arith}
use Rattle.std.specs.List.{slice_get}
use Rattle.std.proofs.lemmas.Bool.{and_parts, and_from}
use Rattle.std.proofs.lemmas.Option.{slice_get_within}
use Rattle.std.proofs.lemmas.List.Folds.{list_all-append}
use Rattle.plain_data.specs.declared.fact.Fact.{Fact}
use Rattle.plain_data.specs.Worlds.{WorldTables}
use Rattle.cnf_core.specs.Literal.{Literal}
use Rattle.cnf_core.specs.Truth.{Valuation, clause_holds, formula_holds}
use Rattle.proof_check.specs.Steps.{Step}
use Rattle.proof_check.specs.Refutations.{IsRefutation}
use Rattle.proof_check.proofs.Soundness.{refutation-sound}
use Rattle.gates.specs.declared.bit.Bit.{Bit}
use Rattle.gates.specs.Nets.{bit_holds}
use Rattle.term_bank.specs.declared.sort.Node.{Node}
use Rattle.term_bank.specs.declared.shape.Shape.{Shape}
use Rattle.term_bank.specs.Terms.{IsTerm}
use Rattle.term_bank.specs.declared.sort.Sort.TheVariants.{Truth}
use Rattle.term_bank.specs.Values.{Environment, Values, Models, Grows}
use Rattle.term_bank.proofs.BankLemmas.{weaken, grows_on}
use Rattle.term_bank.proofs.TermLemmas.{term_grown}
use Rattle.flat_reads.specs.Flats.{IsHonest}
use Rattle.bitvectors.specs.declared.blasting.Blasted.{Blasted}
use Rattle.bitvectors.specs.Blasts.{HasWidth, HaveValues, IsBlasted, IsOfWorld, joined}
use Rattle.log_expr.specs.Tours.{Tour}
use Rattle.run_formula.specs.declared.watches.Watch.{Watch}
use Rattle.run_formula.specs.Formula.{FitsIn, SawOtherIn, SayFacts, SaysOther}
use Rattle.query_core.specs.declared.query.Query.{Query}
use Rattle.query_core.specs.declared.others.Other.{Other as OtherLiteral}
use Rattle.query_core.specs.declared.reply.Reply.{Reply}
use Rattle.query_core.specs.declared.reply.Reply.TheVariants.{World, Refuted, Spent}
use Rattle.query_core.specs.declared.target.Target.TheVariants.{Other}
use Rattle.query_core.specs.Claims.{asked_nodes, claim, claimed, first_bit, other_at, other_bit, other_claim, other_clauses, root_bit, run_clauses, watch_at, IsDecoded, IsFoundAt, IsLiteral, IsMet, IsQuery, IsWhole, OfWatch}
use Rattle.cdcl.specs.Stores.{Store}
use Rattle.query_core.specs.Replies.{IsReply, Seeks, SpendsBehind}
use Rattle.query_core.proofs.BitLemmas.{holds-both, holds-parts}
use Rattle.query_core.proofs.QueryLemmas.{fits-bit, truth-bit}

-- ---- lists

appended-holds : (v : Valuation) (xs ys : List (List Literal)) → formula_holds v (xs ++ ys) ≡ (formula_holds v xs && formula_holds v ys)
appended-holds v xs ys = list_all-append (clause_holds v) xs ys

both-hold : (v : Valuation) (xs ys : List (List Literal)) → formula_holds v xs ≡ true → formula_holds v ys ≡ true → formula_holds v (xs ++ ys) ≡ true
both-hold v xs ys h k = appended-holds v xs ys ∙ and_from (formula_holds v xs) (formula_holds v ys) h k

parts-hold : (v : Valuation) (xs ys : List (List Literal)) → formula_holds v (xs ++ ys) ≡ true → (formula_holds v xs ≡ true) × (formula_holds v ys ≡ true)
parts-hold v xs ys h = and_parts (formula_holds v xs) (formula_holds v ys) (sym (appended-holds v xs ys) ∙ h)

values-parted : (v : Valuation) (values : Values) (rs ns : List Node) (ws xs : List (List Bit)) → length ws ≡ length rs
    → HaveValues v values (rs ++ ns) (ws ++ xs) → HaveValues v values rs ws × HaveValues v values ns xs
values-parted v values [] ns [] xs e h = (tt, h)
values-parted v values [] ns (w ∷ ws) xs e h = absurd (omega (arith, e))
values-parted v values (r ∷ rs) ns [] xs e h = absurd (omega (arith, e))
values-parted v values (r ∷ rs) ns (w ∷ ws) xs e h =
    let more = values-parted v values rs ns ws xs (omega (arith, e)) h.1 in ((h.0, more.0), more.1)

facts-many : (t : Tour) (b : List Shape) (fs : List Fact) (ns : List Node) → SayFacts t b fs ns → length ns ≡ length fs
facts-many t b [] [] say = refl
facts-many t b [] (n ∷ ns) say = absurd say
facts-many t b (f ∷ fs) [] say = absurd say
facts-many t b (f ∷ fs) (n ∷ ns) say = let h : length ns ≡ length fs = facts-many t b fs ns say.1 in omega (arith, h)

last-bit : (b : List Shape) (n : Node) (v : Valuation) (values : Values) (ws : List (List Bit)) → IsTerm b Truth n
    → HaveValues v values (n ∷ []) ws → bit_holds v (root_bit ws 0) ≡ (values n.index).truth
last-bit b n v values [] h have = absurd have
last-bit b n v values (w ∷ ws) h have = truth-bit b n v values w h have.0

-- ---- one literal

module _ (t : Tour) (fs : List Fact) (q : Query) (h : IsQuery t fs q) (k : ℕ) (x : ℤ) (o : OtherLiteral)
    (found : other_at q.others k x ≡ Some o) where
  abbrev lit : IsLiteral h.whole.first q.formula q.blasted k x o
  lit = h.whole.literals k x o found

  grown : Grows h.whole.first lit.bank
  grown = grows_on lit.since (grows_on lit.made.answers.grows lit.made.grows)

  says : SaysOther t lit.bank lit.made.seen x lit.made.node
  says =
      let s = lit.made.answers.says t h.run.begun h.run.given fs h.run.is (grows_on h.run.grows lit.since) in
      record {
        term = term_grown _ _ _ lit.made.node lit.made.grows s.term;
        is = λ e v m fits. s.is e v (weaken lit.made.grows m) fits;
      }

  blasted : IsBlasted lit.bank (asked_nodes q.formula ++ lit.made.node ∷ []) (joined q.blasted o.more)
  blasted = lit.made.more.is h.whole.first (asked_nodes q.formula) grown h.whole.blasted

  many : length q.blasted.roots ≡ length (asked_nodes q.formula)
  many = let n : length q.formula.facts ≡ length fs = facts-many t h.run.given fs q.formula.facts h.run.is.facts in omega (arith, n, h.count)

  parted : (v : Valuation) (values : Values)
      → HaveValues v values (asked_nodes q.formula ++ lit.made.node ∷ []) (q.blasted.roots ++ o.more.roots)
      → HaveValues v values (asked_nodes q.formula) q.blasted.roots × HaveValues v values (lit.made.node ∷ []) o.more.roots
  parted v values have = values-parted v values (asked_nodes q.formula) (lit.made.node ∷ []) q.blasted.roots o.more.roots many have

  fits-truth : (v : Valuation) (e : Environment) (values : Values) → Models lit.bank e values → HaveValues v values (asked_nodes q.formula) q.blasted.roots
      → (bit_holds v (root_bit q.blasted.roots 0) ≡ true) ↔ FitsIn t e
  fits-truth v e values m have =
      let old = weaken (grows_on h.run.grows grown) m in
      let bit = fits-bit t h.run.given v values e old q.formula.fits q.formula.facts q.blasted.roots h.run.is.fits.term have in
      let is = h.run.is.fits.is e values old in
      (λ y. is.0 (sym bit ∙ y), λ fits. bit ∙ is.1 fits)

  other-truth : (v : Valuation) (e : Environment) (values : Values) → Models lit.bank e values → HaveValues v values (lit.made.node ∷ []) o.more.roots
      → FitsIn t e → (bit_holds v (root_bit o.more.roots 0) ≡ true) ↔ SawOtherIn t e lit.made.seen x
  other-truth v e values m have fits =
      let bit = last-bit lit.bank lit.made.node v values o.more.roots says.term have in
      let is = says.is e values m fits in
      (λ y. is.0 (sym bit ∙ y), λ saw. bit ∙ is.1 saw)

  -- the claim's clauses, by its parts
  claim-from : (v : Valuation) → formula_holds v (q.blasted.formula ++ o.more.formula) ≡ true → bit_holds v (root_bit q.blasted.roots 0) ≡ true
      → bit_holds v (root_bit o.more.roots 0) ≡ true → formula_holds v (other_claim q o) ≡ true
  claim-from v y fits other =
      let p = parts-hold v q.blasted.formula o.more.formula y in
      let run = subst (λ s. formula_holds v s ≡ true) (sym h.whole.clauses) (holds-both v q.blasted.formula (root_bit q.blasted.roots 0) p.0 fits) in
      holds-both v (q.solver.clauses ++ o.more.formula) (root_bit o.more.roots 0) (both-hold v q.solver.clauses o.more.formula run p.1) other

  record Parts (v : Valuation) : Type 0 where
    whole : formula_holds v (q.blasted.formula ++ o.more.formula) ≡ true
    fits : bit_holds v (root_bit q.blasted.roots 0) ≡ true
    other : bit_holds v (root_bit o.more.roots 0) ≡ true

  claim-parts : (v : Valuation) → formula_holds v (other_claim q o) ≡ true → Parts v
  claim-parts v y =
      let p = holds-parts v (q.solver.clauses ++ o.more.formula) (root_bit o.more.roots 0) y in
      let r = parts-hold v q.solver.clauses o.more.formula p.0 in
      let s = holds-parts v q.blasted.formula (root_bit q.blasted.roots 0) (subst (λ s. formula_holds v s ≡ true) h.whole.clauses r.0) in
      record { whole = both-hold v q.blasted.formula o.more.formula s.0 r.1; fits = s.1; other = p.1 }

  seen-there : (P : Watch → Type 0) → P lit.made.seen → OfWatch P (watch_at q.formula.watches k)
  seen-there P p = subst (OfWatch P) (sym lit.made.numbered) p

  seen-back : (P : Watch → Type 0) → OfWatch P (watch_at q.formula.watches k) → P lit.made.seen
  seen-back P p = subst (OfWatch P) lit.made.numbered p

  -- where the claim's clauses are refuted, the target is met in no honest environment
  pub never-other : (steps : List Step) → IsRefutation (other_claim q o) steps → (e : Environment) → IsHonest e
      → IsMet t fs q.formula.watches e (Other k x) → ⊥
  never-other steps refutes e honest is =
      let valued = lit.made.stands.valued e in
      let m = blasted.models e valued.0 honest valued.1 in
      let have = parted m.model valued.0 m.are in
      let saw = seen-back (λ w. SawOtherIn t e w x) is.1 in
      refutation-sound (other_claim q o) steps refutes m.model
      (claim-from m.model m.holds ((fits-truth m.model e valued.0 valued.1 have.0).1 is.0)
      ((other-truth m.model e valued.0 valued.1 have.1 is.0).1 saw))

  -- on the world that is decoded from a model of the claim's clauses, the target is met
  pub other-met : (v : Valuation) (world : WorldTables) → formula_holds v (other_claim q o) ≡ true
      → IsDecoded (joined q.blasted o.more) v world → (e : Environment) → IsOfWorld world e → IsMet t fs q.formula.watches e (Other k x)
  other-met v world y decoded e of =
      let valued = lit.made.stands.valued e in
      let p = claim-parts v y in
      let shown = decoded.shows lit.bank (asked_nodes q.formula ++ lit.made.node ∷ []) blasted p.whole in
      let have = parted v valued.0 (shown.are e valued.0 of valued.1) in
      let fits = (fits-truth v e valued.0 valued.1 have.0).0 p.fits in
      (fits, seen-there (λ w. SawOtherIn t e w x) ((other-truth v e valued.0 valued.1 have.1 fits).0 p.other))

-- the claim of a literal that was made
pub claim-made : (q : Query) (k : ℕ) (x : ℤ) (o : OtherLiteral) → other_at q.others k x ≡ Some o → claim q (Other k x) ≡ other_claim q o
claim-made q k x o is = ap (λ z. (q.solver.clauses ++ other_clauses z) ++ claimed (other_bit z)) is

-- the widths of a literal's inputs
other-blasted : (q : Query) (h : IsWhole q) (k : ℕ) (x : ℤ) (o : OtherLiteral) → other_at q.others k x ≡ Some o
    → (b : List Shape) × ((ns : List Node) × IsBlasted b ns (joined q.blasted o.more))
other-blasted q h k x o found =
    let lit = h.literals k x o found in
    let grown = grows_on lit.since (grows_on lit.made.answers.grows lit.made.grows) in
    (lit.bank, (asked_nodes q.formula ++ lit.made.node ∷ [], lit.made.more.is h.first (asked_nodes q.formula) grown h.blasted))

pub other-words : (q : Query) (h : IsWhole q) (k : ℕ) (x : ℤ) (o : OtherLiteral) → other_at q.others k x ≡ Some o → HasWidth 64 o.more.inputs.words
other-words q h k x o found = (other-blasted q h k x o found).1.1.words

pub other-bytes : (q : Query) (h : IsWhole q) (k : ℕ) (x : ℤ) (o : OtherLiteral) → other_at q.others k x ≡ Some o → HasWidth 8 o.more.inputs.bytes
other-bytes q h k x o found = (other-blasted q h k x o found).1.1.bytes

-- the literal that was read at an index
pub same-found : (q : Query) (k : ℕ) (x : ℤ) (i : ℕ) (o : OtherLiteral) → IsFoundAt q.others k x i → slice_get q.others i ≡ Some o
    → other_at q.others k x ≡ Some o
same-found q k x i o at is = at.is ∙ sym at.at ∙ is

pub found-within : (os : List OtherLiteral) (k : ℕ) (x : ℤ) (i : ℕ) → IsFoundAt os k x i → i < length os
found-within os k x i at = slice_get_within os i at.other at.at

-- what a solver over the query's clauses and those of a literal answers where the literal is to be true
pub other-replies : (q : Query) (k : ℕ) (x : ℤ) (n : ℕ) (reply : Reply) (o : OtherLiteral) (s : Store) (bit : Bit)
    → other_at q.others k x ≡ Some o → s.clauses ≡ q.solver.clauses ++ o.more.formula → s.kept ≡ [] → bit ≡ root_bit o.more.roots 0
    → Seeks s (joined q.blasted o.more) bit n reply → IsReply q (Other k x) n reply
other-replies q k x n (World world) o s bit found is_clauses none is_bit h = record {
  met = λ t fs isq e of.
      other-met t fs q isq k x o found h.model world
      (subst (λ c. formula_holds h.model c ≡ true) (λ i. is_clauses i ++ claimed (is_bit i)) h.holds) h.decoded e of;
}
other-replies q k x n (Refuted steps) o s bit found is_clauses none is_bit h =
    let refuted : IsRefutation (other_claim q o) steps = subst (λ c. IsRefutation c steps) (λ i. is_clauses i ++ claimed (is_bit i)) h in
    record {
      refutes = subst (λ cs. IsRefutation cs steps) (sym (claim-made q k x o found)) refuted;
      never = λ t fs isq e honest is_met. never-other t fs q isq k x o found steps refuted e honest is_met;
    }
other-replies q k x n (Spent trail) o s bit found is_clauses none is_bit h =
    subst (λ z. SpendsBehind [] (q.solver.clauses ++ other_clauses z) n trail) (sym found)
    (subst (λ cs. SpendsBehind [] cs n trail) is_clauses (subst (λ ss. SpendsBehind ss s.clauses n trail) none h))
