-- The query of a run formula.
use Rattle.std.proofs.Common.{◌≡◌, ◌↔◌, ◌≤◌, ◌+◌, ◌∷◌, [], ℕ, zero, suc, List, Option, Some, None, Bool, true, length, refl, sym, ap, ◌∙◌, subst, arith}
use Rattle.std.specs.List.{slice_get}
use Rattle.plain_data.specs.declared.fact.Fact.{Fact}
use Rattle.plain_data.specs.Worlds.{WorldTables}
use Rattle.cnf_core.specs.Truth.{Valuation, formula_holds}
use Rattle.c_store.specs.Store.{initial}
use Rattle.proof_check.specs.Steps.{Step}
use Rattle.gates.specs.declared.bit.Bit.{Bit}
use Rattle.gates.specs.Nets.{bit_holds}
use Rattle.word_gates.specs.Spelling.{spelled}
use Rattle.term_bank.specs.declared.sort.Sort.TheVariants.{Truth}
use Rattle.term_bank.specs.declared.sort.Node.{Node}
use Rattle.term_bank.specs.declared.shape.Shape.{Shape}
use Rattle.term_bank.specs.Shapes.{Each, IsNode}
use Rattle.term_bank.specs.Terms.{IsTerm}
use Rattle.term_bank.specs.Values.{Environment, Values, Models, Grows}
use Rattle.term_bank.specs.Banks.{IsBank}
use Rattle.term_bank.proofs.BankLemmas.{weaken, stays}
use Rattle.path_states.specs.States.{AreStates}
use Rattle.flat_reads.specs.Flats.{IsHonest}
use Rattle.bitvectors.specs.declared.blasting.Blasted.{Blasted}
use Rattle.bitvectors.specs.Amounts.{amount}
use Rattle.bitvectors.specs.Blasts.{HaveValues, IsBlasted, IsOfWorld, IsReady}
use Rattle.log_expr.specs.Tours.{Tour}
use Rattle.run_formula.specs.declared.formula.RunFormula.{RunFormula}
use Rattle.run_formula.specs.Formula.{FitsIn, HoldsIn, SaysFact, SayFacts, IsFormula}
use Rattle.query_core.specs.declared.query.Query.{Query}
use Rattle.query_core.specs.declared.target.Target.TheVariants.{Having, Lacking}
use Rattle.query_core.specs.declared.others.Other.{Other as OtherLiteral}
use Rattle.query_core.specs.Claims.{fact_at, asked_nodes, first_bit, root_bit, run_clauses, IsMade, IsWhole, IsAbout, IsDecoded, TellsFacts, HasRun, FitsAs, IsQuery}
use Rattle.query_core.proofs.BitLemmas.{first-holds, holds-both, holds-parts}

-- ---- the nodes that are asked

term-node : (b : List Shape) (n : Node) → IsTerm b Truth n → IsNode b n
term-node b n h = record { sorted = h.stands ∙ ap (λ s. Some s) (sym h.same) }

facts-nodes : (t : Tour) (b : List Shape) (fs : List Fact) (ns : List Node) → SayFacts t b fs ns → Each (IsNode b) ns
facts-nodes t b [] [] h = tt
facts-nodes t b [] (n ∷ ns) h = absurd h
facts-nodes t b (f ∷ fs) [] h = absurd h
facts-nodes t b (f ∷ fs) (n ∷ ns) h = (term-node b n h.0.term, facts-nodes t b fs ns h.1)

-- the truths of a run formula are nodes of its bank
pub asked-stand : (t : Tour) (a b : List Shape) (fs : List Fact) (r : RunFormula) → IsFormula t a b fs r
    → Each (IsNode b) (asked_nodes r)
asked-stand t a b fs r h = (term-node b r.fits h.fits.term, facts-nodes t b fs r.facts h.facts)

-- ---- bits of truths

pub truth-bit : (b : List Shape) (n : Node) (v : Valuation) (values : Values) (w : List Bit) → IsTerm b Truth n
    → spelled v w ≡ amount n.sort (values n.index) → bit_holds v (first_bit w) ≡ (values n.index).truth
truth-bit b n v values w h e = first-holds v w (values n.index).truth (e ∙ ap (λ s. amount s (values n.index)) h.same)

told-by : {A : Type 0} (x y : Bool) → x ≡ y → (y ≡ true) ↔ A → (x ≡ true) ↔ A
told-by x y e h = (λ k. h.0 (sym e ∙ k), λ a. e ∙ h.1 a)

module _ (t : Tour) (b : List Shape) (v : Valuation) (values : Values) (e : Environment) (m : Models b e values) where
  fact-told : (f : Fact) (n : Node) (w : List Bit) → FitsIn t e → SaysFact t b f n
      → spelled v w ≡ amount n.sort (values n.index) → (bit_holds v (first_bit w) ≡ true) ↔ HoldsIn t e f
  fact-told f n w fits says spells =
      told-by (bit_holds v (first_bit w)) (values n.index).truth (truth-bit b n v values w says.term spells)
      (says.is e values m fits)

  facts-told : (fs : List Fact) (ns : List Node) (ws : List (List Bit)) → FitsIn t e → SayFacts t b fs ns
      → HaveValues v values ns ws → (k : ℕ) (f : Fact) → slice_get fs k ≡ Some f
      → (bit_holds v (root_bit ws k) ≡ true) ↔ HoldsIn t e f
  facts-told [] ns ws fits say have k f is = absurd (cc)
  facts-told (g ∷ fs) [] ws fits say have k f is = absurd say
  facts-told (g ∷ fs) (n ∷ ns) [] fits say have k f is = absurd have
  facts-told (g ∷ fs) (n ∷ ns) (w ∷ ws) fits say have zero f is =
      let same : g ≡ f = cc in
      subst (λ x. (bit_holds v (first_bit w) ≡ true) ↔ HoldsIn t e x) same (fact-told g n w fits say.0 have.0)
  facts-told (g ∷ fs) (n ∷ ns) (w ∷ ws) fits say have (suc k) f is = facts-told fs ns ws fits say.1 have.1 k f is

  numbered : (fs : List Fact) (ns : List Node) (w : List Bit) (ws : List (List Bit)) → FitsIn t e
      → SayFacts t b fs ns → HaveValues v values ns ws → (k : ℕ) (f : Fact) → fact_at fs k ≡ Some f
      → (bit_holds v (root_bit (w ∷ ws) k) ≡ true) ↔ HoldsIn t e f
  numbered fs ns w ws fits say have zero f is = absurd (cc)
  numbered fs ns w ws fits say have (suc k) f is = facts-told fs ns ws fits say have k f is

  all-told : (fs : List Fact) (n : Node) (ns : List Node) (roots : List (List Bit)) → FitsIn t e
      → SayFacts t b fs ns → HaveValues v values (n ∷ ns) roots → TellsFacts t fs roots v e
  all-told fs n ns [] fits say have = absurd have
  all-told fs n ns (w ∷ ws) fits say have = record { is = numbered fs ns w ws fits say have.1 }

  pub fits-bit : (n : Node) (ns : List Node) (roots : List (List Bit)) → IsTerm b Truth n
      → HaveValues v values (n ∷ ns) roots → bit_holds v (root_bit roots 0) ≡ (values n.index).truth
  fits-bit n ns [] h have = absurd have
  fits-bit n ns (w ∷ ws) h have = truth-bit b n v values w h have.0

-- ---- how many

many-facts : (t : Tour) (b : List Shape) (v : Valuation) (values : Values) (fs : List Fact) (ns : List Node)
    (ws : List (List Bit))
    → SayFacts t b fs ns → HaveValues v values ns ws → length ws ≡ length fs
many-facts t b v values [] [] [] say have = refl
many-facts t b v values [] [] (w ∷ ws) say have = absurd have
many-facts t b v values [] (n ∷ ns) ws say have = absurd say
many-facts t b v values (f ∷ fs) [] ws say have = absurd say
many-facts t b v values (f ∷ fs) (n ∷ ns) [] say have = absurd have
many-facts t b v values (f ∷ fs) (n ∷ ns) (w ∷ ws) say have =
    let h : length ws ≡ length fs = many-facts t b v values fs ns ws say.1 have.1 in omega (arith, h)

many-roots : (t : Tour) (b : List Shape) (v : Valuation) (values : Values) (fs : List Fact) (n : Node) (ns : List Node)
    (roots : List (List Bit))
    → SayFacts t b fs ns → HaveValues v values (n ∷ ns) roots → length roots ≡ suc (length fs)
many-roots t b v values fs n ns [] say have = absurd have
many-roots t b v values fs n ns (w ∷ ws) say have =
    let h : length ws ≡ length fs = many-facts t b v values fs ns ws say have.1 in omega (arith, h)

-- an environment in which everything is 0
empty_environment : Environment
empty_environment = record {
  entry = initial (λ _. 0);
  parameters = [];
  base = 0;
  words = λ _. 0;
  bytes = λ _. 0;
  rows = λ _ _. 0;
}

-- ---- the query

-- a query over clauses
abbrev made-query : Blasted → RunFormula → List Shape → List Step → Query
made-query b r bank kept = record {
  blasted = b;
  solver = record { clauses = run_clauses b; kept = kept };
  last = length (run_clauses b) + 1;
  formula = r;
  bank = Some bank;
  others = [];
}

made-so : (b : Blasted) (r : RunFormula) (bank : List Shape) (q : Query) → IsMade b r bank q → made-query b r bank q.solver.kept ≡ q
made-so b r bank q m = λ i. record {
  blasted = sym m.same i;
  solver = record { clauses = sym m.clauses i; kept = q.solver.kept };
  last = sym m.number i;
  formula = sym m.formula i;
  bank = sym m.bank i;
  others = sym m.others i;
}

no-literal : {A : Type 0} (o : OtherLiteral) → ◌≡◌ {A = Option OtherLiteral} None (Some o) → A
no-literal o e = absurd (cc)

whole-made : (c : List Shape) (b : Blasted) (r : RunFormula) (kept : List Step) → IsBlasted c (asked_nodes r) b → IsReady c b → IsBank c
    → AreStates c r.states → IsWhole (made-query b r c kept)
whole-made c b r kept h ready bank ends = record {
  words = h.words;
  bytes = h.bytes;
  clauses = refl;
  number = refl;
  first = c;
  blasted = h;
  bank = record { stands = bank; grows = stays; ready = ready; ends = ends };
  literals = λ k x o is. no-literal o is;
}

pub whole-is : (c : List Shape) (b : Blasted) (r : RunFormula) (q : Query) → IsBlasted c (asked_nodes r) b → IsReady c b → IsBank c
    → AreStates c r.states → IsMade b r c q → IsWhole q
whole-is c b r q h ready bank ends m = subst IsWhole (made-so b r c q m) (whole-made c b r q.solver.kept h ready bank ends)

module _ (t : Tour) (a b c : List Shape) (fs : List Fact) (r : RunFormula) (x : Blasted)
    (kept : List Step) (h : IsFormula t a b fs r) (g : Grows b c) (bank : IsBank c)
    (blasted : IsBlasted c (asked_nodes r) x) (ready : IsReady c x) (ends : AreStates c r.states) where
  abbrev q : Query
  q = made-query x r c kept

  clauses-hold : (v : Valuation) → formula_holds v x.formula ≡ true
      → bit_holds v (root_bit x.roots 0) ≡ true → formula_holds v (run_clauses x) ≡ true
  clauses-hold v k y = holds-both v x.formula (root_bit x.roots 0) k y

  clauses-parts : (v : Valuation) → formula_holds v (run_clauses x) ≡ true
      → (formula_holds v x.formula ≡ true) × (bit_holds v (root_bit x.roots 0) ≡ true)
  clauses-parts v k = holds-parts v x.formula (root_bit x.roots 0) k

  has-run : (e : Environment) → IsHonest e → FitsIn t e → (values : Values) → Models c e values → HasRun t fs q e
  has-run e honest fits values m =
      let found = blasted.models e values honest m in
      let old = weaken g m in
      let bit = fits-bit t b found.model values e old r.fits r.facts x.roots h.fits.term found.are in
      record {
        model = found.model;
        holds = clauses-hold found.model found.holds (bit ∙ (h.fits.is e values old).1 fits);
        tells = all-told t b found.model values e old fs r.fits r.facts x.roots fits h.facts found.are;
      }

  fits-as : (v : Valuation) (world : WorldTables) → formula_holds v (run_clauses x) ≡ true → IsDecoded x v world
      → (e : Environment) → IsOfWorld world e → (values : Values) → Models c e values → FitsAs t fs q v e
  fits-as v world k decoded e of values m =
      let parts = clauses-parts v k in
      let old = weaken g m in
      let have = (decoded.shows c (asked_nodes r) blasted parts.0).are e values of m in
      let bit = fits-bit t b v values e old r.fits r.facts x.roots h.fits.term have in
      let fits = (h.fits.is e values old).0 (sym bit ∙ parts.1) in
      record {
        fits = fits;
        tells = all-told t b v values e old fs r.fits r.facts x.roots fits h.facts have;
      }

  has-count : length x.roots ≡ suc (length fs)
  unfolding empty_environment
  has-count =
      let valued = bank.valued empty_environment in
      let found = blasted.models empty_environment valued.0 (record { same = λ _ _. refl }) valued.1 in
      many-roots t b found.model valued.0 fs r.fits r.facts x.roots h.facts found.are

  query-is : IsQuery t fs q
  unfolding whole-made
  query-is = record {
    whole = whole-made c x r kept blasted ready bank ends;
    run = record { begun = a; given = b; is = h; grows = g };
    count = has-count;
    models = λ e honest fits. let valued = bank.valued e in has-run e honest fits valued.0 valued.1;
    worlds = λ v world k decoded e of. let valued = bank.valued e in fits-as v world k decoded e of valued.0 valued.1;
  }

-- the query that was made of a formula's truths
pub query-made : (t : Tour) (a b c : List Shape) (fs : List Fact) (r : RunFormula) (x : Blasted) (q : Query)
    → Grows b c → IsBank c → IsBlasted c (asked_nodes r) x → IsReady c x → AreStates c r.states → IsMade x r c q
    → IsFormula t a b fs r → IsQuery t fs q
query-made t a b c fs r x q g bank blasted ready ends made h =
    subst (IsQuery t fs) (made-so x r c q made) (query-is t a b c fs r x q.solver.kept h g bank blasted ready ends)

-- a target may name the number of each fact
pub about-fact : (t : Tour) (fs : List Fact) (q : Query) (k : ℕ) → IsQuery t fs q → 1 ≤ k → k ≤ length fs
    → IsAbout q (Having k) × IsAbout q (Lacking k)
about-fact t fs q k h one within =
    ((one, omega (arith, h.count, within)), (one, omega (arith, h.count, within)))
