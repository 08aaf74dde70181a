-- What is known of verdicts while worlds are learnt.
use Rattle.std.proofs.Common.{◌≡◌, ◌≤◌, ℕ, zero, suc, List, [], ◌∷◌, ◌++◌, ◌+◌, length, Some, refl, sym, ap, ◌∙◌, subst, arith, append-nil, append_assoc}
use Rattle.std.specs.Prelude.{map, max, slice_get, take, Bool, true, false, not, ◌↔◌}
use Rattle.std.specs.List.{All}
use Rattle.std.proofs.lemmas.List.Elements.{All-append}
use mathlib.Core.Bool.{beq}
use Rattle.plain_data.specs.declared.fact.Fact.{Fact}
use Rattle.plain_data.specs.declared.run.Run.{Run}
use Rattle.plain_data.specs.Worlds.{WorldTables}
use Rattle.log_text.specs.Shown.{Holds}
use Rattle.proof_check.specs.Steps.{Step}
use Rattle.proof_check.specs.declared.steps.Trail.{Trail}
use Rattle.cdcl.specs.Stores.{KeepsMore}
use Rattle.log_expr.specs.Tours.{tour_of}
use Rattle.query_core.specs.declared.query.Query.{Query}
use Rattle.query_core.specs.Claims.{GoesOn, with_kept}
use Rattle.query_core.specs.Replies.{Spends}
use Rattle.diagnoses.specs.declared.verdict.Open.{Open}
use Rattle.diagnoses.specs.declared.verdict.Open.TheVariants as side
use Rattle.diagnoses.specs.declared.verdict.Verdict.{Verdict}
use Rattle.diagnoses.specs.declared.verdict.Verdict.TheVariants.{Must, MustNot, May, Unknown}
use Rattle.must_facts.specs.declared.known.Known.{Known}
use Rattle.must_facts.specs.Verdicts.{Matter, AreVerdicts, FailsOn, FitsOn, HoldsOn, IsMust, IsMustNot, IsUnknown, IsVerdict, LeavesOpen, OfWorld, kept_after, named_after, world_at}
use Rattle.must_facts.specs.declared.inquiry.Inquiry.{Inquiry}
use Rattle.must_facts.specs.Inquiries.{IsQueryOf, matter_of}
use Rattle.must_facts.specs.Knowing.{Answers, FindsWorld, IsKnown, Learns, Weighs, WeighsAll, kept_over}
use Rattle.must_facts.proofs.Lists.{all_at, all_of_made, all_one, at_most, get_end, length_end, longer, made_at, map_append, take_left, take_whole}

-- ---- steps are kept

pub keeps_both : (a b c : List Step) → KeepsMore a b → KeepsMore b c → KeepsMore a c
keeps_both a b c first second = record {
  more = first.more ++ second.more;
  kept = second.kept ∙ ap (λ l. l ++ second.more) first.kept ∙ append_assoc a first.more second.more;
}

-- ---- queries go on

pub goes_same : (q : Query) → GoesOn q q
goes_same q = record { same = refl; whole = λ h. h; query = λ t fs h. h }

pub goes_both : (a b c : Query) → GoesOn a b → GoesOn b c → GoesOn a c
goes_both a b c first second = record {
  same = second.same ∙ ap (λ q. with_kept q c.solver.kept) first.same;
  whole = λ h. second.whole (first.whole h);
  query = λ t fs h. second.query t fs (first.query t fs h);
}

-- the same is asked of it
pub query_goes : (x : Inquiry) (a b : Query) → GoesOn a b → IsQueryOf x a → IsQueryOf x b
query_goes x a b g h = record { ends = h.ends; is = g.query (tour_of x.program.now.core x.log.now x.bounds.now h.ends) x.facts.now h.is }

pub matter_goes : (x : Inquiry) (a b : Query) → GoesOn a b → matter_of x b ≡ matter_of x a
matter_goes x a b g = ap (matter_of x) g.same

-- ---- worlds are learnt

pub learns_none : (x : Known) → Learns x x
learns_none x = record { more = []; worlds = sym (append-nil x.worlds) }

pub learns_one : (old new : Known) (w : WorldTables) → new.worlds ≡ old.worlds ++ w ∷ [] → Learns old new
learns_one old new w e = record { more = w ∷ []; worlds = e }

pub learns_both : (a b c : Known) → Learns a b → Learns b c → Learns a c
learns_both a b c first second = record {
  more = first.more ++ second.more;
  worlds = second.worlds ∙ ap (λ l. l ++ second.more) first.worlds ∙ append_assoc a.worlds first.more second.more;
}

pub known_first : (m : Matter) (x : Known) (w : WorldTables) → x.worlds ≡ w ∷ [] → x.runs ≡ m.run w ∷ [] → FitsOn m w
    → IsKnown m x
known_first m x w e r fits = record {
  some = subst (λ l. 1 ≤ length l) (sym e) (omega arith);
  runs = r ∙ sym (ap (map m.run) e);
  fit = subst (All (λ w. FitsOn m w)) (sym e) (all_one (λ w. FitsOn m w) w fits);
}

pub known_more : (m : Matter) (old new : Known) (w : WorldTables) → IsKnown m old → new.worlds ≡ old.worlds ++ w ∷ []
    → new.runs ≡ old.runs ++ m.run w ∷ [] → FitsOn m w → IsKnown m new
known_more m old new w known e r fits = record {
  some = subst (λ l. 1 ≤ length l) (sym e) (omega (arith, known.some, longer old.worlds (w ∷ [])));
  runs = r ∙ ap (λ l. l ++ m.run w ∷ []) known.runs ∙ sym (map_append m.run old.worlds (w ∷ [])) ∙ sym (ap (map m.run) e);
  fit = subst (All (λ w. FitsOn m w)) (sym e) (All-append (λ w. FitsOn m w) old.worlds (w ∷ []) known.fit (all_one (λ w. FitsOn m w) w fits));
}

-- ---- worlds that answer

-- the world of a number is known, and P holds of it
record IsNumbered (P : WorldTables → Type 0) (ws : List WorldTables) (n : ℕ) : Type 0 where
  world : WorldTables
  at : world_at ws n ≡ Some world
  holds : P world

of_numbered : (P : WorldTables → Type 0) (ws : List WorldTables) (n : ℕ) → IsNumbered P ws n → OfWorld P (world_at ws n)
of_numbered P ws n h = subst (OfWorld P) (sym h.at) h.holds

numbered_left : (P : WorldTables → Type 0) (ws more : List WorldTables) (n : ℕ) → OfWorld P (world_at ws n)
    → OfWorld P (world_at (ws ++ more) n)
numbered_left P [] more zero h = absurd h
numbered_left P [] more (suc n) h = absurd h
numbered_left P (w ∷ ws) more zero h = absurd h
numbered_left P (w ∷ ws) more (suc zero) h = h
numbered_left P (w ∷ ws) more (suc (suc n)) h = numbered_left P ws more (suc n) h

numbered_within : (P : WorldTables → Type 0) (ws : List WorldTables) (n : ℕ) → OfWorld P (world_at ws n) → n ≤ length ws
numbered_within P [] zero h = absurd h
numbered_within P [] (suc n) h = absurd h
numbered_within P (w ∷ ws) zero h = absurd h
numbered_within P (w ∷ ws) (suc zero) h = omega arith
numbered_within P (w ∷ ws) (suc (suc n)) h = omega (arith, numbered_within P ws (suc n) h)

numbered_end : (P : WorldTables → Type 0) (ws : List WorldTables) (w : WorldTables) → P w
    → OfWorld P (world_at (ws ++ w ∷ []) (suc (length ws)))
numbered_end P ws w p = subst (OfWorld P) (sym (get_end ws w)) p

numbered_first : (P : WorldTables → Type 0) (ws : List WorldTables) → 1 ≤ length ws → All P ws → OfWorld P (world_at ws 1)
numbered_first P [] h all = absurd (omega (arith, h))
numbered_first P (w ∷ ws) h all = all 0 w (omega arith)

both : (P Q : WorldTables → Type 0) (ws : List WorldTables) → All P ws → All Q ws → All (λ w. P w × Q w) ws
both P Q ws h k n d less = (h n d less, k n d less)

-- the known worlds answer as their runs do
all_answer : (m : Matter) (x : Known) (f : Fact) (wanted : Bool) → IsKnown m x → All (Answers wanted m.log f) x.runs
    → All (λ w. Answers wanted m.log f (m.run w)) x.worlds
all_answer m x f wanted known all =
    all_of_made m.run (Answers wanted m.log f) x.worlds (subst (All (Answers wanted m.log f)) known.runs all)

-- the first of them does
first_answers : (m : Matter) (x : Known) (f : Fact) (wanted : Bool) → IsKnown m x → All (Answers wanted m.log f) x.runs
    → OfWorld (λ w. FitsOn m w × Answers wanted m.log f (m.run w)) (world_at x.worlds 1)
first_answers m x f wanted known all =
    numbered_first (λ w. FitsOn m w × Answers wanted m.log f (m.run w)) x.worlds known.some
    (both (λ w. FitsOn m w) (λ w. Answers wanted m.log f (m.run w)) x.worlds known.fit (all_answer m x f wanted known all))

found_answers : (m : Matter) (x : Known) (f : Fact) (wanted : Bool) (n : ℕ) → IsKnown m x
    → FindsWorld wanted m.log f x (Some n) → OfWorld (λ w. FitsOn m w × Answers wanted m.log f (m.run w)) (world_at x.worlds n)
found_answers m x f wanted zero known h = absurd h
found_answers m x f wanted (suc i) known h =
    let made = made_at m.run x.worlds i h.run (sym (ap (λ rs. slice_get rs i) known.runs) ∙ h.at) in
    of_numbered (λ w. FitsOn m w × Answers wanted m.log f (m.run w)) x.worlds (suc i) (record {
      world = made.from;
      at = made.at;
      holds = (all_at (λ w. FitsOn m w) x.worlds i made.from known.fit made.at, subst (Answers wanted m.log f) made.is h.answers);
    })

-- ---- verdicts by what is known

pub weighs_found : (m : Matter) (k : ℕ) (f : Fact) (x : Known) (ss : List Step) (i j : ℕ) → IsKnown m x
    → FindsWorld true m.log f x (Some i) → FindsWorld false m.log f x (Some j) → Weighs m k f x x ss ss (May i j)
weighs_found m k f x ss i j known has lacks = record {
  known = known;
  learns = learns_none x;
  is = λ named kept h among. record { has = found_answers m x f true i known has; lacks = found_answers m x f false j known lacks };
  stays = λ kept among. among;
}

module _ (m : Matter) (k : ℕ) (f : Fact) (old new : Known) (before behind : List Step) (more : KeepsMore before behind)
    (w : WorldTables) (known : IsKnown m old)
    (worlds : new.worlds ≡ old.worlds ++ w ∷ []) (runs : new.runs ≡ old.runs ++ m.run w ∷ []) (fits : FitsOn m w) where
  first_still : (wanted : Bool) → All (Answers wanted m.log f) old.runs
      → OfWorld (λ w. FitsOn m w × Answers wanted m.log f (m.run w)) (world_at new.worlds 1)
  first_still wanted all =
      let P = λ (w : WorldTables). FitsOn m w × Answers wanted m.log f (m.run w) in
      subst (λ ws. OfWorld P (world_at ws 1)) (sym worlds)
      (numbered_left P old.worlds (w ∷ []) 1 (first_answers m old f wanted known all))

  last_answers : (wanted : Bool) (n : ℕ) → n ≡ length new.worlds → Answers wanted m.log f (m.run w)
      → OfWorld (λ w. FitsOn m w × Answers wanted m.log f (m.run w)) (world_at new.worlds n)
  last_answers wanted n count answers =
      let P = λ (w : WorldTables). FitsOn m w × Answers wanted m.log f (m.run w) in
      let end : length (old.worlds ++ w ∷ []) ≡ suc (length old.worlds) = length_end old.worlds w in
      subst (λ k. OfWorld P (world_at new.worlds k)) (sym (count ∙ ap length worlds ∙ end))
      (subst (λ ws. OfWorld P (world_at ws (suc (length old.worlds)))) (sym worlds) (numbered_end P old.worlds w (fits, answers)))

  pub weighs_lacking : (n : ℕ) → n ≡ length new.worlds → All (Answers true m.log f) old.runs → FailsOn m f w
      → Weighs m k f old new before behind (May 1 n)
  weighs_lacking n count all fails = record {
    known = known_more m old new w known worlds runs fits;
    learns = learns_one old new w worlds;
    is = λ named kept h among. record { has = first_still true all; lacks = last_answers false n count fails };
    stays = λ kept among. keeps_both kept before behind among more;
  }

  pub weighs_having : (n : ℕ) → n ≡ length new.worlds → All (Answers false m.log f) old.runs → HoldsOn m f w
      → Weighs m k f old new before behind (May n 1)
  weighs_having n count all holds = record {
    known = known_more m old new w known worlds runs fits;
    learns = learns_one old new w worlds;
    is = λ named kept h among. record { has = last_answers true n count holds; lacks = first_still false all };
    stays = λ kept among. keeps_both kept before behind among more;
  }

pub weighs_must : (m : Matter) (k : ℕ) (f : Fact) (x : Known) (before behind : List Step) (steps : List Step)
    → KeepsMore before behind → IsKnown m x → IsMust m k f steps → Weighs m k f x x before behind (Must steps)
weighs_must m k f x before behind steps more known must = record {
  known = known;
  learns = learns_none x;
  is = λ named kept h among. must;
  stays = λ kept among. keeps_both kept before behind among more;
}

pub weighs_mustnot : (m : Matter) (k : ℕ) (f : Fact) (x : Known) (before behind : List Step) (steps : List Step)
    → KeepsMore before behind → IsKnown m x → IsMustNot m k f steps → Weighs m k f x x before behind (MustNot steps)
weighs_mustnot m k f x before behind steps more known mustnot = record {
  known = known;
  learns = learns_none x;
  is = λ named kept h among. mustnot;
  stays = λ kept among. keeps_both kept before behind among more;
}

taken : (P : WorldTables → Type 0) (ws : List WorldTables) (n : ℕ) → n ≡ length ws → All P ws → All P (take n ws)
taken P ws n e all = subst (All P) (sym (ap (λ k. take k ws) e ∙ take_whole ws)) all

module _ (m : Matter) (k : ℕ) (f : Fact) (x : Known) (before behind : List Step) (n : ℕ) (trail : Trail) (known : IsKnown m x)
    (count : n ≡ length x.worlds) (spent : Spends m.query m.conflicts trail) (begins : trail.kept ≡ before)
    (ends : behind ≡ trail.kept ++ trail.steps) where
  unknown : (o : Open) → All (λ w. LeavesOpen m f o w) x.worlds → (named : ℕ) (kept : List Step) → named ≤ length x.worlds
      → KeepsMore kept before → IsUnknown m x.worlds named kept f o n trail
  unknown o all named kept h among = record {
    some = subst (λ c. 1 ≤ c) (sym count) known.some;
    within = omega (arith, count);
    enough = omega (arith, count, h);
    unanswered = taken (λ w. LeavesOpen m f o w) x.worlds n count all;
    spent = spent;
    keeps = subst (KeepsMore kept) (sym begins) among;
  }

  -- the trail's steps are kept
  spent_stays : (kept : List Step) → KeepsMore kept before → KeepsMore (trail.kept ++ trail.steps) behind
  spent_stays kept among = record { more = []; kept = ends ∙ sym (append-nil (trail.kept ++ trail.steps)) }

  pub weighs_open_lacking : All (Answers true m.log f) x.runs → Weighs m k f x x before behind (Unknown side.Lacking n trail)
  weighs_open_lacking all = record {
    known = known;
    learns = learns_none x;
    is = λ named kept h among. unknown side.Lacking (all_answer m x f true known all) named kept h among;
    stays = spent_stays;
  }

  pub weighs_open_having : All (Answers false m.log f) x.runs → Weighs m k f x x before behind (Unknown side.Having n trail)
  weighs_open_having all = record {
    known = known;
    learns = learns_none x;
    is = λ named kept h among. unknown side.Having (all_answer m x f false known all) named kept h among;
    stays = spent_stays;
  }

-- ---- verdicts over more worlds

is_left : (m : Matter) (ws more : List WorldTables) (named : ℕ) (kept : List Step) (k : ℕ) (f : Fact) (v : Verdict)
    → IsVerdict m ws named kept k f v → IsVerdict m (ws ++ more) named kept k f v
is_left m ws more named kept k f (Must steps) h = h
is_left m ws more named kept k f (MustNot steps) h = h
is_left m ws more named kept k f (May i j) h = record {
  has = numbered_left (λ w. FitsOn m w × HoldsOn m f w) ws more i h.has;
  lacks = numbered_left (λ w. FitsOn m w × FailsOn m f w) ws more j h.lacks;
}
is_left m ws more named kept k f (Unknown o n trail) h = record {
  some = h.some;
  within = omega (arith, h.within, longer ws more);
  enough = h.enough;
  unanswered = subst (All (λ w. LeavesOpen m f o w)) (sym (take_left ws more n h.within)) h.unanswered;
  spent = h.spent;
  keeps = h.keeps;
}

after_within : (m : Matter) (ws : List WorldTables) (named : ℕ) (kept : List Step) (k : ℕ) (f : Fact) (v : Verdict)
    → named ≤ length ws → IsVerdict m ws named kept k f v → named_after named v ≤ length ws
after_within m ws named kept k f (Must steps) h is = h
after_within m ws named kept k f (MustNot steps) h is = h
after_within m ws named kept k f (May i j) h is =
    at_most named (max i j) (length ws) h (at_most i j (length ws)
    (numbered_within (λ w. FitsOn m w × HoldsOn m f w) ws i is.has)
    (numbered_within (λ w. FitsOn m w × FailsOn m f w) ws j is.lacks))
after_within m ws named kept k f (Unknown o n trail) h is = h

-- One verdict more, at the end: it is so over more worlds, whatever numbers of fewer worlds are named.
are_more : (m : Matter) (ws more : List WorldTables) (named : ℕ) (kept : List Step) (k : ℕ) (fs : List Fact) (f : Fact)
    (vs : List Verdict) (v : Verdict)
    → named ≤ length ws → AreVerdicts m ws named kept k fs vs
    → ((n : ℕ) → n ≤ length ws → IsVerdict m (ws ++ more) n (kept_over kept vs) (length fs + k) f v)
    → AreVerdicts m (ws ++ more) named kept k (fs ++ f ∷ []) (vs ++ v ∷ [])
are_more m ws more named kept k [] f [] v h are is =
    let at : 0 + k ≡ k = omega arith in (subst (λ p. IsVerdict m (ws ++ more) named kept p f v) at (is named h), tt)
are_more m ws more named kept k [] f (u ∷ us) v h are is = absurd are
are_more m ws more named kept k (g ∷ gs) f [] v h are is = absurd are
are_more m ws more named kept k (g ∷ gs) f (u ∷ us) v h are is =
    let at : suc (length gs) + k ≡ length gs + suc k = omega arith in (
      is_left m ws more named kept k g u are.0,
      are_more m ws more (named_after named u) (kept_after kept u) (suc k) gs f us v (after_within m ws named kept k g u h are.0) are.1
          (λ n below. subst (λ p. IsVerdict m (ws ++ more) n (kept_over (kept_after kept u) us) p f v) at (is n below)),
    )

-- the steps that are kept behind one verdict more
kept_more : (kept : List Step) (vs : List Verdict) (v : Verdict) → kept_over kept (vs ++ v ∷ []) ≡ kept_after (kept_over kept vs) v
kept_more kept [] v = refl
kept_more kept (u ∷ us) v = kept_more (kept_after kept u) us v

pub weighs_none : (m : Matter) (x : Known) (ss : List Step) → IsKnown m x → WeighsAll m [] x ss []
weighs_none m x ss known = record { known = known; are = tt; stays = record { more = ss; kept = refl } }

pub weighs_more : (m : Matter) (old new : Known) (before behind : List Step) (fs : List Fact) (f : Fact) (vs : List Verdict)
    (v : Verdict) → WeighsAll m fs old before vs → Weighs m (suc (length fs)) f old new before behind v
    → WeighsAll m (fs ++ f ∷ []) new behind (vs ++ v ∷ [])
weighs_more m old new before behind fs f vs v all one = record {
  known = one.known;
  are =
      let at : suc (length fs) ≡ length fs + 1 = omega arith in
      subst (λ ws. AreVerdicts m ws 0 [] 1 (fs ++ f ∷ []) (vs ++ v ∷ [])) (sym one.learns.worlds)
      (are_more m old.worlds one.learns.more 0 [] 1 fs f vs v (omega arith) all.are
      (λ n below. subst (λ ws. IsVerdict m ws n (kept_over [] vs) (length fs + 1) f v) one.learns.worlds
      (subst (λ p. IsVerdict m new.worlds n (kept_over [] vs) p f v) at (one.is n (kept_over [] vs) below all.stays))));
  stays = subst (λ ss. KeepsMore ss behind) (sym (kept_more [] vs v)) (one.stays (kept_over [] vs) all.stays);
}

-- ---- what a test of a run says

pub answers_other : (wanted found : Bool) (log : List ℕ) (f : Fact) (r : Run) → (found ≡ true) ↔ Holds log r f
    → beq found wanted ≡ false → Answers (not wanted) log f r
answers_other true true log f r is other = absurd (cc)
answers_other true false log f r is other = λ holds. let e : false ≡ true = is.1 holds in absurd (cc)
answers_other false true log f r is other = is.0 refl
answers_other false false log f r is other = absurd (cc)
