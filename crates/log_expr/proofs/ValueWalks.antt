-- Walks of parts of an expression, and of the whole.
use Rattle.std.proofs.Common.{◌≡◌, ℕ, ℤ, Bool, List, [], ◌∷◌, length, sym, subst}
use Rattle.core_tree.specs.declared.expr.Callee.{Callee}
use Rattle.core_tree.specs.declared.types.Access.{Access}
use Rattle.core_tree.specs.declared.types.Answered.{Answered}
use Rattle.core_tree.specs.declared.types.Operator.{Operator}
use Rattle.core_tree.specs.declared.types.ValueType.{ValueType}
use Rattle.core_tree.specs.States.{Done, Outcome, found, Needs}
use Rattle.core_tree.specs.Values.{Value, on_value, comma, operate, store, update, step, both, either, choose, call}
use Rattle.log_expr.specs.declared.table.Entry.{Entry}
use Rattle.log_expr.specs.Below.{Site, Extends, ReachesValue, ReachesValues, ReachesCallee}
use Rattle.log_expr.specs.Covers.{CoversValue, CoversValues}
use Rattle.log_expr.specs.Flows.{Wider}
use Rattle.log_expr.specs.Logs.{CoversCallee}
use Rattle.log_expr.specs.Tables.{known_at}
use Rattle.log_expr.specs.declared.trail.Trail.{Trail}
use Rattle.log_expr.specs.Trails.{IsPut}
use Rattle.log_expr.proofs.CallForms.{covers_call, covers_none, covers_more, values_wider, wider_callee}
use Rattle.log_expr.proofs.Enough.{put_wider, put_kept}
use Rattle.log_expr.proofs.Growing.{extends_same, extends_then, value_grown, values_grown}
use Rattle.log_expr.proofs.Outcomes.{Keeps}
use Rattle.log_expr.proofs.ValueForms.{covers_wider, covers_plain, covers_on, covers_comma, covers_operate, covers_store, covers_update, covers_step, covers_both, covers_either, covers_choose}

module _ (x : Site) where
  abbrev Rows : Type 0
  Rows = List (List Entry)

  pub same_value : (u v : Value ℕ) (old now : Rows) (from to ended ended' : List ℕ) → u ≡ v → ReachesValue x old now v from to ended ended' → ReachesValue x old now u from to ended ended'
  same_value u v old now from to ended ended' e h = subst (λ z. ReachesValue x old now z from to ended ended') (sym e) h

  lifted : (old mid now : Rows) (v : Value ℕ) (from to ended ended' ended'' : List ℕ) → ReachesValue x old mid v from to ended ended' → Extends x.whole mid now → Wider ended' ended''
      → CoversValue x.whole x.turns (known_at now x.left) v from to ended''
  lifted old mid now v from to ended ended' ended'' r e h =
      covers_wider x.whole x.turns (known_at now x.left) v from to to ended' ended'' (λ y m. m) h (value_grown x.whole x.turns x.left mid now e.grows v from to ended' r.covers)

  pub reach_leaf : (v : Value ℕ) (rows : Rows) (from to ended : List ℕ) → to ≡ from → CoversValue x.whole x.turns (known_at rows x.left) v from from ended → ReachesValue x rows rows v from to ended ended
  reach_leaf v rows from to ended e c =
      subst (λ l. ReachesValue x rows rows v from l ended ended) (sym e) (record { extends_ = extends_same x.whole rows; wider = λ y m. m; covers = c })

  pub reach_plain : (needs : Needs) (f : ℤ → ℤ) (v : Value ℕ) (old now : Rows) (from to ended ended' : List ℕ) → ReachesValue x old now v from to ended ended'
      → ReachesValue x old now (on_value needs (λ z d. found (f z) d) v) from to ended ended'
  reach_plain needs f v old now from to ended ended' r = record {
    extends_ = r.extends_;
    wider = r.wider;
    covers = covers_plain x.whole x.turns (known_at now x.left) needs f v from to ended' r.covers;
  }

  pub reach_on : (needs : Needs) (f : ℤ → Done ℕ → Outcome ℕ ℤ) (v : Value ℕ) (old now : Rows) (from to ended ended' ended'' : List ℕ) → ((z : ℤ) (d : Done ℕ) → Keeps d (f z d))
      → ReachesValue x old now v from to ended ended' → IsPut ended' to ended'' → ReachesValue x old now (on_value needs f v) from to ended ended''
  reach_on needs f v old now from to ended ended' ended'' k r p = record {
    extends_ = r.extends_;
    wider = λ y m. put_kept ended' to ended'' p y (r.wider y m);
    covers = covers_on x.whole x.turns (known_at now x.left) needs f v from to ended'' k (put_wider ended' to ended'' p)
        (lifted old now now v from to ended ended' ended'' r (extends_same x.whole now) (put_kept ended' to ended'' p));
  }

  pub reach_step : (at : ℕ) (o : Operator) (access : Access) (answer : Answered) (v : Value ℕ) (old now : Rows) (from to ended ended' ended'' : List ℕ)
      → ReachesValue x old now v from to ended ended' → IsPut ended' to ended'' → ReachesValue x old now (step at o access answer v) from to ended ended''
  reach_step at o access answer v old now from to ended ended' ended'' r p = record {
    extends_ = r.extends_;
    wider = λ y m. put_kept ended' to ended'' p y (r.wider y m);
    covers = covers_step x.whole x.turns (known_at now x.left) at o access answer v from to ended'' (put_wider ended' to ended'' p)
        (lifted old now now v from to ended ended' ended'' r (extends_same x.whole now) (put_kept ended' to ended'' p));
  }

  module _ (u v : Value ℕ) (old t now : Rows) (from mid to ended ended' ended'' : List ℕ) (r : ReachesValue x old t u from mid ended ended') (s : ReachesValue x t now v mid to ended' ended'') where
    abbrev both_extend : Extends x.whole old now
    both_extend = extends_then x.whole old t now r.extends_ s.extends_

    pub reach_comma : ReachesValue x old now (comma u v) from to ended ended''
    reach_comma = record {
      extends_ = extends_then x.whole old t now r.extends_ s.extends_;
      wider = λ y m. s.wider y (r.wider y m);
      covers = covers_comma x.whole x.turns (known_at now x.left) u v from mid to ended'' (lifted old t now u from mid ended ended' ended'' r s.extends_ s.wider) s.covers;
    }

    module _ (ended''' : List ℕ) (p : IsPut ended'' to ended''') where
      pub reach_operate : (at : ℕ) (o : Operator) → ReachesValue x old now (operate at o u v) from to ended ended'''
      reach_operate at o = record {
        extends_ = extends_then x.whole old t now r.extends_ s.extends_;
        wider = λ y m. put_kept ended'' to ended''' p y (s.wider y (r.wider y m));
        covers = covers_operate x.whole x.turns (known_at now x.left) at o u v from mid to ended''' (put_wider ended'' to ended''' p)
            (lifted old t now u from mid ended ended' ended''' r s.extends_ (λ y m. put_kept ended'' to ended''' p y (s.wider y m)))
            (lifted t now now v mid to ended' ended'' ended''' s (extends_same x.whole now) (put_kept ended'' to ended''' p));
      }

      pub reach_store : (at : ℕ) (access : Access) → ReachesValue x old now (store at access u v) from to ended ended'''
      reach_store at access = record {
        extends_ = extends_then x.whole old t now r.extends_ s.extends_;
        wider = λ y m. put_kept ended'' to ended''' p y (s.wider y (r.wider y m));
        covers = covers_store x.whole x.turns (known_at now x.left) at access u v from mid to ended''' (put_wider ended'' to ended''' p)
            (lifted old t now u from mid ended ended' ended''' r s.extends_ (λ y m. put_kept ended'' to ended''' p y (s.wider y m)))
            (lifted t now now v mid to ended' ended'' ended''' s (extends_same x.whole now) (put_kept ended'' to ended''' p));
      }

    module _ (all : List ℕ) (p : IsPut mid to all) where
      pub reach_both : (at : ℕ) → ReachesValue x old now (both at u v) from all ended ended''
      reach_both at = record {
        extends_ = extends_then x.whole old t now r.extends_ s.extends_;
        wider = λ y m. s.wider y (r.wider y m);
        covers = covers_both x.whole x.turns (known_at now x.left) u v from mid to all ended'' (put_kept mid to all p) (put_wider mid to all p)
            (lifted old t now u from mid ended ended' ended'' r s.extends_ s.wider) s.covers at;
      }

      pub reach_either : (at : ℕ) → ReachesValue x old now (either at u v) from all ended ended''
      reach_either at = record {
        extends_ = extends_then x.whole old t now r.extends_ s.extends_;
        wider = λ y m. s.wider y (r.wider y m);
        covers = covers_either x.whole x.turns (known_at now x.left) u v from mid to all ended'' (put_kept mid to all p) (put_wider mid to all p)
            (lifted old t now u from mid ended ended' ended'' r s.extends_ s.wider) s.covers at;
      }

  pub reach_update : (at : ℕ) (o : Operator) (access : Access) (u v : Value ℕ) (old t now : Rows) (from mid to e e1 e2 e3 e4 : List ℕ) → ReachesValue x old t u from mid e e1 → IsPut e1 mid e2
      → ReachesValue x t now v mid to e2 e3 → IsPut e3 to e4 → ReachesValue x old now (update at o access u v) from to e e4
  reach_update at o access u v old t now from mid to e e1 e2 e3 e4 r p s q =
      let last : Wider e2 e4 = λ y m. put_kept e3 to e4 q y (s.wider y m) in
      record {
        extends_ = extends_then x.whole old t now r.extends_ s.extends_;
        wider = λ y m. last y (put_kept e1 mid e2 p y (r.wider y m));
        covers = covers_update x.whole x.turns (known_at now x.left) at o access u v from mid to e4 (λ y m. last y (put_wider e1 mid e2 p y m)) (put_wider e3 to e4 q)
            (lifted old t now u from mid e e1 e4 r s.extends_ (λ y m. last y (put_kept e1 mid e2 p y m)))
            (lifted t now now v mid to e2 e3 e4 s (extends_same x.whole now) (put_kept e3 to e4 q));
      }

  pub reach_choose : (at : ℕ) (c u v : Value ℕ) (old t1 t2 now : Rows) (from mid left right to e e1 e2 e3 : List ℕ) → ReachesValue x old t1 c from mid e e1 → ReachesValue x t1 t2 u mid left e1 e2
      → ReachesValue x t2 now v mid right e2 e3 → IsPut left right to → ReachesValue x old now (choose at c u v) from to e e3
  reach_choose at c u v old t1 t2 now from mid left right to e e1 e2 e3 r s q p = record {
    extends_ = extends_then x.whole old t1 now r.extends_ (extends_then x.whole t1 t2 now s.extends_ q.extends_);
    wider = λ y m. q.wider y (s.wider y (r.wider y m));
    covers = covers_choose x.whole x.turns (known_at now x.left) at c u v from mid left right to e3 (put_kept left right to p) (put_wider left right to p)
        (lifted old t1 now c from mid e e1 e3 r (extends_then x.whole t1 t2 now s.extends_ q.extends_) (λ y m. q.wider y (s.wider y m)))
        (lifted t1 t2 now u mid left e1 e2 e3 s q.extends_ q.wider) q.covers;
  }

  -- ---- arguments, and calls

  pub reach_call : (at : ℕ) (vs : List (Value ℕ)) (c : Callee) (type : ValueType) (used : Bool) (count : ℕ) (old t now : Rows) (from mid to e e1 e2 e3 : List ℕ) → count ≡ length vs
      → ReachesValues x old t vs from mid e e1 → ReachesCallee x t now c count mid to e1 e2 → IsPut e2 to e3 → ReachesValue x old now (call at vs c type used) from to e e3
  reach_call at vs c type used count old t now from mid to e e1 e2 e3 n r s p = record {
    extends_ = extends_then x.whole old t now r.extends_ s.extends_;
    wider = λ y m. put_kept e2 to e3 p y (s.wider y (r.wider y m));
    covers = covers_call x.whole x.turns (known_at now x.left) at vs c type used from mid to e3 (put_wider e2 to e3 p)
        (arguments_lifted (λ y m. put_kept e2 to e3 p y (s.wider y m)))
        (subst (λ k. CoversCallee x.whole x.turns (known_at now x.left) c k mid to e3) n (callee_wider (put_kept e2 to e3 p)));
  }
    where
      arguments_lifted : Wider e1 e3 → CoversValues x.whole x.turns (known_at now x.left) vs from mid e3
      arguments_lifted h = values_wider x.whole x.turns (known_at now x.left) vs from mid e1 e3 h (values_grown x.whole x.turns x.left t now s.extends_.grows vs from mid e1 r.covers)

      callee_wider : Wider e2 e3 → CoversCallee x.whole x.turns (known_at now x.left) c count mid to e3
      callee_wider h = wider_callee x.whole x.turns (known_at now x.left) c count mid to e2 e3 h s.covers

  -- what is left of the arguments leads on, whatever it leads to
  pub record ValuesLead (old now : Rows) (all rest : List (Value ℕ)) (from to e e' : List ℕ) : Type 0 where
    pub extends_ : Extends x.whole old now
    pub wider : Wider e e'
    pub leads : (last : Rows) (to' e'' : List ℕ) → Extends x.whole now last → Wider e' e'' → CoversValues x.whole x.turns (known_at last x.left) rest to to' e''
        → CoversValues x.whole x.turns (known_at last x.left) all from to' e''

  pub lead_start : (rows : Rows) (all : List (Value ℕ)) (from to e : List ℕ) → to ≡ from → ValuesLead rows rows all all from to e e
  lead_start rows all from to e h = subst (λ l. ValuesLead rows rows all all from l e e) (sym h) (record { extends_ = extends_same x.whole rows; wider = λ y m. m; leads = λ last to' e'' g i c. c })

  pub lead_more : (old t now : Rows) (all : List (Value ℕ)) (v : Value ℕ) (rest : List (Value ℕ)) (from mid to e e1 e2 : List ℕ) → ValuesLead old t all (v ∷ rest) from mid e e1
      → ReachesValue x t now v mid to e1 e2 → ValuesLead old now all rest from to e e2
  lead_more old t now all v rest from mid to e e1 e2 l r = record {
    extends_ = extends_then x.whole old t now l.extends_ r.extends_;
    wider = λ y m. r.wider y (l.wider y m);
    leads = λ last to' e'' g i c. l.leads last to' e'' (extends_then x.whole t now last r.extends_ g) (λ y m. i y (r.wider y m))
        (covers_more x.whole x.turns (known_at last x.left) v rest mid to to' e'' (lifted t now last v mid to e1 e2 e'' r g i) c);
  }

  pub lead_end : (old now : Rows) (all : List (Value ℕ)) (from to e e' : List ℕ) → ValuesLead old now all [] from to e e' → ReachesValues x old now all from to e e'
  lead_end old now all from to e e' l = record {
    extends_ = l.extends_;
    wider = l.wider;
    covers = l.leads now to e' (extends_same x.whole now) (λ y m. m) (covers_none x.whole x.turns (known_at now x.left) to e');
  }

-- the same of trails
pub record TrailLeads (x : Site) (rows rows' : List (List Entry)) (all rest : List (Value ℕ)) (old now : Trail) : Type 0 where
  pub aside : now.aside ≡ old.aside
  pub lead : ValuesLead x rows rows' all rest old.at now.at old.ended now.ended
