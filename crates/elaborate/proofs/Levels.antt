-- The calls of a program and those of its core do the same, by the depth that is left.
use Rattle.std.proofs.Common.{◌≡◌, ℕ, zero, suc, ℤ, List, Some, None, sym, ap, ap₂, ◌∙◌}
use Rattle.plain_data.specs.declared.run.Finish.TheVariants as finish
use Rattle.c_store.specs.Store.{Store}
use Rattle.c_means.specs.Parts.{State, Env}
use Rattle.c_means.specs.Parts as c
use Rattle.c_means.specs.Programs.{Function}
use Rattle.c_means.specs.Rules.{Rules, LogCall, IdentityCall, BodyCall, LibraryCall, PreludeCall, OutsideCall}
use Rattle.c_means.specs.Runs as whole
use Rattle.core_tree.specs.declared.program.Function.{Function as CoreFunction}
use Rattle.core_tree.specs.States.{Output, entered, finished}
use Rattle.core_tree.specs.Programs.{Machine, turns_in, size_by, room_by, measures_of, called_at}
use Rattle.core_tree.specs.Programs.{calls_of, level_of}
use Rattle.elaborate.specs.Means.{Numbering, as_done, Like, BodyRule, IsMachineOf}
use Rattle.elaborate.proofs.Bodies.{body_same, room_same, size_same}

-- ---- what a rule says that runs a body

sized : (m : whole.Machine) (below : whole.Below) (r : Rules Function) (f : Function) (turns : ℕ) → BodyRule m.limits
    r f turns → whole.size_below below f turns ≡ whole.size_by m below r
sized m below (BodyCall g) f turns h = ap₂ (whole.size_below below) (sym h.0) (sym h.1)
sized m below (PreludeCall g) f turns h = ap₂ (whole.size_below below) (sym h.0) (sym h.1)
sized m below (LogCall text) f turns h = absurd h
sized m below (IdentityCall i) f turns h = absurd h
sized m below (LibraryCall x) f turns h = absurd h
sized m below OutsideCall f turns h = absurd h

roomed : (m : whole.Machine) (below : whole.Below) (g : c.Site) (r : Rules Function) (f : Function) (turns : ℕ) →
    BodyRule m.limits r f turns → whole.room_below below f turns ≡ whole.room_by m below g r
roomed m below g (BodyCall x) f turns h = ap₂ (whole.room_below below) (sym h.0) (sym h.1)
roomed m below g (PreludeCall x) f turns h = ap₂ (whole.room_below below) (sym h.0) (sym h.1)
roomed m below g (LogCall text) f turns h = absurd h
roomed m below g (IdentityCall i) f turns h = absurd h
roomed m below g (LibraryCall x) f turns h = absurd h
roomed m below g OutsideCall f turns h = absurd h

called : (m : whole.Machine) (caller : Function) (n : ℕ) (below : whole.Below) (g : c.Site) (r : Rules Function)
    (f : Function) (turns : ℕ) → BodyRule m.limits r f turns
    → (env : Env) (vs : List ℤ) (base : ℕ) (s : Store) (count : ℕ) → whole.call_below below f turns g vs base s count
    ≡ whole.call_by m caller n below r g env vs base s count
called m caller n below g (BodyCall x) f turns h env vs base s count = ap₂
    (λ f t. whole.call_below below f t g vs base s count) (sym h.0) (sym h.1)
called m caller n below g (PreludeCall x) f turns h env vs base s count = ap₂
    (λ f t. whole.call_below below f t g vs base s count) (sym h.0) (sym h.1)
called m caller n below g (LogCall text) f turns h env vs base s count = absurd h
called m caller n below g (IdentityCall i) f turns h env vs base s count = absurd h
called m caller n below g (LibraryCall x) f turns h env vs base s count = absurd h
called m caller n below g OutsideCall f turns h env vs base s count = absurd h

module _ (numbering : Function → Numbering) (m : whole.Machine) (k : Machine Output) (h : IsMachineOf numbering m k)
  where
    -- with so many levels of calls left, the level of a function and the one of its core tell the same
    pub levels_like : (n : ℕ) (f : Function) (turns : ℕ) (x : CoreFunction) → turns_in k.limits x ≡ turns → Like
        (numbering f) (whole.level_of m n f turns) (level_of k n x)
    unfolding whole.level_of measures_of calls_of
    levels_like zero f turns x e = record {
      taking = h.taking;
      world = h.world;
      limits = h.limits;
      turns = e;
      static_places = h.places f;
      identity = h.identity f;
      rules = λ g r is. let q = h.rules f g r is in record {
        size = q.size None;
        room = q.room None;
        marks = q.marks;
        runs = q.runs turns None;
      };
      bodies = λ g i is. let b = h.bodies f g i is in record {
        size = sized m None (whole.rule_of m g) b.function b.turns b.rule;
        room = roomed m None g (whole.rule_of m g) b.function b.turns b.rule;
        runs = λ env vs base s o. ap (λ t. Some (finished (finish.Left g.at) (entered t s o))) h.taking
            ∙ ap (λ d. Some (as_done d)) (called m f turns None g (whole.rule_of m g) b.function b.turns b.rule env vs
            base s o.count);
      };
    }
    levels_like (suc n) f turns x e = record {
      taking = h.taking;
      world = h.world;
      limits = h.limits;
      turns = e;
      static_places = h.places f;
      identity = h.identity f;
      rules = λ g r is. let q = h.rules f g r is in record {
        size = q.size (Some (whole.level_of m n));
        room = q.room (Some (whole.level_of m n));
        marks = q.marks;
        runs = q.runs turns (Some (whole.level_of m n));
      };
      bodies = λ g i is.
          let b = h.bodies f g i is in
          let like = levels_like n b.function b.turns b.body.function b.has_turns in
          record {
            size = ap (size_by (measures_of k n)) b.found
                ∙ size_same (numbering b.function) b.body b.function b.item b.is_body
                (whole.level_of m n b.function b.turns)
                (level_of k n b.body.function) like
                ∙ sized m (Some (whole.level_of m n)) (whole.rule_of m g) b.function b.turns b.rule;
            room = ap (room_by (measures_of k n)) b.found
                ∙ room_same (numbering b.function) b.body b.function b.item b.is_body
                (whole.level_of m n b.function b.turns)
                (level_of k n b.body.function) like
                ∙ roomed m (Some (whole.level_of m n)) g (whole.rule_of m g) b.function b.turns b.rule;
            runs = λ env vs base s o. ap (λ y. called_at (level_of k n) y vs base s o) b.found
                ∙ body_same (numbering b.function) b.body b.function b.item b.is_body
                (whole.level_of m n b.function b.turns)
                (level_of k n b.body.function) like vs base s o
                ∙ ap (λ d. Some (as_done d)) (called m f turns (Some (whole.level_of m n)) g (whole.rule_of m g)
                b.function b.turns b.rule env vs base s o.count);
          };
    }
