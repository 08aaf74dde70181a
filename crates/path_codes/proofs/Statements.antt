-- What each form of code makes of states, from what its parts make of them.
use Rattle.std.proofs.Common.{◌≡◌, ℕ, ◌+◌, ℤ, List, [], ◌++◌, Bool, Some, map, sym, ap, subst, ◌∙◌, arith, add-zero}
use Rattle.std.specs.Prelude.{Result, IfOk}
use Rattle.c_means.specs.declared.kind.Kind.{Kind}
use Rattle.c_means.specs.declared.kind.Kind.TheVariants as k
use Rattle.core_tree.specs.declared.code.Code.{Code}
use Rattle.core_tree.specs.declared.expr.Expr.{Expr}
use Rattle.core_tree.specs.States.{Done, Arrow, Measures, along, born, dead, become, arrive, onward}
use Rattle.core_tree.specs.Values.{value}
use Rattle.core_tree.specs.Codes as form
use Rattle.core_tree.specs.Codes.{Item, code}
use Rattle.c_means.specs.Items.{known}
use Rattle.term_bank.specs.declared.shape.Shape.{Shape}
use Rattle.term_bank.specs.Values.{Environment}
use Rattle.path_states.specs.declared.state.State.{State}
use Rattle.path_states.specs.Ways.{Goes, stay}
use Rattle.path_steps.specs.declared.parting.Parted.{Parted}
use Rattle.path_steps.specs.Branches.{PartsAll}
use Rattle.path_arrows.specs.declared.objects.Object.{Object}
use Rattle.path_arrows.specs.declared.points.Point.{Point}
use Rattle.path_arrows.specs.declared.sifting.Sifted.{Sifted}
use Rattle.path_arrows.specs.Arrows.{by_arrow, returning, Sifts}
use Rattle.path_arrows.specs.Objects.{Fit, made_at}
use Rattle.path_arrows.specs.Points.{at_point}
use Rattle.path_forms.specs.declared.fault.WalkFault.{WalkFault}
use Rattle.path_forms.specs.declared.frame.Placed.{Placed}
use Rattle.path_forms.specs.Around.{Around, level_at, env_at}
use Rattle.path_rooms.specs.Births.{Gives, placed_all}
use Rattle.path_rooms.specs.Rooms.{item_of, items_room}
use Rattle.path_rooms.proofs.Bound.{env_within}
use Rattle.path_codes.specs.declared.below.Coded.{Coded}
use Rattle.path_codes.specs.declared.below.Evaluated.{Evaluated}
use Rattle.path_codes.specs.Courses.{on_top}
use Rattle.path_codes.specs.Walks.{WalksTo, WalksItem, WalksLived, EvaluatesTo, item_arrow, lived_arrow}
use Rattle.path_codes.proofs.Courses.{arrows_then, arrows_as, splits_close}
use Rattle.path_codes.proofs.Pieces.{splits_sift, branched, goes_branch}

pub walks_by : (room : ℕ) (f : Environment → Arrow ℕ) (n : ℕ) (a b : List Shape) (ss ts : List State) (place next : ℕ)
    → next ≡ place + n → Goes room a b ss ts (by_arrow f) → WalksTo room f n a b ss place (record { states = ts; next = next })
walks_by room f n a b ss ts place next is h = record { grows = h.grows; states = h.states; after = is; goes = h }

no_more : (place : ℕ) → place ≡ place + 0
no_more place = sym (add-zero place)

module _ (x : Around) (frame : List Placed) (room : ℕ) where
  pub walks_nothing : (a : List Shape) (ss ts : List State) (place : ℕ) → Goes room a a ss ts (by_arrow (λ e d. Some d))
      → WalksItem x frame room form.nothing a a ss place (record { states = ts; next = place })
  walks_nothing a ss ts place h =
      walks_by room (item_arrow x frame place form.nothing) 0 a a ss ts place place (no_more place) h

  pub walks_evaluated : (is_node : Bool) (t : Expr) (a b c : List Shape) (ss us ts : List State) (place : ℕ) (y : Evaluated)
      → EvaluatesTo x frame room t a b ss place y → Goes room b b y.on us (by_arrow (λ e d. Some d))
      → Goes room b c (y.over ++ us) ts stay
      → WalksItem x frame room (form.evaluated is_node (value t)) a c ss place (record { states = ts; next = y.next })
  walks_evaluated is_node t a b c ss us ts place y h i j =
      let whole = item_arrow x frame place (form.evaluated is_node (value t)) in
      walks_by room whole ((form.evaluated is_node (value {O = ℕ} t)).needs.room x.measures) a c ss ts place y.next h.after
      (splits_close room a b b c ss y.over y.on us ts (on_top (λ e z d. Some d)) (by_arrow whole) (h.splits (λ e z d. Some d)) i j)

  pub walks_returned : (t : Expr) (a b c d : List Shape) (ss us ts : List State) (place : ℕ) (y : Evaluated)
      → EvaluatesTo x frame room t a b ss place y → Goes room b c y.on us returning → Goes room c d (y.over ++ us) ts stay
      → WalksItem x frame room (form.return_of (Some (value t))) a d ss place (record { states = ts; next = y.next })
  walks_returned t a b c d ss us ts place y h i j =
      let whole = item_arrow x frame place (form.return_of (Some (value t))) in
      let gives : Environment → ℤ → Arrow ℕ = λ e z d. Some (record d { kind = k.Returning; value = Some z }) in
      walks_by room whole ((form.return_of (Some (value {O = ℕ} t))).needs.room x.measures) a d ss ts place y.next h.after
      (splits_close room a b c d ss y.over y.on us ts (on_top gives) (by_arrow whole) (h.splits gives) i j)

  pub walks_jumped : (kind : Kind) (a b : List Shape) (ss us ts : List State) (place : ℕ) (p : Sifted) → Sifts a ss p
      → Goes room a a p.running us (by_arrow (λ e d. Some (become kind d))) → Goes room a b (p.others ++ us) ts stay
      → WalksItem x frame room (form.jump kind) a b ss place (record { states = ts; next = place })
  walks_jumped kind a b ss us ts place p h i j =
      let whole = item_arrow x frame place (form.jump kind) in
      let jumps : Environment → Arrow ℕ = λ e d. Some (become kind d) in
      walks_by room whole 0 a b ss ts place place (no_more place)
      (splits_close room a a a b ss p.others p.running us ts (by_arrow jumps) (by_arrow whole) (splits_sift room a ss p jumps h) i j)

  pub walks_arrived : (point : Point) (more : Measures → ℕ) (i : Item ℕ) (a b : List Shape) (ss ts : List State) (place : ℕ)
      (y : Coded) → Goes room a a ss ts (by_arrow (λ e d. Some (arrive (at_point point) d))) → WalksItem x frame room i a b ts place y
      → WalksItem x frame room (form.arrived (at_point point) more i) a b ss place y
  walks_arrived point more i a b ss ts place y h j = record {
    grows = j.grows;
    states = j.states;
    after = j.after;
    goes = arrows_then room a a b ss ts y.states (λ e d. Some (arrive (at_point point) d)) (item_arrow x frame place i) h j.goes;
  }

  pub walks_block : (is_node : Bool) (cs : List Code) (a b c : List Shape) (ss ts : List State) (place : ℕ) (p : Sifted) (y : Coded)
      → Sifts a ss p → WalksLived x frame room cs a b p.running place y → Goes room b c (p.others ++ y.states) ts stay
      → WalksItem x frame room (form.block is_node (map code cs)) a c ss place (record { states = ts; next = y.next })
  walks_block is_node cs a b c ss ts place p y h i j =
      let whole = item_arrow x frame place (form.block is_node (map code cs)) in
      walks_by room whole (items_room x.measures cs) a c ss ts place y.next i.after
      (splits_close room a a b c ss p.others p.running y.states ts (by_arrow (lived_arrow x frame place cs)) (by_arrow whole)
      (splits_sift room a ss p (lived_arrow x frame place cs) h) i.goes j)

  -- a block, with its objects
  pub walks_lived : (cs : List Code) (objects : List Object) (inner : List Placed) (a b c d : List Shape) (ss us ts : List State)
      (place : ℕ) (y : Coded) → Gives x.measures (item_of cs) place [] objects → Fit room objects
      → inner ≡ frame ++ placed_all objects
      → ((r : ℕ) (log : List ℕ) → Fit r objects
      → Goes r a b ss us (by_arrow (λ e d. Some (born (along log) (made_at e.base objects) d))))
      → WalksItem x inner room (item_of cs) b c us place y
      → ((r : ℕ) → Fit r objects → Goes r c d y.states ts (by_arrow (λ e d. Some (dead (made_at e.base objects) d))))
      → WalksLived x frame room cs a d ss place (record { states = ts; next = y.next })
  walks_lived cs objects inner a b c d ss us ts place y g fit is bore h died =
      walks_by room (lived_arrow x frame place cs) (items_room x.measures cs) a d ss ts place y.next h.after
      (arrows_as room a d ss ts made (lived_arrow x frame place cs) same
      (arrows_then room a c d ss y.states ts (λ e q. onward (Some (born (along x.log) (made_at e.base objects) q)) (item_arrow x inner place (item_of cs) e))
      (λ e q. Some (dead (made_at e.base objects) q))
      (arrows_then room a b c ss us y.states (λ e q. Some (born (along x.log) (made_at e.base objects) q)) (item_arrow x inner place (item_of cs))
      (bore room x.log fit) h.goes)
      (died room fit)))
    where
      made : Environment → Arrow ℕ
      made e q = onward
          (onward (Some (born (along x.log) (made_at e.base objects) q)) (item_arrow x inner place (item_of cs) e))
          (λ r. Some (dead (made_at e.base objects) r))

      same : (e : Environment) (q : Done ℕ) → made e q ≡ lived_arrow x frame place cs e q
      same e q =
          ap (λ env. onward ((item_of cs).run (level_at x e) env (e.base + place) (born (along x.log) (made_at e.base objects) q))
          (λ r. Some (dead (made_at e.base objects) r))) (ap (λ ps. env_at ps e) is ∙ env_within frame objects e)
          ∙ ap (λ ms. onward ((item_of cs).run (level_at x e) (known ms (env_at frame e)) (e.base + place) (born (along x.log) ms q))
          (λ r. Some (dead ms r))) (g.is e.base)

  -- ---- places

  moved : (i : Item ℕ) (place next n : ℕ) → next ≡ place + n → (e : Environment) (d : Done ℕ)
      → item_arrow x frame next i e d ≡ i.run (level_at x e) (env_at frame e) ((e.base + place) + n) d
  moved i place next n is e d =
      ap (λ p. i.run (level_at x e) (env_at frame e) p d) (sum e.base place next n is)
    where
      sum : (base place next n : ℕ) → next ≡ place + n → base + next ≡ (base + place) + n
      sum base place next n h = omega (arith, h)

  pub goes_at : (i : Item ℕ) (a b : List Shape) (ss : List State) (place next n : ℕ) (y : Coded) → next ≡ place + n
      → WalksItem x frame room i a b ss next y
      → Goes room a b ss y.states (by_arrow (λ e. i.run (level_at x e) (env_at frame e) ((e.base + place) + n)))
  goes_at i a b ss place next n y is h =
      arrows_as room a b ss y.states (item_arrow x frame next i) (λ e. i.run (level_at x e) (env_at frame e) ((e.base + place) + n))
      (moved i place next n is) h.goes

  -- ---- selection

  pub walks_if : (at : ℕ) (t : Expr) (positive negative : Code) (a b c d f g : List Shape) (ss ts : List State) (place : ℕ) (y : Evaluated)
      (p : Parted) (first second : Coded)
      → EvaluatesTo x frame room t a b ss place y → PartsAll b c y.on at p
      → WalksItem x frame room (code positive) c d p.yes y.next first → WalksItem x frame room (code negative) d f p.no first.next second
      → Goes room f g (y.over ++ (first.states ++ second.states)) ts stay
      → WalksItem x frame room (form.if_of at (value t) (code positive) (code negative)) a g ss place (record { states = ts; next = second.next })
  walks_if at t positive negative a b c d f g ss ts place y p first second h i j l m =
      let whole = item_arrow x frame place (form.if_of at (value t) (code positive) (code negative)) in
      let c_room = (value {O = ℕ} t).needs.room x.measures in
      let x_room = (code {O = ℕ} positive).needs.room x.measures in
      let y_room = (code {O = ℕ} negative).needs.room x.measures in
      let taken : Environment → Arrow ℕ = λ e. (code positive).run (level_at x e) (env_at frame e) ((e.base + place) + c_room) in
      let skipped : Environment → Arrow ℕ = λ e. (code negative).run (level_at x e) (env_at frame e) ((e.base + place) + (c_room + x_room)) in
      walks_by room whole (c_room + (x_room + y_room)) a g ss ts place second.next
      (three place y.next first.next second.next c_room x_room y_room h.after j.after l.after)
      (splits_close room a b f g ss y.over y.on (first.states ++ second.states) ts (on_top (branched at x.log taken skipped))
      (by_arrow whole) (h.splits (branched at x.log taken skipped))
      (goes_branch room at x.log b c d f y.on first.states second.states p taken skipped i
      (goes_at (code positive) c d p.yes place y.next c_room first h.after j)
      (goes_at (code negative) d f p.no place first.next (c_room + x_room) second (both place y.next first.next c_room x_room h.after j.after) l))
      m)
    where
      both : (place p q c x : ℕ) → p ≡ place + c → q ≡ p + x → q ≡ place + (c + x)
      both place p q c x h i = omega (arith, h, i)

      three : (place p q r c x y : ℕ) → p ≡ place + c → q ≡ p + x → r ≡ q + y → r ≡ place + (c + (x + y))
      three place p q r c x y h i j = omega (arith, h, i, j)

-- ---- what code is

pub walks_as : (x : Around) (frame : List Placed) (room : ℕ) (i j : Item ℕ) (a b : List Shape) (ss : List State) (place : ℕ)
    (r : Result Coded WalkFault) → i ≡ j
    → IfOk r (λ y. WalksItem x frame room j a b ss place y)
    → IfOk r (λ y. WalksItem x frame room i a b ss place y)
walks_as x frame room i j a b ss place r is h =
    subst (λ q. IfOk r (λ y. WalksItem x frame room q a b ss place y)) (sym is) h
