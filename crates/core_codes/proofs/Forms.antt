-- What is made of each form of statement is its core, where what is made of its parts is theirs.
use Rattle.std.proofs.Common.{◌≡◌, ℕ, ◌+◌, ℤ, Bool, true, false, List, [], ◌∷◌, ◌++◌, Option, Some, None, refl, sym}
use Rattle.std.proofs.Common.{ap, ap₂, ◌∙◌, subst}
use Rattle.c_language.specs.declared.ctype.IntegerKind.{IntegerKind}
use Rattle.c_language.specs.declared.shown.Told.{Told}
use Rattle.c_language.specs.Scopes.{Name, Scope, enter, leave}
use Rattle.c_language.specs.Typing.{type_in, value_in, used_told}
use Rattle.c_means.specs.Operators.{kind_in}
use Rattle.c_means.specs.Notes.{Noted, ExprNoted}
use Rattle.c_means.specs.Items.{Item, Case, Label}
use Rattle.c_means.specs.Items as runs
use Rattle.c_means.specs.Statements as statements
use Rattle.core_tree.specs.declared.code.Code.{Code}
use Rattle.core_tree.specs.declared.code.Code.TheVariants as code
use Rattle.core_tree.specs.declared.expr.Expr.{Expr}
use Rattle.core_tree.specs.declared.expr.Expr.TheVariants as expr
use Rattle.core_tree.specs.declared.program.LastingSetting.{LastingSetting}
use Rattle.core_marks.specs.Marks.{code_marks, items_marks, value_marks}
use Rattle.elaborate.specs.Means.{Numbering, SameMarks, IsValueOf, IsCodeOf}
use Rattle.elaborate.specs.Types.{word_type}
use Rattle.elaborate.proofs.Codes.{bare_return_code, if_code, while_code, do_code}
use Rattle.elaborate.proofs.Codes.{no_item, goto_code, continue_code, break_code}
use Rattle.core_forms.proofs.Marks.{no_marks}
use Rattle.code_forms.specs.Nodes.{negative_node}
use Rattle.code_forms.specs.Contents.{AreCodesOf, value_if, case_values}
use Rattle.code_forms.proofs.Statements.{returned_code, compound_code, content_code, bare_if_code, switch_content}
use Rattle.code_forms.proofs.Statements.{turns_code, for_code}
use Rattle.code_forms.proofs.Turns.{alone_codes, joined_codes}
use Rattle.code_forms.proofs.Marks.{alone_marks, both_marks, block_marks, for_marks, if_marks, switch_marks}
use Rattle.code_forms.proofs.Marks.{tested_marks, loop_marks, repeat_marks, returned_marks, nothing_marks}
use Rattle.code_forms.proofs.Marks.{goto_marks, continue_marks, break_marks, bare_return_marks}
use Rattle.core_codes.specs.declared.context.Context.{Context}
use Rattle.core_codes.specs.declared.made.Body.{Body}
use Rattle.core_codes.specs.declared.made.Made.{Made}
use Rattle.core_codes.specs.declared.made.SubBlock.{SubBlock}
use Rattle.core_codes.specs.declared.parts.Valued.{Valued}
use Rattle.core_codes.specs.declared.pieces.ForBegun.{ForBegun}
use Rattle.core_codes.specs.declared.pieces.IfBegun.{IfBegun}
use Rattle.core_codes.specs.Made.{Around, context_in, Returns, IsMade, IsContent, IsSub, IsIfBegun, joined}
use Rattle.core_codes.specs.Parts.{IsValued, IsForBegun, MaybeWorth, MaybeDone, alone, bare, effect_node, return_node}
use Rattle.core_codes.specs.Parts.{or_nothing, round_first, labeled_made, case_made}
use Rattle.core_codes.specs.Settings.{AreAllSet}
use Rattle.core_codes.proofs.Settings.{none_set, none_set_of, both_set, set_alone, loop_set}
use Rattle.core_codes.proofs.Labels.{label_first, default_first, case_first, label_marks, default_marks, case_same}
use Rattle.core_codes.proofs.LoopParts.{tested, stepped, first_after, effect_code, effect_same, value_has_none}
use Rattle.core_codes.proofs.LoopParts.{test_has_none}

-- a block within, and more labels
abbrev pub within : Context → Context
within x = record x { compared = None }

abbrev with_labels : List Label → Around → Around
with_labels labels a = record a { labels = a.labels ++ labels }

abbrev in_a_loop : Around → Around
in_a_loop a = record a { breaks = true; continues = true }

abbrev in_a_switch : Around → Around
in_a_switch a = record a { breaks = true }

-- ---- what is made

-- what stands in the block that a statement is
abbrev pub body_of : Bool → Made → Body
body_of b made = record {
  content = record { is_compound = b; items = made.codes; cases = made.cases };
  settings = made.settings;
}

-- the block that a substatement is
abbrev pub block_around : Body → SubBlock
block_around z = record { code = code.Block z.content.is_compound z.content.items; settings = z.settings }

abbrev pub switch_node : ℕ → IntegerKind → Valued → Body → Code
switch_node at kind v z =
    code.Switch at (word_type kind) z.content.cases v.value z.content.is_compound z.content.items

abbrev pub for_node : ℕ → ForBegun → SubBlock → Code
for_node at g c = code.Block false (g.first.codes ++ code.Loop at g.condition g.step c.code ∷ [])

module _ (numbering : Numbering) (x : Context) (s : Scope) where
  -- ---- one item

  one_made : (f : runs.Context → Item) (y : Made) (c : Code) (zs : List ℤ) (xs : List LastingSetting) (t : Scope)
      → y ≡ alone c zs xs
      → ((a : Around) → Returns x a → IsCodeOf numbering c (f (context_in x s a)))
      → ((a : Around) → Returns x a → SameMarks numbering (code_marks c) (f (context_in x s a)).marks)
      → ((a : Around) → Returns x a → zs ≡ case_values (f (context_in x s a)).cases)
      → ((a : Around) → Returns x a → AreAllSet numbering xs (f (context_in x s a)).lasting)
      → ((a : Around) → Returns x a → t ≡ (f (context_in x s a)).after) → IsMade numbering x s f y t
  one_made f y c zs xs t is h m g k r = subst (λ y. IsMade numbering x s f y t) (sym is) (record {
    codes = λ a e. alone_codes numbering c (f (context_in x s a)) (h a e);
    cases = g;
    lasting = k;
    after = r;
    marks = λ a e. alone_marks numbering c (m a e);
  })

  -- ---- blocks

  pub on_block : (items : List runs.Code) (made y : Made) (t : Scope)
      → IsMade numbering (within x) (enter s) (runs.in_turn items) made t
      → y ≡ alone (code.Block true made.codes) [] made.settings
      → IsMade numbering x s (statements.compound items).here y (leave t)
  on_block items made y t h is =
      one_made (statements.compound items).here y (code.Block true made.codes) [] made.settings (leave t) is
      (λ a e. compound_code numbering made.codes
      (runs.in_turn items (context_in (within x) (enter s) (with_labels (runs.labels_of items) a)))
      (h.codes (with_labels (runs.labels_of items) a) e))
      (λ a e. block_marks numbering true made.codes (h.marks (with_labels (runs.labels_of items) a) e))
      (λ a e. refl) (λ a e. h.lasting (with_labels (runs.labels_of items) a) e)
      (λ a e. ap leave (h.after (with_labels (runs.labels_of items) a) e))

  -- what stands in a compound statement
  pub on_compound_content : (items : List runs.Code) (made : Made) (y : Body) (t : Scope)
      → IsMade numbering x s (runs.in_turn items) made t
      → y ≡ body_of true made
      → IsContent numbering x s (statements.compound items).content y t
  on_compound_content items made y t h is =
      subst (λ y. IsContent numbering x s (statements.compound items).content y t) (sym is) (record {
        content = λ a e. record {
          inside = runs.in_turn items (context_in x s a);
          is = refl;
          items = h.codes a e;
          cases = h.cases a e;
          marks = h.marks a e;
        };
        lasting = h.lasting;
        after = h.after;
      })

  -- what stands in the block that any other statement is
  pub on_other_content : (f : runs.Context → Item) (made : Made) (y : Body) (t : Scope)
      → IsMade numbering x s f made t → y ≡ body_of false made
      → IsContent numbering x s f y t
  on_other_content f made y t h is = subst (λ y. IsContent numbering x s f y t) (sym is) (record {
    content = λ a e. record {
      inside = f (context_in x s a);
      is = refl;
      items = h.codes a e;
      cases = h.cases a e;
      marks = h.marks a e;
    };
    lasting = h.lasting;
    after = h.after;
  })

  -- the block that a substatement is
  pub on_sub : (b : runs.Code) (z : Body) (y : SubBlock) (t : Scope)
      → IsContent numbering (within x) (enter s) b.content z t → y ≡ block_around z
      → IsSub numbering x s (runs.sub b) y (leave t)
  on_sub b z y t h is = subst (λ y. IsSub numbering x s (runs.sub b) y (leave t)) (sym is) (record {
    code = λ a e. content_code numbering z.content (b.content (context_in (within x) (enter s) (with_labels b.own a)))
        (h.content (with_labels b.own a) e);
    lasting = λ a e. h.lasting (with_labels b.own a) e;
    after = λ a e. ap leave (h.after (with_labels b.own a) e);
    marks = λ a e. block_marks numbering z.content.is_compound z.content.items
        (h.content (with_labels b.own a) e).marks;
  })

  -- no item
  pub on_nothing : (y : Made) → y ≡ record { codes = []; cases = []; settings = [] }
      → IsMade numbering x s (runs.in_turn []) y s
  on_nothing y is = subst (λ y. IsMade numbering x s (runs.in_turn []) y s) (sym is) (record {
    codes = λ a e. no_items;
    cases = λ a e. refl;
    lasting = λ a e. none_set numbering;
    after = λ a e. refl;
    marks = λ a e. no_marks numbering;
  }) where
    no_items : AreCodesOf numbering [] (runs.nothing s)
    no_items = no_item numbering s

  -- ---- statements without substatements

  pub on_value : (e : Option Expr) (f : Option ExprNoted) (y : Made) (t : Scope) → MaybeDone numbering e f s t
      → y ≡ bare (effect_node e)
      → IsMade numbering x s (λ c. runs.node (statements.maybe_value f c.scope)) y t
  on_value e f y t h is =
      one_made (λ c. runs.node (statements.maybe_value f c.scope)) y (effect_node e) [] [] t is
      (λ a r. effect_code numbering e f s t h) (λ a r. effect_same numbering e f s t h) (λ a r. gives_none f)
      (λ a r. none_set_of numbering (runs.node (statements.maybe_value f s)).lasting (value_has_none f s))
      (λ a r. first_after numbering e f s t h)
    where
      gives_none : (f : Option ExprNoted) → [] ≡ case_values (runs.node (statements.maybe_value f s)).cases
      gives_none None = refl
      gives_none (Some f) = refl

  pub on_return : (at : ℕ) (e : Option Expr) (f : Option ExprNoted) (y : Made) (t : Scope)
      → MaybeWorth numbering e f s t → y ≡ bare (return_node x.returned e)
      → IsMade numbering x s (statements.return_of at f) y t
  on_return at None None y t h is =
      one_made (statements.return_of at None) y (code.Return None) [] [] t is
      (λ a r. bare_return_code numbering at (context_in x s a)) (λ a r. bare_return_marks numbering) (λ a r. refl)
      (λ a r. none_set numbering) (λ a r. h)
  on_return at None (Some f) y t h is = absurd h
  on_return at (Some e) None y t h is = absurd h
  on_return at (Some e) (Some f) y t h is =
      one_made (statements.return_of at (Some f)) y (code.Return (Some (expr.Convert x.returned e))) [] [] t is
      (λ a r. returned_code numbering at e x.returned (f s) (context_in x s a) r h.value)
      (λ a r. returned_marks numbering x.returned e h.marks) (λ a r. refl)
      (λ a r. none_set numbering) (λ a r. h.after)

  pub on_goto : (at : ℕ) (name : Name) (y : Made) → y ≡ bare (code.Goto name)
      → IsMade numbering x s (statements.goto_of at name) y s
  on_goto at name y is =
      one_made (statements.goto_of at name) y (code.Goto name) [] [] s is
      (λ a r. goto_code numbering at name (context_in x s a)) (λ a r. goto_marks numbering name) (λ a r. refl)
      (λ a r. none_set numbering) (λ a r. refl)

  pub on_continue : (at : ℕ) (y : Made) → y ≡ bare code.Continue
      → IsMade numbering x s (statements.continue_of at) y s
  on_continue at y is =
      one_made (statements.continue_of at) y code.Continue [] [] s is
      (λ a r. continue_code numbering at (context_in x s a)) (λ a r. continue_marks numbering) (λ a r. refl)
      (λ a r. none_set numbering) (λ a r. refl)

  pub on_break : (at : ℕ) (y : Made) → y ≡ bare code.Break → IsMade numbering x s (statements.break_of at) y s
  on_break at y is =
      one_made (statements.break_of at) y code.Break [] [] s is
      (λ a r. break_code numbering at (context_in x s a)) (λ a r. break_marks numbering) (λ a r. refl)
      (λ a r. none_set numbering) (λ a r. refl)

  -- ---- labeled statements

  -- a labeled statement, whose label stands at the first of its items
  labeled_made_is : (f : runs.Context → Item) (g : Code → Code) (zs : List ℤ) (body y : Made) (t : Scope)
      → y ≡ labeled_made g zs body
      → ((a : Around) → Returns x a → AreCodesOf numbering (round_first g (or_nothing body.codes)) (f (context_in x s a)))
      → ((a : Around) → Returns x a
      → SameMarks numbering (items_marks (round_first g (or_nothing body.codes))) (f (context_in x s a)).marks)
      → ((a : Around) → Returns x a → zs ≡ case_values (f (context_in x s a)).cases)
      → ((a : Around) → Returns x a → AreAllSet numbering body.settings (f (context_in x s a)).lasting)
      → ((a : Around) → Returns x a → t ≡ (f (context_in x s a)).after) → IsMade numbering x s f y t
  labeled_made_is f g zs body y t is h m c k r =
      subst (λ y. IsMade numbering x s f y t) (sym is) (record {
        codes = h;
        cases = c;
        lasting = k;
        after = r;
        marks = m;
      })

  pub on_label : (at : ℕ) (name : Name) (b : runs.Code) (body y : Made) (t : Scope)
      → IsMade numbering x s b.here body t → y ≡ labeled_made (code.Label name) body.cases body
      → IsMade numbering x s (statements.labeled at name b).here y t
  on_label at name b body y t h is =
      labeled_made_is (statements.labeled at name b).here (code.Label name) body.cases body y t is
      (λ a r. let c = label_first numbering name body.codes (b.here (context_in x s a)) (h.codes a r) in
      record { size = c.size; room = c.room; objects = c.objects; runs = c.runs })
      (λ a r. label_marks numbering name body.codes (h.marks a r))
      h.cases h.lasting h.after

  pub on_default : (at : ℕ) (b : runs.Code) (body y : Made) (t : Scope) → IsMade numbering x s b.here body t
      → y ≡ labeled_made code.Default body.cases body → IsMade numbering x s (statements.default_labeled at b).here y t
  on_default at b body y t h is =
      labeled_made_is (statements.default_labeled at b).here code.Default body.cases body y t is
      (λ a r. let c = default_first numbering body.codes (b.here (context_in x s a)) (h.codes a r) in
      record { size = c.size; room = c.room; objects = c.objects; runs = c.runs })
      (λ a r. default_marks numbering body.codes (h.marks a r))
      h.cases h.lasting h.after

  -- a case, by its value as the `switch` compares it
  abbrev case_with : ℕ → Noted → Option ℤ → runs.Code → runs.Context → Item
  case_with at n o b c =
      let i = runs.with_breaches (statements.case_breaches at n c)
      (statements.case_of at n o (b.here (runs.in_scope n.part.typed.after c))) in
      record i { calls = n.notes.calls ++ i.calls }

  valued_case : (at : ℕ) (n : Noted) (o : Option ℤ) (e : Expr) (b : runs.Code) (body y : Made) (t : Scope)
      → IsValueOf numbering e n.part → SameMarks numbering (value_marks e) n.part.marks
      → IsMade numbering x n.part.typed.after b.here body t
      → y ≡ case_made o e body → IsMade numbering x s (case_with at n o b) y t
  valued_case at n None e b body y t g v h is =
      subst (λ y. IsMade numbering x s (case_with at n None b) y t) (sym is) (record {
        codes = λ a r. let c = h.codes a r in
            record { size = c.size; room = c.room; objects = c.objects; runs = c.runs };
        cases = h.cases;
        lasting = h.lasting;
        after = h.after;
        marks = h.marks;
      })
  valued_case at n (Some z) e b body y t g v h is =
      labeled_made_is (case_with at n (Some z) b) (code.Case z e) (z ∷ body.cases) body y t is
      (λ a r. let c = case_first numbering z e n.part body.codes (b.here (context_in x n.part.typed.after a)) g
      (h.codes a r) in
      record { size = c.size; room = c.room; objects = c.objects; runs = c.runs })
      (λ a r. case_same numbering z e body.codes v (h.marks a r))
      (λ a r. ap (λ zs. z ∷ zs) (h.cases a r)) h.lasting h.after

  pub on_case : (at : ℕ) (f : ExprNoted) (v : Valued) (t : Scope) (o : Option ℤ) (b : runs.Code) (body y : Made)
      (u : Scope) → IsValued numbering v (f s) t → o ≡ statements.case_value x.compared (value_in v.told.shown)
      → IsMade numbering x t b.here body u → y ≡ case_made o v.value body
      → IsMade numbering x s (statements.case_labeled at f b).here y u
  on_case at f v t o b body y u g q h is =
      let compared = q ∙ ap (λ (d : Told). statements.case_value x.compared (value_in d.shown)) g.told in
      let m = subst (λ o. IsMade numbering x s (case_with at (f s) o b) y u) compared
      (valued_case at (f s) o v.value b body y u g.value g.marks
      (subst (λ t. IsMade numbering x t b.here body u) g.after h) is) in
      record { codes = m.codes; cases = m.cases; lasting = m.lasting; after = m.after; marks = m.marks }

  -- ---- selection

  pub on_if : (at : ℕ) (f : ExprNoted) (b : runs.Code) (g : IfBegun) (y : Made) (u : Scope)
      → IsIfBegun numbering x s f b g u
      → y ≡ alone (code.If at g.condition g.positive.code (negative_node None)) [] (g.positive.settings ++ [])
      → IsMade numbering x s (statements.if_of at f b None).here y (leave u)
  on_if at f b g y u h is =
      let n = f (enter s) in
      let k = subst (λ t. IsSub numbering x t (runs.sub b) g.positive u) h.tests.after h.positive in
      one_made (statements.if_of at f b None).here y (code.If at g.condition g.positive.code (negative_node None)) []
      (g.positive.settings ++ []) (leave u) is
      (λ a r. bare_if_code numbering at g.condition g.positive.code n
      (runs.sub b (context_in x n.part.typed.after a))
      (runs.sub b (context_in x n.part.typed.after a)).after h.tests.value (k.code a r))
      (λ a r. if_marks numbering at g.condition g.positive.code (code.Nothing false) h.tests.marks (k.marks a r)
      (nothing_marks numbering false))
      (λ a r. refl)
      (λ a r. both_set numbering g.positive.settings [] (runs.sub b (context_in x n.part.typed.after a)).lasting []
      (k.lasting a r) (none_set numbering))
      (λ a r. ap leave (k.after a r))

  pub on_if_else : (at : ℕ) (f : ExprNoted) (b : runs.Code) (g : IfBegun) (u : Scope) (b' : runs.Code) (c : SubBlock)
      (y : Made) (w : Scope) → IsIfBegun numbering x s f b g u → IsSub numbering x u (runs.sub b') c w
      → y ≡ alone (code.If at g.condition g.positive.code (negative_node (Some c.code))) []
      (g.positive.settings ++ c.settings)
      → IsMade numbering x s (statements.if_of at f b (Some b')).here y (leave w)
  on_if_else at f b g u b' c y w h h' is =
      let n = f (enter s) in
      let k = subst (λ t. IsSub numbering x t (runs.sub b) g.positive u) h.tests.after h.positive in
      one_made (statements.if_of at f b (Some b')).here y (code.If at g.condition g.positive.code c.code) []
      (g.positive.settings ++ c.settings) (leave w) is
      (λ a r. let first = runs.sub b (context_in x n.part.typed.after a) in
      if_code numbering at g.condition g.positive.code c.code n first (runs.sub b' (context_in x first.after a))
      h.tests.value (k.code a r)
      (subst (λ u. IsCodeOf numbering c.code (runs.sub b' (context_in x u a))) (k.after a r) (h'.code a r)))
      (λ a r. if_marks numbering at g.condition g.positive.code c.code h.tests.marks (k.marks a r)
      (subst (λ u. SameMarks numbering (code_marks c.code) (runs.sub b' (context_in x u a)).marks) (k.after a r)
      (h'.marks a r)))
      (λ a r. refl)
      (λ a r. let first = runs.sub b (context_in x n.part.typed.after a) in
      both_set numbering g.positive.settings c.settings first.lasting
      (runs.sub b' (context_in x first.after a)).lasting (k.lasting a r)
      (subst (λ u. AreAllSet numbering c.settings (runs.sub b' (context_in x u a)).lasting) (k.after a r)
      (h'.lasting a r)))
      (λ a r. ap leave (h'.after a r ∙ ap (λ u. (runs.sub b' (context_in x u a)).after) (k.after a r)))

  -- the block of a `switch` that compares in this type
  abbrev choosing : IntegerKind → Context
  choosing kind = record x { compared = Some kind }

  pub on_switch : (at : ℕ) (f : ExprNoted) (v : Valued) (t : Scope) (kind : IntegerKind) (b : runs.Code) (z : Body)
      (y : Made) (u : Scope) → IsValued numbering v (f (enter s)) t
      → kind ≡ statements.compared_in (kind_in (type_in (used_told t.tables v.told).shown))
      → IsContent numbering (choosing kind) (enter t) b.content z u
      → y ≡ alone (switch_node at kind v z) [] z.settings
      → IsMade numbering x s (statements.switch_of at f b).here y (leave (leave u))
  on_switch at f v t kind b z y u g q h is =
      let n = f (enter s) in
      let compares = q ∙ ap₂ (λ (t : Scope) (d : Told). statements.compared_in
      (kind_in (type_in (used_told t.tables d).shown))) g.after g.told in
      let k = subst (λ kind. IsContent numbering (choosing kind) (enter n.part.typed.after) b.content z u) compares
      (subst (λ t. IsContent numbering (choosing kind) (enter t) b.content z u) g.after h) in
      one_made (statements.switch_of at f b).here y
      (switch_node at (statements.switch_kind n) v z) [] z.settings (leave (leave u))
      (is ∙ ap (λ kind. alone (switch_node at kind v z) [] z.settings) compares)
      (λ a r. switch_content numbering at v.value n z.content
      (b.content (context_in (choosing (statements.switch_kind n)) (enter n.part.typed.after)
      (with_labels b.own (in_a_switch a)))) g.value (k.content (with_labels b.own (in_a_switch a)) r))
      (λ a r. switch_marks numbering at (word_type (statements.switch_kind n)) v.value z.content
      (b.content (context_in (choosing (statements.switch_kind n)) (enter n.part.typed.after)
      (with_labels b.own (in_a_switch a)))) g.marks (k.content (with_labels b.own (in_a_switch a)) r))
      (λ a r. refl) (λ a r. k.lasting (with_labels b.own (in_a_switch a)) r)
      (λ a r. ap (λ u. leave (leave u)) (k.after (with_labels b.own (in_a_switch a)) r))

  -- ---- iteration

  pub on_while : (at : ℕ) (f : ExprNoted) (v : Valued) (t : Scope) (b : runs.Code) (c : SubBlock) (y : Made)
      (u : Scope) → IsValued numbering v (f (enter s)) t → IsSub numbering x t (runs.sub b) c u
      → y ≡ alone (code.Loop at (Some v.value) None c.code) [] c.settings
      → IsMade numbering x s (statements.while_of at f b).here y (leave u)
  on_while at f v t b c y u g h is =
      let n = f (enter s) in
      let k = subst (λ t. IsSub numbering x t (runs.sub b) c u) g.after h in
      one_made (statements.while_of at f b).here y (code.Loop at (Some v.value) None c.code) [] c.settings (leave u) is
      (λ a r. let inside = runs.sub b (context_in x n.part.typed.after (in_a_loop a)) in
      while_code numbering at v.value n c.code inside inside.after g.value (k.code (in_a_loop a) r))
      (λ a r. loop_marks numbering at (Some v.value) None c.code (tested_marks numbering at v.value g.marks)
      (no_marks numbering) (k.marks (in_a_loop a) r))
      (λ a r. refl)
      (λ a r. set_alone numbering c.settings (runs.sub b (context_in x n.part.typed.after (in_a_loop a))).lasting
      (k.lasting (in_a_loop a) r))
      (λ a r. ap leave (k.after (in_a_loop a) r))

  pub on_do : (at : ℕ) (b : runs.Code) (c : SubBlock) (t : Scope) (f : ExprNoted) (v : Valued) (y : Made) (u : Scope)
      → IsSub numbering x (enter s) (runs.sub b) c t → IsValued numbering v (f t) u
      → y ≡ alone (code.Repeat at v.value c.code) [] c.settings
      → IsMade numbering x s (statements.do_of at b f).here y (leave u)
  on_do at b c t f v y u h g is =
      one_made (statements.do_of at b f).here y (code.Repeat at v.value c.code) [] c.settings (leave u) is
      (λ a r. let inside = runs.sub b (context_in x (enter s) (in_a_loop a)) in
      do_code numbering at v.value (f inside.after) c.code inside
      (subst (λ t. IsValued numbering v (f t) u) (h.after (in_a_loop a) r) g).value (h.code (in_a_loop a) r))
      (λ a r. repeat_marks numbering at v.value c.code
      (subst (λ t. IsValued numbering v (f t) u) (h.after (in_a_loop a) r) g).marks (h.marks (in_a_loop a) r))
      (λ a r. refl)
      (λ a r. set_alone numbering c.settings (runs.sub b (context_in x (enter s) (in_a_loop a))).lasting
      (h.lasting (in_a_loop a) r))
      (λ a r. ap leave (subst (λ t. IsValued numbering v (f t) u) (h.after (in_a_loop a) r) g).after)

  pub on_for : (at : ℕ) (begins : Scope → Item) (f f' : Option ExprNoted) (g : ForBegun) (t : Scope) (b : runs.Code)
      (c : SubBlock) (y : Made) (u : Scope) → IsForBegun numbering (enter s) begins f f' g t
      → (begins (enter s)).cases ≡ [] → IsSub numbering x t (runs.sub b) c u
      → y ≡ alone (for_node at g c) [] (g.first.settings ++ c.settings)
      → IsMade numbering x s (statements.for_of at begins f f' b).here y (leave u)
  on_for at begins f f' g t b c y u h none k is =
      let i = begins (enter s) in
      let test = tested numbering at g.condition f i.after h.behind_condition
      (subst (λ v. MaybeWorth numbering g.condition f v h.behind_condition) h.begun.after h.tests) in
      let j = statements.maybe_test at f i.after in
      let step = stepped numbering g.step f' j.item.after t
      (subst (λ v. MaybeDone numbering g.step f' v t) test.after h.steps) in
      let m = statements.maybe_value f' j.item.after in
      let l = subst (λ v. IsSub numbering x v (runs.sub b) c u) step.after k in
      one_made (statements.for_of at begins f f' b).here y (for_node at g c) [] (g.first.settings ++ c.settings)
      (leave u) is
      (λ a r. let inside = runs.sub b (context_in x m.after (in_a_loop a)) in
      for_code numbering g.first.codes (code.Loop at g.condition g.step c.code) i
      (record (statements.looped at j inside m) { after = inside.after }) h.begun.codes
      (turns_code numbering at g.condition j g.step m c.code inside inside.after test.tests step.steps
      (l.code (in_a_loop a) r)))
      (λ a r. for_marks numbering g.first.codes (code.Loop at g.condition g.step c.code) h.begun.marks
      (loop_marks numbering at g.condition g.step c.code test.marks step.marks (l.marks (in_a_loop a) r)))
      (λ a r. ap (λ ks. case_values (ks ++ [])) (sym none))
      (λ a r. loop_set numbering g.first.settings c.settings i.lasting j.item.lasting
      (runs.sub b (context_in x m.after (in_a_loop a))).lasting m.lasting (test_has_none at f i.after)
      (value_has_none f' j.item.after) h.begun.lasting (l.lasting (in_a_loop a) r))
      (λ a r. ap leave (l.after (in_a_loop a) r))

  -- ---- one behind the other

  values_joined : (ks ls : List Case) → case_values (ks ++ ls) ≡ case_values ks ++ case_values ls
  values_joined [] ls = refl
  values_joined (k ∷ ks) ls = by_value k.value (values_joined ks ls) where
    by_value : (o : Option ℤ) → case_values (ks ++ ls) ≡ case_values ks ++ case_values ls
        → value_if o (case_values (ks ++ ls)) ≡ value_if o (case_values ks) ++ case_values ls
    by_value None e = e
    by_value (Some z) e = ap (λ zs. z ∷ zs) e

  pub on_items : (b : runs.Code) (bs : List runs.Code) (first more : Made) (t u : Scope)
      → IsMade numbering x s b.here first t → IsMade numbering x t (runs.in_turn bs) more u
      → IsMade numbering x s (runs.in_turn (b ∷ bs)) (joined first more) u
  on_items b bs first more t u h g = record {
    codes = λ a r. let i = b.here (context_in x s a) in
        joined_codes numbering first.codes more.codes i (runs.in_turn bs (context_in x i.after a)) (h.codes a r)
        (subst (λ t. AreCodesOf numbering more.codes (runs.in_turn bs (context_in x t a))) (h.after a r)
        (g.codes a r));
    cases = λ a r. let i = b.here (context_in x s a) in
        ap₂ (λ (zs ws : List ℤ). zs ++ ws) (h.cases a r)
        (subst (λ t. more.cases ≡ case_values (runs.in_turn bs (context_in x t a)).cases) (h.after a r) (g.cases a r))
        ∙ sym (values_joined i.cases (runs.in_turn bs (context_in x i.after a)).cases);
    lasting = λ a r. let i = b.here (context_in x s a) in
        both_set numbering first.settings more.settings i.lasting (runs.in_turn bs (context_in x i.after a)).lasting
        (h.lasting a r)
        (subst (λ t. AreAllSet numbering more.settings (runs.in_turn bs (context_in x t a)).lasting) (h.after a r)
        (g.lasting a r));
    after = λ a r. let i = b.here (context_in x s a) in
        subst (λ t. u ≡ (runs.in_turn bs (context_in x t a)).after) (h.after a r) (g.after a r);
    marks = λ a r. both_marks numbering first.codes more.codes (h.marks a r)
        (subst (λ t. SameMarks numbering (items_marks more.codes) (runs.in_turn bs (context_in x t a)).marks)
        (h.after a r) (g.marks a r));
  }
