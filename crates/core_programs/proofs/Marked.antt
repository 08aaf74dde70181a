-- What stands at the tokens of a function's core is what stands at those of the function.
use Rattle.std.proofs.Common.{◌≡◌, ℕ, List, [], ◌∷◌, Option, Some, None, refl, sym, ap, ◌∙◌, subst}
use Rattle.std.specs.Prelude.{Bool, true, false, cond, slice_get}
use Rattle.c_language.specs.Scopes.{Name}
use Rattle.c_means.specs.Marks.{Mark, Enters}
use Rattle.c_means.specs.Items as runs
use Rattle.c_means.specs.Parts as c
use Rattle.c_means.specs.Programs.{Function, functions_of, function_named}
use Rattle.c_means.specs.Rules.{Rules, LogCall, IdentityCall, BodyCall, LibraryCall, PreludeCall, OutsideCall}
use Rattle.c_means.specs.Rules.{log_of, identity_index, library_of, callee_taking}
use Rattle.c_means.specs.Runs as whole
use Rattle.c_means.specs.Units.{silent}
use Rattle.std.proofs.Math.Path.{fun_ext}
use Rattle.core_tree.specs.declared.program.Core.{Core}
use Rattle.core_tree.specs.declared.program.Function.{Function as CoreFunction}
use Rattle.core_tree.specs.Programs.{body_of, level_of, machine}
use Rattle.core_tree.specs.States.{Output, plain}
use Rattle.core_marks.specs.Programs.{function_marks}
use Rattle.elaborate.specs.Means.{AreNamed, IsBodyOf, Like, SameMarks}
use Rattle.elaborate.specs.Tokens.{all_told}
use Rattle.elaborate.proofs.Bodies.{room_same, size_same}
use Rattle.elaborate.proofs.Levels.{levels_like}
use Rattle.core_programs.specs.Marked.{Told, level_in, name_if, name_in, told_in, told_of}
use Rattle.core_programs.specs.Programs.{machine_for}
use Rattle.core_programs.specs.Numberings.{Numbers, number_by, numbering_of, placed, IsFunctionOf, AreFunctions}
use Rattle.core_programs.proofs.Machines.{body_found, prelude_found, prelude_named, none_some, some_same, is_machine}

abbrev pub told_as : Name → List Mark → (c.Limits → ℕ → ℕ) → (c.Limits → ℕ → ℕ) → Told
told_as name marks size room = record { name = name; marks = marks; size = size; room = room }

pub told_same : {a b : Name} {ms ns : List Mark} {s t r q : c.Limits → ℕ → ℕ} → a ≡ b → ms ≡ ns → s ≡ t → r ≡ q
    → told_as a ms s r ≡ told_as b ns t q
told_same {a = a} {b = b} {ms = ms} {ns = ns} {s = s} {t = t} {r = r} {q = q} same marks size room =
    ap (λ (a : Name). told_as a ms s r) same ∙ ap (λ (ms : List Mark). told_as b ms s r) marks
    ∙ ap (λ (s : c.Limits → ℕ → ℕ). told_as b ns s r) size ∙ ap (λ (r : c.Limits → ℕ → ℕ). told_as b ns t r) room

module _ (m : whole.Machine) (ns : Numbers) (p : Core) (h : AreFunctions m ns p) where
  name_of : (f : Function) (n : ℕ) (is_prelude : Bool) → IsFunctionOf m ns p f n is_prelude → name_in p n ≡ f.name
  name_of f n is_prelude x = ap name_if x.found ∙ x.name

  entered : (f : Function) (g : c.Site) (rule : Rules Function) → whole.rule_of m g ≡ rule → (n : ℕ)
      → number_by ns g.callee.name rule ≡ Some n → Enters g.at (name_in p n) ∷ [] ≡ whole.marks_by m f g rule
  entered f g (LogCall text) is n e = absurd (none_some e)
  entered f g (IdentityCall i) is n e = absurd (none_some e)
  entered f g (BodyCall b) is n e =
      let named = body_found (log_of m.profile g.callee.name) (identity_index m.profile g.callee.name)
      (function_named (functions_of m.program) g.callee.name) (library_of g)
      (whole.prelude_of m (callee_taking g) g.callee.name) b is in
      ap (λ a. Enters g.at a ∷ []) (ap (name_in p) (sym (some_same (ns.source g.callee.name) n e))
      ∙ name_of b (ns.source g.callee.name) false (h.source g.callee.name b named))
  entered f g (LibraryCall x) is n e = absurd (none_some e)
  entered f g (PreludeCall b) is n e =
      let named = prelude_named (callee_taking g) (function_named m.prelude g.callee.name) b
      (prelude_found (log_of m.profile g.callee.name) (identity_index m.profile g.callee.name)
      (function_named (functions_of m.program) g.callee.name) (library_of g)
      (whole.prelude_of m (callee_taking g) g.callee.name) b is) in
      ap (λ a. Enters g.at a ∷ []) (ap (name_in p) (sym (some_same (ns.prelude g.callee.name) n e))
      ∙ name_of b (ns.prelude g.callee.name) true (h.prelude g.callee.name b named))
  entered f g OutsideCall is n e = absurd (none_some e)

  all_named : (f : Function) (turns : ℕ) → AreNamed (numbering_of m ns f) (name_in p) (whole.level_of m 0 f turns)
  unfolding whole.level_of
  all_named f turns g n e = entered f g (whole.rule_of m g) refl n e

  -- of a function of the source
  pub source_marked : (f : Function) (x : CoreFunction) → x.is_prelude ≡ false
      → SameMarks (numbering_of m ns f) (function_marks x) f.body.marks
      → all_told (name_in p) (function_marks x) ≡ whole.function_marks m f
  source_marked f x kind same =
      let turns = m.limits.turns in
      let k = machine_for m p in
      same.are (name_in p) (whole.level_of m 0 f turns) (level_of k 0 x)
      (levels_like (numbering_of m ns) m k (is_machine m ns p h m.world m.limits m.depth) 0 f turns x
      (ap (λ b. cond b m.limits.texts m.limits.turns) kind)) (all_named f turns)

  -- its levels of calls, within any limits
  like_at : (f : Function) (x : CoreFunction) → x.is_prelude ≡ false → (limits : c.Limits) (n : ℕ)
      → Like (numbering_of m ns f) (level_in m limits n f) (level_of (machine plain p silent limits 0) n x)
  like_at f x kind limits n =
      levels_like (numbering_of m ns) (placed m silent limits 0) (machine plain p silent limits 0)
      (is_machine m ns p h silent limits 0) n f limits.turns x (ap (λ b. cond b limits.texts limits.turns) kind)

  pub source_told : (f : Function) (x : CoreFunction) (i : runs.Item) → x.is_prelude ≡ false → x.name ≡ f.name
      → SameMarks (numbering_of m ns f) (function_marks x) f.body.marks
      → IsBodyOf (numbering_of m ns f) (body_of {O = Output} x) f i → told_in p x ≡ told_of m f
  source_told f x i kind name same is_body =
      told_same name (source_marked f x kind same)
      (fun_ext (λ limits. fun_ext (λ n. size_same (numbering_of m ns f) (body_of x) f i is_body (level_in m limits n f)
      (level_of (machine plain p silent limits 0) n x) (like_at f x kind limits n))))
      (fun_ext (λ limits. fun_ext (λ n. room_same (numbering_of m ns f) (body_of x) f i is_body (level_in m limits n f)
      (level_of (machine plain p silent limits 0) n x) (like_at f x kind limits n))))
