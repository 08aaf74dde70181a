-- How the functions of a program are numbered in its core, and what a call of one of them is then.
use Rattle.std.specs.Prelude.{◌≡◌, ℕ, ◌+◌, Bool, true, false, [], Option, Some, None, slice_get}
use Rattle.c_language.specs.Scopes.{Name}
use Rattle.c_means.specs.Parts.{State, Env}
use Rattle.c_means.specs.Parts as c
use Rattle.c_means.specs.Items as runs
use Rattle.c_means.specs.Calls.{log_call, log_pieces, pointers_in, identity_call, library_call, outside_call}
use Rattle.c_means.specs.Calls.{log_marks, library_marks, fill_marks}
use Rattle.c_means.specs.Programs.{Function, functions_of, function_named, watched_lasting}
use Rattle.c_means.specs.Rules.{Rules, LogCall, IdentityCall, BodyCall, LibraryCall, PreludeCall, OutsideCall}
use Rattle.c_means.specs.Rules.{identity_index, fill_of}
use Rattle.c_means.specs.Runs as whole
use Rattle.core_tree.specs.declared.program.Core.{Core}
use Rattle.core_tree.specs.declared.program.Function.{Function as CoreFunction}
use Rattle.core_tree.specs.States.{Output}
use Rattle.core_tree.specs.Programs.{body_of}
use Rattle.core_marks.specs.Programs.{function_marks}
use Rattle.elaborate.specs.Means.{Numbering, Ruling, SameMarks, IsBodyOf}

-- the numbers of the functions of the source and of those of the prelude, by name; that of a name which is no
-- function's is of no account
pub record Numbers : Type 0 where
  pub source : Name → ℕ
  pub prelude : Name → ℕ

-- a program in a world and bounds
abbrev pub placed : whole.Machine → c.World → c.Limits → ℕ → whole.Machine
placed m world limits depth = record m { world = world; limits = limits; depth = depth }

-- ---- calls

-- what a call by rule does; where the function that calls is this one
abbrev pub ruling_by : whole.Machine → Function → c.Site → Rules Function → Option Ruling
ruling_by m f g (LogCall text) = Some (record {
  room = 4 + pointers_in (log_pieces text g);
  marks = log_marks (watched_lasting m.program.scope f) text g;
  acts = λ world limits env vs base d. log_call (whole.bare (placed m world limits 0) 0)
      (watched_lasting m.program.scope f) text g env vs base d;
})
ruling_by m f g (IdentityCall i) = Some (record {
  room = 4;
  marks = [];
  acts = λ world limits env vs base d. identity_call i g vs d;
})
ruling_by m f g (BodyCall h) = None
ruling_by m f g (LibraryCall x) = Some (record {
  room = 4;
  marks = library_marks x g;
  acts = λ world limits env vs base d. library_call (whole.bare (placed m world limits 0) 0) x g vs base d;
})
ruling_by m f g (PreludeCall h) = None
ruling_by m f g OutsideCall = Some (record {
  room = 4;
  marks = fill_marks (fill_of m.profile g.callee.name) g;
  acts = λ world limits env vs base d. outside_call (whole.bare (placed m world limits 0) 0)
      (fill_of m.profile g.callee.name) (whole.is_never_null m g) g vs base d;
})

-- the number of the function whose body a call runs
abbrev pub number_by : Numbers → Name → Rules Function → Option ℕ
number_by ns name (LogCall text) = None
number_by ns name (IdentityCall i) = None
number_by ns name (BodyCall h) = Some (ns.source name)
number_by ns name (LibraryCall x) = None
number_by ns name (PreludeCall h) = Some (ns.prelude name)
number_by ns name OutsideCall = None

-- what the calls in a function are
abbrev pub numbering_of : whole.Machine → Numbers → Function → Numbering
numbering_of m ns f = record {
  place = whole.places_of m.program;
  identity = identity_index m.profile;
  body = λ g. number_by ns g.callee.name (whole.rule_of m g);
  rule = λ g. ruling_by m f g (whole.rule_of m g);
}

-- ---- functions

-- the core's function of a number is the core of this one, of the source or of the prelude
pub record IsFunctionOf (m : whole.Machine) (ns : Numbers) (p : Core) (f : Function) (n : ℕ) (is_prelude : Bool) : Type 0
  where
    pub function : CoreFunction
    pub found : slice_get p.functions n ≡ Some function
    pub kind : function.is_prelude ≡ is_prelude
    pub name : function.name ≡ f.name
    pub item : runs.Item
    pub is_body : IsBodyOf (numbering_of m ns f) (body_of {O = Output} function) f item
    pub marks : SameMarks (numbering_of m ns f) (function_marks function) f.body.marks

-- each function has its core at its number
pub record AreFunctions (m : whole.Machine) (ns : Numbers) (p : Core) : Type 0 where
  pub source : (name : Name) (f : Function) → function_named (functions_of m.program) name ≡ Some f
      → IsFunctionOf m ns p f (ns.source name) false
  pub prelude : (name : Name) (f : Function) → function_named m.prelude name ≡ Some f
      → IsFunctionOf m ns p f (ns.prelude name) true
