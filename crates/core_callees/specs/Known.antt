-- What the calls of a function depend on, and what they are by that.
use Rattle.std.specs.Prelude.{ℕ, ◌+◌, Bool, Option, Some, None, List, []}
use Rattle.plain_data.specs.declared.run.Finish.TheVariants as finish
use Rattle.c_language.specs.declared.scope.Entry.{Entry}
use Rattle.c_language.specs.Scopes.{Name}
use Rattle.c_means.specs.Parts.{Level, Limits, Site, World, entered}
use Rattle.c_means.specs.declared.profile.Profile.{Profile}
use Rattle.c_means.specs.Calls.{finished, log_call, log_pieces, pointers_in, identity_call, library_call, outside_call}
use Rattle.c_means.specs.Calls.{log_marks, library_marks, fill_marks}
use Rattle.c_means.specs.Rules.{Taking, Rules, LogCall, IdentityCall, BodyCall, LibraryCall, PreludeCall, OutsideCall}
use Rattle.c_means.specs.Rules.{rule_by, log_of, identity_index, fill_of, library_of, callee_taking, is_among}
use Rattle.elaborate.specs.Means.{Numbering, Ruling}

-- What is known of functions besides their source; the places of what lives throughout the run, by offset; the number of
-- the core of a name that has a body in the source; the same of a name that is declared with a type, in the prelude; and
-- the variables that live throughout the run that the function names.
pub record Known : Type 0 where
  pub profile : Profile
  pub place : ℕ → ℕ
  pub source : Name → Option ℕ
  pub prelude : Option Taking → Name → Option ℕ
  pub watched : List Entry

-- the rule of a call, where a function with a body is the number of its core
abbrev pub rule_in : Known → Site → Rules ℕ
rule_in x g =
    let name = g.callee.name in
    rule_by (log_of x.profile name) (identity_index x.profile name) (x.source name) (library_of g)
    (x.prelude (callee_taking g) name)

abbrev pub number_in : Rules ℕ → Option ℕ
number_in (LogCall text) = None
number_in (IdentityCall i) = None
number_in (BodyCall n) = Some n
number_in (LibraryCall f) = None
number_in (PreludeCall n) = Some n
number_in OutsideCall = None

abbrev pub is_never_null : Known → Site → Bool
is_never_null x g = is_among g.callee.name x.profile.never_null

-- where a call by rule runs: a call there is one level too many
abbrev pub bare_in : Known → World → Limits → Level
bare_in x world limits = record {
  world = world;
  limits = limits;
  turns = 0;
  static = x.place;
  identity = identity_index x.profile;
  size = λ g. 0;
  room = λ g. 0;
  marks = λ g. [];
  call = λ g env vs base s count. finished (finish.Left g.at) (entered s count);
}

-- what a call by rule does, and what stands at its callee's name
abbrev pub ruling_in : Known → Site → Rules ℕ → Option Ruling
ruling_in x g (LogCall text) = Some (record {
  room = 4 + pointers_in (log_pieces text g);
  marks = log_marks x.watched text g;
  acts = λ world limits env vs base d. log_call (bare_in x world limits) x.watched text g env vs base d;
})
ruling_in x g (IdentityCall i) = Some (record {
  room = 4;
  marks = [];
  acts = λ world limits env vs base d. identity_call i g vs d;
})
ruling_in x g (BodyCall n) = None
ruling_in x g (LibraryCall f) = Some (record {
  room = 4;
  marks = library_marks f g;
  acts = λ world limits env vs base d. library_call (bare_in x world limits) f g vs base d;
})
ruling_in x g (PreludeCall n) = None
ruling_in x g OutsideCall = Some (record {
  room = 4;
  marks = fill_marks (fill_of x.profile g.callee.name) g;
  acts = λ world limits env vs base d. outside_call (bare_in x world limits) (fill_of x.profile g.callee.name)
      (is_never_null x g) g vs base d;
})

abbrev pub numbering_in : Known → Numbering
numbering_in x = record {
  place = x.place;
  identity = identity_index x.profile;
  body = λ g. number_in (rule_in x g);
  rule = λ g. ruling_in x g (rule_in x g);
}
