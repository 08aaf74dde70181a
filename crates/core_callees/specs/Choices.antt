-- Which callee of the core a call is, by the rule that it follows (C99 6.5.2.2, and the profile).
use Rattle.std.specs.Prelude.{ℕ, Option, Some, None, option_map}
use Rattle.c_means.specs.Parts.{Site}
use Rattle.c_means.specs.declared.profile.LogFunction.{LogFunction}
use Rattle.c_means.specs.declared.profile.LogText.{LogText}
use Rattle.c_means.specs.Calls.{before_format, watched}
use Rattle.c_means.specs.Rules.{log_of, identity_index, fill_of, library_of, callee_taking}
use Rattle.core_tree.specs.declared.expr.Callee.{Callee}
use Rattle.core_tree.specs.declared.expr.Callee.TheVariants as callee
use Rattle.elaborate.specs.Callees as callees
use Rattle.core_calls.specs.Calling.{answer_for, library_in, log_pieces_of}
use Rattle.core_callees.specs.Known.{Known, is_never_null}
use Rattle.core_callees.specs.Watching.{all_watched}

-- ---- each callee

abbrev pub log_callee : Known → LogText → Site → Callee
log_callee x text g = callee.Log (log_pieces_of text g.texts) (before_format text) (callees.word_types g.types)
    (all_watched x.place (watched x.watched g))

abbrev pub outside_callee : Known → Site → Callee
outside_callee x g = callee.Outside (answer_for g.scope.tables g.ctype (is_never_null x g))
    (option_map callees.fill_of (fill_of x.profile g.callee.name))

-- ---- which it is: the first that applies

abbrev pub by_prelude : Known → Site → Option ℕ → Callee
by_prelude x g (Some n) = callee.Body n
by_prelude x g None = outside_callee x g

abbrev pub by_library : Known → Site → Option Callee → Option ℕ → Callee
by_library x g (Some c) p = c
by_library x g None p = by_prelude x g p

-- a function without a body in the source
abbrev pub declared_callee : Known → Site → Callee
declared_callee x g = by_library x g (library_in (library_of g)) (x.prelude (callee_taking g) g.callee.name)

abbrev pub by_source : Known → Site → Option ℕ → Callee
by_source x g (Some n) = callee.Body n
by_source x g None = declared_callee x g

abbrev pub by_identity : Known → Site → Option ℕ → Callee
by_identity x g (Some i) = callee.Identity i
by_identity x g None = by_source x g (x.source g.callee.name)

abbrev pub by_log : Known → Site → Option LogFunction → Callee
by_log x g (Some f) = log_callee x f.text g
by_log x g None = by_identity x g (identity_index x.profile g.callee.name)

abbrev pub callee_in : Known → Site → Callee
callee_in x g = by_log x g (log_of x.profile g.callee.name)
