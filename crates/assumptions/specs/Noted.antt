-- What is assumed, over what was noted of a source as it is asked; functions are in reversed order.
use Rattle.std.specs.Prelude.{ℕ, Bool, false, cond, not, ◌&&◌, ◌||◌, nat_eq, List, [], ◌∷◌, ◌++◌, map, reverse, is_some}
use Rattle.c_language.specs.Scopes.{Name}
use Rattle.c_notes.specs.declared.calls.CallNote.{CallNote}
use Rattle.c_item_notes.specs.declared.items.LastingNote.{LastingNote}
use Rattle.c_reach.specs.declared.summaries.FunctionNotes.{FunctionNotes}
use Rattle.c_reach.specs.Reaching.{named_in}
use Rattle.c_program_notes.specs.declared.whole.Overview.{Overview}
use Rattle.c_program_notes.specs.Wholes.{functions_in}
use Rattle.diagnoses.specs.declared.assumption.Assumption.{Assumption}
use Rattle.assumptions.specs.Assumed.{by_name, object, outside}
use Rattle.c_means.specs.declared.profile.Profile.{Profile}
use Rattle.c_means.specs.Rules.{fill_of}

-- a function with a meaning of its own is called by the rule of functions outside where the call is wrong
abbrev pub is_foreign : Profile → CallNote → Bool
is_foreign asked c = not (is_some (fill_of asked c.name)) || is_some c.breach

-- no log or identity function, and without a body
abbrev pub is_outside : Profile → List FunctionNotes → CallNote → Bool
is_outside asked fs c = is_some c.arguments && (not (is_some (named_in fs c.name)) && is_foreign asked c)

abbrev pub name_if_outside : Profile → List FunctionNotes → CallNote → List Name
name_if_outside asked fs c = cond (is_outside asked fs c) (c.name ∷ []) []

abbrev pub outside_calls : Profile → List FunctionNotes → List CallNote → List Name
outside_calls asked fs [] = []
outside_calls asked fs (c ∷ cs) = name_if_outside asked fs c ++ outside_calls asked fs cs

abbrev pub called_outside : Profile → List FunctionNotes → List FunctionNotes → List Name
called_outside asked fs [] = []
called_outside asked fs (g ∷ gs) = outside_calls asked fs g.body.calls ++ called_outside asked fs gs

unfoldable pub outside_noted : Profile → Overview → List Name
outside_noted asked x = called_outside asked (reverse (functions_in x.program.outers)) x.reached

-- ---- objects

abbrev pub defines : ℕ → LastingNote → Bool
defines at x = x.is_defined && nat_eq at x.entry.at

abbrev pub is_defined : ℕ → List LastingNote → Bool
is_defined at [] = false
is_defined at (x ∷ xs) = defines at x || is_defined at xs

abbrev pub undefined_in : List LastingNote → List LastingNote → List Name
undefined_in all [] = []
undefined_in all (x ∷ xs) =
    cond (is_defined x.entry.at all) [] (x.entry.name ∷ []) ++ undefined_in all xs

-- ---- all of it

unfoldable pub assumptions_noted : Profile → Profile → Overview → List Assumption
assumptions_noted p asked x =
    map (outside p) (by_name (outside_noted asked x))
    ++ map object (by_name (undefined_in x.needs.lasting x.needs.lasting))
