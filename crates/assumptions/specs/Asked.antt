-- How the calls of functions outside are told apart by the rules that they break: where each function with a meaning of
-- its own fills a buffer that is its own length. No argument is a pointer and an integer, so each call of one is wrong
-- then that follows the rule of functions outside, and no other is.
use Rattle.std.specs.Prelude.{List, [], ◌∷◌, ◌++◌, map}
use Rattle.c_language.specs.Scopes.{Name}
use Rattle.c_item_notes.specs.Levels.{Judged}
use Rattle.c_notes.specs.CallsTold.{strlen', strcmp', strncmp', strchr', strcpy', strcat', memset', memcpy', atoi'}
use Rattle.c_means.specs.declared.profile.FillAnswer.TheVariants as answer
use Rattle.c_means.specs.declared.profile.FillFunction.{FillFunction}
use Rattle.c_means.specs.declared.profile.Profile.{Profile}
use Rattle.c_means.specs.Rules.{exit', abort', malloc', calloc', free'}

-- the functions with a meaning of their own, where they are declared with their types
abbrev pub library_names : List Name
library_names = exit' ∷ abort' ∷ malloc' ∷ calloc' ∷ free' ∷ []

abbrev pub prelude_names : List Name
prelude_names =
    strlen' ∷ strcmp' ∷ strncmp' ∷ strchr' ∷ strcpy' ∷ strcat' ∷ memset' ∷ memcpy' ∷ atoi' ∷ []

abbrev pub impossible : Name → FillFunction
impossible name = record { name = name; buffer = 0; length = 0; answer = answer.Free }

abbrev pub fills : List FillFunction
fills = map impossible library_names ++ map impossible prelude_names

-- the profile, but for what functions outside fill and answer
abbrev pub asked : Profile → Profile
asked p = record { log = p.log; identity = p.identity; fills = fills; never_null = [] }

abbrev pub asked_of : Judged → Judged
asked_of j = record { externals = j.externals; profile = asked j.profile }
