-- What is told of a call, to be judged where the bodies of the source are known: by `c_means`, the first rule of calls
-- that applies.
use Rattle.std.specs.Prelude.{ℕ, Bool, true, false, cond, List, [], ◌∷◌, length, Option, Some, None, is_some}
use Rattle.std.specs.Str.{bytes_eq}
use Rattle.c_language.specs.declared.ctype.CType.{CType}
use Rattle.c_language.specs.declared.tables.Tables.{Tables}
use Rattle.c_language.specs.declared.scope.Entry.{Entry}
use Rattle.c_language.specs.Scopes.{Name}
use Rattle.c_means.specs.Parts.{Level, Site}
use Rattle.c_means.specs.declared.breach.Breach.{Breach}
use Rattle.c_means.specs.declared.profile.FillFunction.{FillFunction}
use Rattle.c_means.specs.declared.profile.LogFunction.{LogFunction}
use Rattle.c_means.specs.declared.profile.LogText.{LogText}
use Rattle.c_means.specs.declared.profile.LogText.TheVariants as log_
use Rattle.c_means.specs.declared.profile.Profile.{Profile}
use Rattle.c_means.specs.Rules.{Taking, same_taking, declared_taking, library_if, library_named}
use Rattle.c_means.specs.Calls.{literal_at}
use Rattle.c_means.specs.Rules.{log_of, identity_index, fill_of}
use Rattle.c_checks.specs.declared.takings.PlainType.{PlainType}
use Rattle.c_checks.specs.declared.takings.PlainType.TheVariants as plain
use Rattle.c_checks.specs.Takings.{taking}
use Rattle.c_checks.specs.Refusals.{least_of}
use Rattle.c_checks.specs.Calls.{log_breaches, identity_breaches, body_breaches, fill_breaches}
use Rattle.c_notes.specs.declared.calls.CallNote.{CallNote}
use Rattle.c_notes.specs.declared.calls.LogFormat.{LogFormat}

-- ---- functions of the prelude, by name and type: how many parameters they have

abbrev pub strlen' : Name
strlen' = 115 ∷ 116 ∷ 114 ∷ 108 ∷ 101 ∷ 110 ∷ []

abbrev pub strcmp' : Name
strcmp' = 115 ∷ 116 ∷ 114 ∷ 99 ∷ 109 ∷ 112 ∷ []

abbrev pub strncmp' : Name
strncmp' = 115 ∷ 116 ∷ 114 ∷ 110 ∷ 99 ∷ 109 ∷ 112 ∷ []

abbrev pub strchr' : Name
strchr' = 115 ∷ 116 ∷ 114 ∷ 99 ∷ 104 ∷ 114 ∷ []

abbrev pub strcpy' : Name
strcpy' = 115 ∷ 116 ∷ 114 ∷ 99 ∷ 112 ∷ 121 ∷ []

abbrev pub strcat' : Name
strcat' = 115 ∷ 116 ∷ 114 ∷ 99 ∷ 97 ∷ 116 ∷ []

abbrev pub memset' : Name
memset' = 109 ∷ 101 ∷ 109 ∷ 115 ∷ 101 ∷ 116 ∷ []

abbrev pub memcpy' : Name
memcpy' = 109 ∷ 101 ∷ 109 ∷ 99 ∷ 112 ∷ 121 ∷ []

abbrev pub atoi' : Name
atoi' = 97 ∷ 116 ∷ 111 ∷ 105 ∷ []

abbrev pub count_if : Option Taking → PlainType → List PlainType → Option ℕ
count_if t to wanted = cond (same_taking t (Some (taking to wanted))) (Some (length wanted)) None

-- unsigned long strlen(const char *), int strcmp(const char *, const char *), int strncmp(const char *, const char *,
-- unsigned long), char *strchr(const char *, int), char *strcpy(char *, const char *), char *strcat(char *, const char
-- *), void *memset(void *, int, unsigned long), void *memcpy(void *, const void *, unsigned long), int atoi(const char
-- *)
abbrev pub prelude_count : Option Taking → Name → Option ℕ
prelude_count t name =
    cond (bytes_eq name strlen') (count_if t plain.UnsignedLong (plain.Pointer ∷ []))
    (cond (bytes_eq name strcmp') (count_if t plain.Int (plain.Pointer ∷ plain.Pointer ∷ []))
    (cond (bytes_eq name strncmp') (count_if t plain.Int (plain.Pointer ∷ plain.Pointer ∷ plain.UnsignedLong ∷ []))
    (cond (bytes_eq name strchr') (count_if t plain.Pointer (plain.Pointer ∷ plain.Int ∷ []))
    (cond (bytes_eq name strcpy') (count_if t plain.Pointer (plain.Pointer ∷ plain.Pointer ∷ []))
    (cond (bytes_eq name strcat') (count_if t plain.Pointer (plain.Pointer ∷ plain.Pointer ∷ []))
    (cond (bytes_eq name memset') (count_if t plain.Pointer (plain.Pointer ∷ plain.Int ∷ plain.UnsignedLong ∷ []))
    (cond (bytes_eq name memcpy')
    (count_if t plain.Pointer (plain.Pointer ∷ plain.Pointer ∷ plain.UnsignedLong ∷ []))
    (cond (bytes_eq name atoi') (count_if t plain.Int (plain.Pointer ∷ [])) None))))))))

-- ---- what a call breaks where no body of the source runs

abbrev pub outside_least : ℕ → List (Option CType) → Option FillFunction → Option Breach
outside_least at types None = None
outside_least at types (Some f) = least_of (fill_breaches at types f.buffer f.length)

abbrev pub prelude_least : ℕ → List (Option CType) → Option FillFunction → Option ℕ → Option Breach
prelude_least at types fills (Some n) = least_of (body_breaches at types n)
prelude_least at types fills None = outside_least at types fills

abbrev pub library_least : ℕ → List (Option CType) → Option FillFunction → Option ℕ → Bool → Option Breach
library_least at types fills n true = None
library_least at types fills n false = prelude_least at types fills n

abbrev pub bodiless_least : Profile → ℕ → Tables → Entry → List (Option CType) → Option Breach
bodiless_least p at tables e types =
    let t = declared_taking tables e.means in
    library_least at types (fill_of p e.name) (prelude_count t e.name) (is_some (library_if t (library_named e.name)))

-- ---- what is told of a call

-- the format of a log call, over the texts of those arguments that are string literals
abbrev pub format_in : List (Option (List ℕ)) → LogText → LogFormat
format_in texts (log_.Format i newline) = record { bytes = literal_at texts i; newline = newline }
format_in texts (log_.Text format) = record { bytes = format; newline = false }

-- where the name is that of a log function or an identity function, no body counts
abbrev pub judged_call : ℕ → Name → Option Breach → Option LogFormat → CallNote
judged_call at name b format = record { at = at; name = name; arguments = None; breach = b; format = format }

abbrev pub open_call : ℕ → Name → ℕ → Option Breach → CallNote
open_call at name n b = record { at = at; name = name; arguments = Some n; breach = b; format = None }

abbrev pub call_by :
    Profile → ℕ → Tables → Entry → List (Option CType) → List (Option (List ℕ)) → Option LogFunction → Option ℕ →
    CallNote
call_by p at tables e types texts (Some f) i =
    judged_call at e.name (least_of (log_breaches at texts types f.text)) (Some (format_in texts f.text))
call_by p at tables e types texts None (Some i) = judged_call at e.name (least_of (identity_breaches at types i)) None
call_by p at tables e types texts None None =
    open_call at e.name (length types) (bodiless_least p at tables e types)

abbrev pub told_call :
    Profile → ℕ → Tables → Entry → List (Option CType) → List (Option (List ℕ)) → CallNote
told_call p at tables e types texts =
    call_by p at tables e types texts (log_of p e.name) (identity_index p e.name)

abbrev pub told_site : Profile → Site → CallNote
told_site p g = told_call p g.at g.scope.tables g.callee g.types g.texts

-- all calls in an expression, at a level that knows what identity functions hand on
abbrev pub told_calls : Profile → Level → List (Level → Site) → List CallNote
told_calls p l [] = []
told_calls p l (f ∷ fs) = told_site p (f l) ∷ told_calls p l fs
