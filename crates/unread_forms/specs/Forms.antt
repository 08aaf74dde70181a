-- What `diagnose` doesn't read yet: values of structures and unions, and texts and pointers in log calls. A source in
-- which none of it can be has none of the forms below.
use Rattle.std.specs.Prelude.{◌≡◌, Bool, true, false, ◌||◌, List, Result, Ok, Err}
use Rattle.std.specs.List.{list_any}
use Rattle.c_language.specs.declared.tables.Aggregate.{Aggregate}
use Rattle.c_language.specs.declared.tables.Content.{Content}
use Rattle.c_language.specs.declared.tables.Content.TheVariants as content
use Rattle.c_language.specs.declared.unit.External.{External}
use Rattle.c_means.specs.declared.profile.Profile.{Profile}
use Rattle.c_means.specs.Programs.{program_of}
use Rattle.c_means.specs.Units.{least, machine_of, silent}
use Rattle.printf_text.specs.declared.kind.Kind.{Kind}
use Rattle.printf_text.specs.declared.kind.Kind.TheVariants as kind
use Rattle.printf_text.specs.declared.parse.FormatFault.{FormatFault}
use Rattle.printf_text.specs.declared.piece.Piece.{Piece}
use Rattle.printf_text.specs.Pieces.{pieces_of}
use Rattle.printf_text.specs.Texts.{kinds}
use Rattle.source_sites.specs.declared.listing.Site.{Site}
use Rattle.source_sites.specs.Sites.{program_sites}
use Rattle.unread_forms.specs.Needed.{kept}

-- ---- structures and unions

-- one whose list of members has ended (C99 6.7.2.1)
abbrev pub has_members : Content → Bool
has_members content.Incomplete = false
has_members (content.Opaque cause) = true
has_members (content.Complete layout) = true

abbrev pub is_defined : Aggregate → Bool
is_defined x = has_members x.content

-- external declarations define a structure or union
abbrev pub define_structures : List External → Bool
define_structures xs = list_any is_defined (program_of xs).scope.tables.aggregates

-- ---- texts and pointers in log calls

abbrev pub is_text_or_pointer : Kind → Bool
is_text_or_pointer kind.Integer = false
is_text_or_pointer kind.Text = true
is_text_or_pointer kind.Pointer = true

abbrev pub shows_by : Result (List Piece) FormatFault → Bool
shows_by (Ok pieces) = list_any is_text_or_pointer (kinds pieces)
shows_by (Err fault) = false

-- by `%s` or `%p`
abbrev pub shows_text_or_pointer : Site → Bool
shows_text_or_pointer x = shows_by (pieces_of x.format.bytes)

-- a log call of a function that is reached shows one (no call's rule asks for more than one turn and one level)
unfoldable pub shows_some : List External → Profile → Bool
shows_some xs profile = list_any shows_text_or_pointer (program_sites (machine_of xs profile silent least 1))

-- ---- all of them

-- a source has one: what is needed of it defines a structure or union, or one of its log calls shows a text or pointer
abbrev pub has_unread : List External → Profile → Bool
has_unread xs profile = define_structures (kept xs profile) || shows_some xs profile

abbrev pub HasUnread : List External → Profile → Type 0
HasUnread xs profile = has_unread xs profile ≡ true
