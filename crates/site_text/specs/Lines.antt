-- The lines on log calls.
use Rattle.std.specs.Prelude.{ℕ, List, ◌++◌, codes}
use Rattle.std.specs.List.{flat_map}
use Rattle.c_language.specs.PlaceTables.{PlaceTable}
use Rattle.report_text.specs.Numbers.{Text}
use Rattle.report_text.specs.FactTexts.{at_text}
use Rattle.source_sites.specs.declared.listing.Site.{Site}
use Rattle.site_text.specs.Shown.{shown_format}
use Rattle.site_text.specs.Ends.{AreTexts, IsSiteText}

-- its place, and its format between quotation marks
abbrev pub site_line : PlaceTable → Site → Text
site_line places site =
    codes "site " ++ (at_text places site.at ++ (codes " \"" ++ (shown_format site.format ++ codes "\"\n")))

abbrev pub site_lines : PlaceTable → List Site → Text
site_lines places sites = flat_map (site_line places) sites

-- the lines of log calls along a log, one log call behind the other
abbrev pub AreMatchLines : PlaceTable → List ℕ → List Site → Text → Type 0
AreMatchLines places log sites text = AreTexts (IsSiteText places log) sites text
