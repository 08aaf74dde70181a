-- Calls, as the definition has them.
use Rattle.c_language.specs.Scopes.{Scope}
use Rattle.c_means.specs.Parts as parts
use Rattle.core_exprs.specs.declared.site.Site.{Site}

-- with the names in force behind it
abbrev pub site_of : Site → Scope → parts.Site
site_of x s = record {
  at = x.at;
  callee = x.callee;
  ctype = x.ctype;
  types = x.types;
  texts = x.texts;
  scope = s;
}
