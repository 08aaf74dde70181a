use Rattle.std.proofs.Common.{◌≡◌, ◌≤◌, ◌-◌, ◌∷◌, [], length, take, drop}
use Rattle.c_language.specs.declared.token.Punctuator.TheVariants as mark
use Rattle.c_grammar.specs.UnitReading as spec
use Rattle.c_parser.specs.Groups.{fronted}
use Rattle.c_parser.proofs.groups.cut.Given as goal

abbrev pub invariant-cut : goal.invariant-cut
invariant-cut l = record {
  reads : fronted (take l.index l.tokens) (spec.cut (drop l.index l.tokens) l.wanted)
      ≡ spec.cut l.tokens (mark.RightBrace ∷ []);
  within : l.index ≤ length l.tokens;
}

abbrev pub decreases-cut : goal.decreases-cut
decreases-cut l = length l.tokens - l.index
