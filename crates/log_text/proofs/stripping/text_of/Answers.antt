use Rattle.std.proofs.Common.{◌≡◌, None, IfOk, ap, subst}
use Rattle.std.specs.Option.{option_map}
use Rattle.log_text.specs.Patterns.{prefix_pattern}
use Rattle.log_text.proofs.StripLemmas.{stripped-of_none}
use Rattle.log_text.proofs.stripping.text_of.Goals as goal

pub returns-in_ok-from_slice-in-None : goal.returns-in_ok-from_slice-in-None
returns-in_ok-from_slice-in-None c =
    subst (λ x. IfOk c.new.result (λ text. text ≡ x))
    (stripped-of_none (option_map (λ p. prefix_pattern p.now) c.args.prefix) c.args.drop_unmatched c.args.log.now c.in_ok-from_slice-in-None.field-0
    (ap (option_map (λ p. prefix_pattern p.now)) c.in-None.is) c.in_ok-from_slice-in-None.ensures) c.new.ensures
