-- Points at which a run arrives that may be what it was looking for (C99 6.8.1, 6.8.4.2, 6.8.6).
use Rattle.std.specs.Prelude.{Some}
use Rattle.c_means.specs.declared.kind.Kind.{Kind}
use Rattle.c_means.specs.Items.{past_break, past_continue, past_switch, at_label, at_case, at_default}
use Rattle.c_means.specs.Runs.{comes_back}
use Rattle.path_states.specs.declared.kinds.StateKind.{StateKind}
use Rattle.path_states.specs.declared.kinds.StateKind.TheVariants.{Known, Exited}
use Rattle.path_arrows.specs.declared.points.Point.{Point}
use Rattle.path_arrows.specs.declared.points.Point.TheVariants as point

abbrev pub at_point : Point → Kind → Kind
at_point (point.Label name) kind = at_label name kind
at_point (point.Case value) kind = at_case (Some value) kind
at_point point.Default kind = at_default kind
at_point point.BehindLoop kind = past_break kind
at_point point.EndOfTurn kind = past_continue kind
at_point point.BehindSwitch kind = past_switch kind
at_point point.Back kind = comes_back kind

-- an exit stays one
abbrev pub state_kind_at : Point → StateKind → StateKind
state_kind_at p (Known kind) = Known (at_point p kind)
state_kind_at p (Exited status) = Exited status
