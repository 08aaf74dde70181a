use Rattle.std.proofs.Common.{◌≡◌, true, false, refl, sym, ◌∙◌}
use Rattle.path_arrows.specs.Arrows.{is_running}
use Rattle.path_arrows.proofs.sifting.sort.Goals as goal

pub returns-then-is_running : goal.returns-then-is_running
returns-then-is_running c =
    let runs : is_running c.args.state.kind ≡ true = sym c.is_running.ensures ∙ c.if-is_running.true in
    rw (runs, c.in_ok-push.ensures.ok) refl

pub returns : goal.returns
returns c =
    let runs : is_running c.args.state.kind ≡ false = sym c.is_running.ensures ∙ c.if-is_running.false in
    rw (runs, c.in_ok-push-2.ensures.ok, c.new.ensures) refl
