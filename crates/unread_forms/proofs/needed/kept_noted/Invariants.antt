use Rattle.std.proofs.Common.{◌≡◌, ◌++◌, drop}
use Rattle.unread_forms.specs.Needed.{kept_noted}
use Rattle.unread_forms.proofs.needed.kept_noted.Given as goal

abbrev pub invariant-loop-index : goal.invariant-loop-index
invariant-loop-index l =
    l.kept ++ kept_noted l.words l.reached (drop l.index l.outers) (drop l.index l.externals)
    ≡ kept_noted l.words l.reached l.outers l.externals
