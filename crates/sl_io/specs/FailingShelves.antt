-- Which calls of a shelf fail.
use Rattle.std.specs.Prelude.{Bool, ℕ, List, ◌==◌}
use Rattle.std.specs.List.{list_any}
use Rattle.sl_io.specs.Counts.{capped_sum}
use Rattle.sl_io.specs.declared.fail_shelf.FailShelf.{FailShelf}
use Rattle.sl_io.specs.declared.mem_shelf.MemShelf.{MemShelf}

-- the files, and what was counted
abbrev pub inner : FailShelf → MemShelf
inner shelf = shelf.shelf

-- which calls are to fail
abbrev pub listed : FailShelf → List ℕ
listed shelf = shelf.failing

-- how many calls were made
abbrev pub made : FailShelf → ℕ
made shelf = shelf.calls

-- the next call is listed
abbrev pub fails_next : FailShelf → Bool
fails_next shelf = list_any (λ call. call == capped_sum (made shelf) 1) (listed shelf)
