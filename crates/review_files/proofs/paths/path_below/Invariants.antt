use Rattle.std.proofs.Common.{◌≡◌, take}
use Rattle.review_files.specs.Paths as spec
use Rattle.review_files.proofs.paths.path_below.Given as goal

abbrev pub invariant-loop-name : goal.invariant-loop-name
invariant-loop-name l = l.path ≡ spec.path_below l.folder (take l.name-index l.names)
