use Rattle.std.proofs.Common.{List, ℕ, ◌++◌, drop}
use Rattle.review_files.specs.Reading as spec
use Rattle.review_files.proofs.listing.listed.Given as goal

abbrev pub invariant-loop-name : goal.invariant-loop-name
invariant-loop-name g l =
    (more : List (List ℕ)) → spec.AreListed (g.T.Tree.shows l.tree) l.folder l.path (drop l.name-index l.names) more
    → spec.AreListed (g.T.Tree.shows l.tree) l.folder l.path l.names (l.listed ++ more)
