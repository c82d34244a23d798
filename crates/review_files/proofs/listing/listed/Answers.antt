use Rattle.std.proofs.Common.{◌≡◌, ◌+◌, ◌∷◌, [], drop, subst, sym, refl, arith}
use Rattle.std.proofs.lemmas.List.{append-nil, drop_all, drop_more}
use Rattle.std.proofs.lemmas.Grind.{common_steps}
use Rattle.review_files.specs.Reading.{AreListed}
use Rattle.review_files.proofs.ListedNames.{listed_on}
use Rattle.review_files.proofs.listing.listed.Goals as goal

pub loop-name-preserved : goal.loop-name-preserved
loop-name-preserved g c = λ more behind.
    let pushed = c.in_ok-push_listed.ensures in
    let item : drop c.loop-name.name-index c.args.names.now
    ≡ c.as_slice.result.now ∷ drop (c.loop-name.name-index + 1) c.args.names.now =
    let next = drop_more c.args.names.now c.loop-name.name-index [] c.loop-name-test.true in
    grind (arith, common_steps, next) in
    listed_on (g.T.Tree.shows c.args.tree.now) c.args.folder.now c.args.path.now c.args.names.now _ _
    c.as_slice.result.now c.loop-name.listed c.push_listed.new.listed pushed.0 more item pushed.1 pushed.2
    c.loop-name.invariant behind

pub returns : goal.returns
returns g c =
    let shows = g.T.Tree.shows c.args.tree.now in
    let none : drop c.loop-name.name-index c.args.names.now ≡ [] =
    drop_all c.loop-name.name-index c.args.names.now c.loop-name-test.false in
    subst (λ xs. AreListed shows c.args.folder.now c.args.path.now c.args.names.now xs) (append-nil c.loop-name.listed)
    (c.loop-name.invariant [] (subst (λ xs. AreListed shows c.args.folder.now c.args.path.now xs []) (sym none) refl))
