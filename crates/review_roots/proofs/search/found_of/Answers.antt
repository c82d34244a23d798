use Rattle.std.proofs.Common.{arith, length, map}
use Rattle.review_roots.specs.Body.Candidates.{states_of}
use Rattle.review_roots.specs.Body.Found.{kept_steps}
use Rattle.review_roots.proofs.KeptLemmas.{host-keeps}
use Rattle.review_roots.proofs.LayerLemmas.{ordered-found}
use Rattle.review_roots.proofs.PathLemmas.{found-among}
use Rattle.review_roots.proofs.SearchLemmas.{all-found, at-least-itself}
use Rattle.review_roots.proofs.search.found_of.Goals as goal

pub returns-clause-found : goal.returns-clause-found
returns-clause-found c =
    let h = c.args.steps.now in
    let q = c.args.sought in
    let l = c.args.level in
    let found = c.in_ok-found.field-0.found.items in
    let search = c.in_ok-found.ensures.search l c.requires.level (at-least-itself l) c.requires.starts in
    found-among h q h.faultless (host-keeps h) l c.requires.level found
    (all-found h.directory.now (kept_steps h q) l l (length found) found
    (states_of (map (λ c. c.now) c.in_ok-found.field-0.left.items)) search
    (omega arith))

pub returns-clause-order : goal.returns-clause-order
returns-clause-order c =
    let l = c.args.level in
    let found = c.in_ok-found.field-0.found.items in
    ordered-found c.args.steps.now c.args.sought l l (length found) found (states_of (map (λ c. c.now) c.in_ok-found.field-0.left.items))
    (c.in_ok-found.ensures.search l c.requires.level (at-least-itself l) c.requires.starts)
