use Rattle.std.proofs.Common.{◌≡◌, ◌∙◌, ap, arith, length, map, subst, sym}
use Rattle.review_roots.specs.declared.level.Level.TheVariants as level
use Rattle.review_roots.specs.Body.Candidates.{states_of}
use Rattle.review_roots.specs.Body.Found.{IsLowerSpread, any_sought, kept_steps, lower_found, lower_spread}
use Rattle.review_roots.proofs.KeptLemmas.{host-keeps}
use Rattle.review_roots.proofs.LayerLemmas.{ordered-found}
use Rattle.review_roots.proofs.PathLemmas.{found-among, none-missing}
use Rattle.review_roots.proofs.SearchLemmas.{all-best, all-found, at-least-itself}
use Rattle.review_roots.proofs.chains.levels_of.Goals as goal

pub chains_at-requires-clause-any : goal.chains_at-requires-clause-any
chains_at-requires-clause-any c =
    let h = c.args.steps.now in
    let q = any_sought c.args.target in
    let found = c.in_ok-all.all.found.items in
    found-among h q h.faultless (host-keeps h) level.All (all-best h.least) found
    (all-found h.directory.now (kept_steps h q) level.All level.All (length found) found
    (states_of (map (λ k. k.now) c.in_ok-all.all.left.items))
    (c.in_ok-all.ensures.search level.All (all-best h.least) (at-least-itself level.All) (none-missing h c.args.target level.All))
    (omega arith))

pub chains_at-requires-clause-order : goal.chains_at-requires-clause-order
chains_at-requires-clause-order c =
    let h = c.args.steps.now in
    let found = c.in_ok-all.all.found.items in
    ordered-found h (any_sought c.args.target) level.All level.All (length found) found
    (states_of (map (λ k. k.now) c.in_ok-all.all.left.items))
    (c.in_ok-all.ensures.search level.All (all-best h.least) (at-least-itself level.All) (none-missing h c.args.target level.All))

pub returns : goal.returns
returns c =
    let h = c.args.steps.now in
    let t = c.args.target in
    let any = c.in_ok-chains_at.ensures.any in
    let lower = c.in_ok-chains_if.field-0 in
    let same : lower_found c.in_ok-chains_at.field-0.any.items lower ≡ lower_spread c.in_ok-all.all.found.items c.in_ok-all_but.all_but =
    ap (λ xs. lower_found xs lower) any ∙ c.in_ok-chains_if.ensures.found c.in_ok-all.all.found.items in
    record {
      all = c.in_ok-chains_at.ensures.lead;
      all_but = c.in_ok-chains_if.ensures.lower c.in_ok-chains_at.field-0.any.items
          (subst (λ xs. IsLowerSpread h t level.AllBut xs c.in_ok-all_but.all_but) (sym any) c.in_ok-all_but.ensures);
      listed = c.in_ok-chains_if-2.ensures.lower (lower_found c.in_ok-chains_at.field-0.any.items lower)
          (subst (λ xs. IsLowerSpread h t level.Listed xs c.in_ok-listed.listed) (sym same) c.in_ok-listed.ensures);
    }
