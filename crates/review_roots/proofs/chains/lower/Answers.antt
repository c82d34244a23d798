use Rattle.std.proofs.Common.{◌∙◌, arith, length, map, sym}
use Rattle.review_roots.specs.Body.Candidates.{states_of}
use Rattle.review_roots.specs.Body.Found.{any_sought, kept_steps}
use Rattle.review_roots.proofs.KeptLemmas.{host-keeps}
use Rattle.review_roots.proofs.LayerLemmas.{ordered-found}
use Rattle.review_roots.proofs.PathLemmas.{complete-among, found-among, none-missing}
use Rattle.review_roots.proofs.SearchLemmas.{all-found, at-least-itself, none-further}
use Rattle.review_roots.proofs.chains.lower.Goals as goal

pub returns-then-not-branch : goal.returns-then-not-branch
returns-then-not-branch c = λ asked.
    let h = c.args.steps.now in
    let q = any_sought c.args.target in
    let found = c.args.above.now.found.items in
    let left = states_of (map (λ k. k.now) c.args.above.now.left.items) in
    let search = c.requires.1.1 in
    complete-among h q h.faultless (host-keeps h) c.args.level asked found
    (none-further (kept_steps h q) h.least c.args.level asked found left search.covered search.away (length found) (omega arith)
    (c.in_ok-has_step.ensures c.if-not-branch.true))

pub returns : goal.returns
returns c =
    let h = c.args.steps.now in
    let q = any_sought c.args.target in
    let l = c.args.level in
    let asked = sym c.is_at_least.ensures ∙ c.if-not-is_at_least.false in
    let found = c.in_ok-spread.spread.found.items in
    let left = states_of (map (λ k. k.now) c.in_ok-spread.spread.left.items) in
    record {
      level = asked;
      spread = (
        c.in_ok-spread.ensures.candidates,
        (l, c.in_ok-spread.ensures.search h.least (at-least-itself h.least) asked (none-missing h c.args.target h.least)),
      );
      given = c.in_ok-spread.ensures.given;
      found = found-among h q h.faultless (host-keeps h) l asked found
          (all-found h.directory.now (kept_steps h q) l l (length found) found left
          (c.in_ok-spread.ensures.search l asked (at-least-itself l) (none-missing h c.args.target l)) (omega arith));
      order = ordered-found h q l l (length found) found left
          (c.in_ok-spread.ensures.search l asked (at-least-itself l) (none-missing h c.args.target l));
    }
