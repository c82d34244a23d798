use Rattle.std.proofs.Common.{◌∙◌, List, Option, ap, length, subst, sym, ℕ}
use Rattle.review_roots.specs.declared.search.Found.{Found}
use Rattle.review_roots.specs.Body.Found.{AreStarts, AreTurned, HaveNoChain}
use Rattle.review_roots.specs.Sought.{any_steps, free_steps, unasked_steps}
use Rattle.review_roots.proofs.PathLemmas.{starts-chainless}
use Rattle.review_roots.proofs.SearchLemmas.{point-back}
use Rattle.review_roots.proofs.chains.chains_at.Goals as goal

pub found_of-requires-clause-starts : goal.found_of-requires-clause-starts
found_of-requires-clause-starts c =
    let h = c.args.steps.now in
    subst (HaveNoChain h c.args.target c.args.level) (sym c.deref-2.ensures.value)
    (starts-chainless h c.args.target c.args.level c.args.any.items c.in_ok-any_starts.any_starts.items c.requires.any
    (subst (λ xs. AreStarts xs c.in_ok-any_starts.any_starts.items) c.deref.ensures.value c.in_ok-any_starts.ensures.starts)
    (c.in_ok-any_starts.ensures.known ∙ ap length c.people-users.ensures))

pub found_of-requires-2-clause-starts : goal.found_of-requires-2-clause-starts
found_of-requires-2-clause-starts c =
    let h = c.args.steps.now in
    subst (HaveNoChain h c.args.target c.args.level) (sym c.deref-3.ensures.value)
    (starts-chainless h c.args.target c.args.level c.args.any.items c.in_ok-any_starts.any_starts.items c.requires.any
    (subst (λ xs. AreStarts xs c.in_ok-any_starts.any_starts.items) c.deref.ensures.value c.in_ok-any_starts.ensures.starts)
    (c.in_ok-any_starts.ensures.known ∙ ap length c.people-users.ensures))

pub returns-clause-lead : goal.returns-clause-lead
returns-clause-lead c =
    let h = c.args.steps.now in
    let l = c.args.level in
    let people = ap length c.people-users.ensures in
    let starts = c.in_ok-any_starts.any_starts.items in
    let turned = c.in_ok-turned.turned.items in
    record {
      level = c.requires.level;
      any = c.requires.any;
      unasked = c.in_ok-unasked.ensures.found;
      free = c.in_ok-free.ensures.found;
      any_order = c.requires.order;
      unasked_order = c.in_ok-unasked.ensures.order;
      free_order = c.in_ok-free.ensures.order;
      are = record {
        any = point-back (any_steps h c.args.target) l c.args.any.items c.requires.any.linked;
        any_given = c.requires.given;
        any_starts = subst (λ xs. AreStarts xs starts) c.deref.ensures.value c.in_ok-any_starts.ensures.starts;
        any_users = c.in_ok-any_starts.ensures.known ∙ people;
        unasked = point-back (unasked_steps h c.args.target) l c.in_ok-unasked.unasked.items c.in_ok-unasked.ensures.found.linked;
        unasked_given = c.in_ok-unasked.ensures.given;
        unasked_starts = subst (λ xs. AreStarts xs c.in_ok-unasked_starts.unasked_starts.items) c.deref-4.ensures.value
            c.in_ok-unasked_starts.ensures.starts;
        unasked_users = c.in_ok-unasked_starts.ensures.known ∙ people;
        free = point-back (free_steps h c.args.target) l c.in_ok-free.free.items c.in_ok-free.ensures.found.linked;
        free_given = c.in_ok-free.ensures.given;
        free_starts = subst (λ xs. AreStarts xs c.in_ok-free_starts.free_starts.items) c.deref-5.ensures.value
            c.in_ok-free_starts.ensures.starts;
        free_users = c.in_ok-free_starts.ensures.known ∙ people;
        turned_starts = subst (λ xs. AreStarts xs c.in_ok-turned_starts.turned_starts.items) c.deref-9.ensures.value
            c.in_ok-turned_starts.ensures.starts;
        turned_users = c.in_ok-turned_starts.ensures.known ∙ people;
      };
      turned = subst (λ (us : List (Option ℕ)). AreTurned h c.args.target l starts c.in_ok-unasked.unasked.items us turned)
          c.deref-8.ensures.value
          (subst (λ (xs : List Found). AreTurned h c.args.target l starts xs c.deref-8.result.now turned) c.deref-7.ensures.value
          (subst (λ (ss : List (Option ℕ)). AreTurned h c.args.target l ss c.deref-7.result.now c.deref-8.result.now turned)
          c.deref-6.ensures.value c.in_ok-turned.ensures));
    }
