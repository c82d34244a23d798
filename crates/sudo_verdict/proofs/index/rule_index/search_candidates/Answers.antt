use Rattle.std.proofs.Common.{◌≡◌, ◌-◌, ◌+◌, ap, sym, ◌∙◌, arith, length, map, take, refl}
use Rattle.std.specs.Prelude.{slice_get}
use Rattle.std.specs.Option.{option_or}
use Rattle.std.proofs.lemmas.Option.{slice_get_read}
use Rattle.sudo_base.proofs.Options.{option_or-some}
use Rattle.sudo_grammar.specs.declared.policy.Entry.{Entry}
use Rattle.sudo_grammar.specs.declared.policy.Policy.{Policy}
use Rattle.sudo_verdict.specs.Body.Resolved.{body_resolves}
use Rattle.sudo_verdict.specs.Last.{last_set}
use Rattle.sudo_verdict.specs.Body.Queries.{question}
use Rattle.sudo_verdict.specs.Found.{entry_found}
use Rattle.sudo_verdict.proofs.RuleLists.{bodies_resolve}
use Rattle.sudo_verdict.proofs.SkippedEntries.{all-at, skipped, last-there, or-none}
use Rattle.sudo_verdict.proofs.index.rule_index.search_candidates.Goals as goal

pub returns-then-left-eq0 : goal.returns-then-left-eq0
returns-then-left-eq0 c =
    let p = c.args.lists.checked.now in
    let q = question c.args.query.now in
    let first = c.if-left-eq0.true in
    let within = c.loop-left.invariant.within in
    c.loop-left.invariant.same
    ∙ skipped (entry_found p q) p.entries c.args.start (c.args.start + c.loop-left.left) (omega arith)
    (λ k e l h there.
    let place : c.args.start + (k - c.args.start) ≡ k = omega (arith, l) in
    c.requires.silent (k - c.args.start) e (omega (arith, l, h, within)) (ap (slice_get p.entries) place ∙ there)
    (c.last_in_both_before-left.ensures.none (k - c.args.start) (omega (arith, first)) (omega (arith, l, h))))

pub search_candidate-found-requires : goal.search_candidate-found-requires
search_candidate-found-requires c =
    let policy = c.policy.ensures.value in
    let same = c.as_slice-entries.ensures ∙ ap (λ (p : Policy). p.entries) policy in
    let count = ap (λ l. length l) same in
    let positive = c.if-left-eq0.false in
    let up = c.last_in_both_before-left.ensures.within in
    let within = c.loop-left.invariant.within in
    let whole = c.requires.within in
    let at = c.args.start + (c.last_in_both_before-left.result - 1) in
    let there = slice_get_read c.as_slice-entries.result.now (length c.as_slice-entries.result.now) at
    c.index-entries-start.result refl (omega (arith, count, positive, up, within, whole)) c.index-entries-start.is in
    let here = ap (λ l. slice_get l at) (sym same) ∙ there in
    record {
      resolves = all-at (λ (e : Entry). body_resolves c.args.lists.checked.now e.body)
          c.args.lists.checked.now.entries at c.index-entries-start.result
          (bodies_resolve c.args.lists.checked.now c.policy.ensures.sound) here;
      there = here;
    }

pub returns-then-is_some : goal.returns-then-is_some
returns-then-is_some c =
    let p = c.args.lists.checked.now in
    let q = question c.args.query.now in
    let policy = c.policy.ensures.value in
    let same = c.as_slice-entries.ensures ∙ ap (λ (p : Policy). p.entries) policy in
    let count = ap (λ l. length l) same in
    let positive = c.if-left-eq0.false in
    let up = c.last_in_both_before-left.ensures.within in
    let within = c.loop-left.invariant.within in
    let whole = c.requires.within in
    let at = c.args.start + (c.last_in_both_before-left.result - 1) in
    let there = slice_get_read c.as_slice-entries.result.now (length c.as_slice-entries.result.now) at
    c.index-entries-start.result refl (omega (arith, count, positive, up, within, whole)) c.index-entries-start.is in
    let is_here : option_or c.search_candidate-found.result (last_set (map (entry_found p q) (take at p.entries)))
    ≡ c.search_candidate-found.result =
    option_or-some c.search_candidate-found.result (last_set (map (entry_found p q) (take at p.entries))) (sym c.if-is_some.ensures) in
    c.loop-left.invariant.same
    ∙ skipped (entry_found p q) p.entries (at + 1) (c.args.start + c.loop-left.left) (omega (arith, positive, up))
    (λ k e l h there.
    let place : c.args.start + (k - c.args.start) ≡ k = omega (arith, l) in
    c.requires.silent (k - c.args.start) e (omega (arith, l, h, within)) (ap (slice_get p.entries) place ∙ there)
    (c.last_in_both_before-left.ensures.none (k - c.args.start) (omega (arith, l, positive)) (omega (arith, l, h))))
    ∙ last-there (entry_found p q) p.entries at c.index-entries-start.result (ap (λ l. slice_get l at) (sym same) ∙ there)
    ∙ ap (λ o. option_or o (last_set (map (entry_found p q) (take at p.entries)))) (sym c.search_candidate-found.ensures)
    ∙ is_here
    ∙ sym (option_or-some c.search_candidate-found.result
    (last_set (map (entry_found p q) (take c.args.start p.entries))) (sym c.if-is_some.ensures))

pub loop-left-preserved : goal.loop-left-preserved
loop-left-preserved c =
    let p = c.args.lists.checked.now in
    let q = question c.args.query.now in
    let policy = c.policy.ensures.value in
    let same = c.as_slice-entries.ensures ∙ ap (λ (p : Policy). p.entries) policy in
    let count = ap (λ l. length l) same in
    let positive = c.if-left-eq0.false in
    let up = c.last_in_both_before-left.ensures.within in
    let within = c.loop-left.invariant.within in
    let whole = c.requires.within in
    let at = c.args.start + (c.last_in_both_before-left.result - 1) in
    let there = slice_get_read c.as_slice-entries.result.now (length c.as_slice-entries.result.now) at
    c.index-entries-start.result refl (omega (arith, count, positive, up, within, whole)) c.index-entries-start.is in
    record {
      within = omega (arith, up, within);
      same =
          c.loop-left.invariant.same
          ∙ skipped (entry_found p q) p.entries (at + 1) (c.args.start + c.loop-left.left) (omega (arith, positive, up))
          (λ k e l h there.
          let place : c.args.start + (k - c.args.start) ≡ k = omega (arith, l) in
          c.requires.silent (k - c.args.start) e (omega (arith, l, h, within)) (ap (slice_get p.entries) place ∙ there)
          (c.last_in_both_before-left.ensures.none (k - c.args.start) (omega (arith, l, positive)) (omega (arith, l, h))))
          ∙ last-there (entry_found p q) p.entries at c.index-entries-start.result (ap (λ l. slice_get l at) (sym same) ∙ there)
          ∙ ap (λ o. option_or o (last_set (map (entry_found p q) (take at p.entries)))) (sym c.search_candidate-found.ensures)
          ∙ or-none c.search_candidate-found.result (last_set (map (entry_found p q) (take at p.entries))) (sym c.if-is_some.ensures);
    }
