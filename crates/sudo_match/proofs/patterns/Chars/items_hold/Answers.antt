use Rattle.std.proofs.Common.{◌≡◌, sym, ap, subst, ◌∙◌, ◌+◌, ◌-◌, ◌||◌, false, drop, arith}
use Rattle.sudo_match.specs.Pattern.{items_after}
use Rattle.sudo_match.specs.Body.Pattern.{item_of}
use Rattle.sudo_match.specs.Reading.{seen}
use Rattle.sudo_match.proofs.CharsLemmas.{seen-short}
use Rattle.sudo_match.proofs.ItemLemmas.{held-some, held-none, found, found-more, found-end, items_after-none}
use Rattle.sudo_match.proofs.ItemLemmas.{items_after-close, items_after-next}
use Rattle.sudo_match.specs.Body.Closing.{NeverCloses}
use Rattle.sudo_match.proofs.ClosingLemmas.{never-first}
use Rattle.sudo_match.proofs.patterns.Chars.items_hold.Goals as goal

pub overflow_add-result : goal.overflow_add-result
overflow_add-result c = omega (arith, seen-short c.args.self.now, c.in_ok-is_held.ensures.within)

pub returns-then-closes_at-clause-value : goal.returns-then-closes_at-clause-value
returns-then-closes_at-clause-value c =
    found-end c.args.byte c.loop-known.holds c.args.start c.loop-known.at c.loop-known.invariant.from_start
    ∙ sym (c.loop-known.invariant.same
    ∙ ap (found c.args.byte c.loop-known.holds (c.loop-known.at - c.args.start))
    (items_after-close c.loop-known.is_first c.loop-known.at (seen c.args.self.now) (sym c.closes_at.ensures ∙ c.if-closes_at.true)))

pub overflow_add-at : goal.overflow_add-at
overflow_add-at c = omega (arith, seen-short c.args.self.now, c.in_ok-is_held.ensures.within)

pub overflow_add-at-in-loop-known : goal.overflow_add-at-in-loop-known
overflow_add-at-in-loop-known c = omega (arith, seen-short c.args.self.now, c.in_ok-is_held.ensures.within)

pub loop-known-preserved : goal.loop-known-preserved
loop-known-preserved c =
    let here = held-some c.args.byte (item_of (drop c.loop-known.at (seen c.args.self.now))) c.in_ok-is_held.is_held
    c.in_ok-is_held.more (sym c.item_at.ensures.value ∙ c.in_ok-is_held.was) in
    let count : c.loop-known.at - c.args.start + (c.in_ok-is_held.more + 1) ≡ c.loop-known.at + 1 + c.in_ok-is_held.more - c.args.start =
    omega (arith, c.loop-known.invariant.from_start) in
    record {
      from_start = omega (arith, c.loop-known.invariant.from_start);
      knows = c.moved_to-known.ensures.knows;
      within = omega (arith, c.in_ok-is_held.ensures.within);
      same = c.loop-known.invariant.same
          ∙ ap (found c.args.byte c.loop-known.holds (c.loop-known.at - c.args.start))
          (items_after-next c.loop-known.is_first c.loop-known.at (seen c.args.self.now) here.0 c.in_ok-is_held.more
          here.1 (sym c.closes_at.ensures ∙ c.if-closes_at.false))
          ∙ found-more c.args.byte c.loop-known.holds (c.loop-known.at - c.args.start) here.0 c.in_ok-is_held.more
          (items_after 0 false (drop (c.loop-known.at + 1 + c.in_ok-is_held.more) (seen c.args.self.now)))
          ∙ ap (λ b. found c.args.byte (c.loop-known.holds || b) (c.loop-known.at - c.args.start + (c.in_ok-is_held.more + 1))
          (items_after 0 false (drop (c.loop-known.at + 1 + c.in_ok-is_held.more) (seen c.args.self.now)))) here.2
          ∙ ap (λ n. found c.args.byte (c.loop-known.holds || c.in_ok-is_held.is_held) n
          (items_after 0 false (drop (c.loop-known.at + 1 + c.in_ok-is_held.more) (seen c.args.self.now)))) count;
    }

pub returns-in_err-is_held-clause-value : goal.returns-in_err-is_held-clause-value
returns-in_err-is_held-clause-value c =
    c.from_residual.ensures
    ∙ sym (c.loop-known.invariant.same
    ∙ ap (found c.args.byte c.loop-known.holds (c.loop-known.at - c.args.start))
    (items_after-none c.loop-known.is_first c.loop-known.at (seen c.args.self.now)
    (held-none c.args.byte (item_of (drop c.loop-known.at (seen c.args.self.now))) (sym c.item_at.ensures.value
    ∙ c.in_err-is_held.was))))

pub returns-then-has-clause-value : goal.returns-then-has-clause-value
returns-then-has-clause-value c =
    let known = c.has.ensures c.if-has.true in
    let here : NeverCloses (seen c.args.self.now) c.loop-known.at = subst (NeverCloses (seen c.args.self.now)) known.1
    (c.moved_to-known.ensures.knows.first known.0) in
    sym (c.loop-known.invariant.same
    ∙ ap (found c.args.byte c.loop-known.holds (c.loop-known.at - c.args.start))
    (never-first c.loop-known.is_first (seen c.args.self.now) c.loop-known.at here))
