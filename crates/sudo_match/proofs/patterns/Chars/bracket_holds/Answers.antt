use Rattle.std.proofs.Common.{ℕ, Bool, sym, ap, ◌∙◌, ◌+◌, ◌&&◌, not, true, drop, arith}
use Rattle.std.specs.Prelude.{option_map, Some}
use Rattle.sudo_match.specs.Pattern.{items_after, is_plain, is_free}
use Rattle.sudo_match.specs.Reading.{seen}
use Rattle.sudo_match.proofs.CharsLemmas.{seen-short, has-within}
use Rattle.sudo_match.proofs.PartLemmas.{bracket_after-complement, bracket_after-plain, set_answer, complement_answer, plain-answer}
use Rattle.sudo_match.proofs.patterns.Chars.bracket_holds.Goals as goal

pub overflow_add-at : goal.overflow_add-at
overflow_add-at c = omega (arith, seen-short c.args.self.now)

pub items_hold-requires-clause-within : goal.items_hold-requires-clause-within
items_hold-requires-clause-within c =
    let within = has-within (is_plain 33) c.args.at (seen c.args.self.now) (sym c.is_plain_at.ensures ∙ c.if-is_plain_at.true) in
    omega (arith, within)

pub returns-in_err-holds-clause-value : goal.returns-in_err-holds-clause-value
returns-in_err-holds-clause-value c =
    c.from_residual.ensures
    ∙ sym (ap (option_map (set_answer c.args.slash c.args.byte))
    (bracket_after-complement c.args.at (seen c.args.self.now) (sym c.is_plain_at.ensures ∙ c.if-is_plain_at.true))
    ∙ complement_answer c.args.slash c.args.byte (items_after 0 true (drop (c.args.at + 1) (seen c.args.self.now)))
    ∙ ap (option_map (λ (q : Bool × ℕ). (is_free c.args.slash c.args.byte && not q.0, q.1 + 1)))
    (sym c.items_hold.ensures.value ∙ c.in_err-holds.was))

pub overflow_add-result : goal.overflow_add-result
overflow_add-result c = omega (arith, seen-short c.args.self.now, c.in_ok-holds.ensures.within)

pub returns-in_err-holds-2-clause-value : goal.returns-in_err-holds-2-clause-value
returns-in_err-holds-2-clause-value c =
    c.from_residual-in_err-holds-2.ensures
    ∙ sym (ap (option_map (set_answer c.args.slash c.args.byte)) (bracket_after-plain c.args.at (seen c.args.self.now)
    (sym c.is_plain_at.ensures ∙ c.if-is_plain_at.false))
    ∙ plain-answer c.args.slash c.args.byte (items_after 0 true (drop c.args.at (seen c.args.self.now)))
    ∙ ap (option_map (λ (q : Bool × ℕ). (is_free c.args.slash c.args.byte && q.0, q.1)))
    (sym c.items_hold-else-is_plain_at.ensures.value ∙ c.in_err-holds-2.was))

pub returns-in_ok-holds-clause-value : goal.returns-in_ok-holds-clause-value
returns-in_ok-holds-clause-value c =
    sym (ap (option_map (set_answer c.args.slash c.args.byte))
    (bracket_after-complement c.args.at (seen c.args.self.now) (sym c.is_plain_at.ensures ∙ c.if-is_plain_at.true))
    ∙ complement_answer c.args.slash c.args.byte (items_after 0 true (drop (c.args.at + 1) (seen c.args.self.now)))
    ∙ ap (option_map (λ (q : Bool × ℕ). (is_free c.args.slash c.args.byte && not q.0, q.1 + 1)))
    (sym c.items_hold.ensures.value ∙ c.in_ok-holds.was)
    ∙ ap (λ f. Some (f && not c.in_ok-holds.holds, c.in_ok-holds.taken + 1)) (sym c.is_free-is_free.ensures))

pub returns-in_ok-holds-2-clause-value : goal.returns-in_ok-holds-2-clause-value
returns-in_ok-holds-2-clause-value c =
    sym (ap (option_map (set_answer c.args.slash c.args.byte)) (bracket_after-plain c.args.at (seen c.args.self.now)
    (sym c.is_plain_at.ensures ∙ c.if-is_plain_at.false))
    ∙ plain-answer c.args.slash c.args.byte (items_after 0 true (drop c.args.at (seen c.args.self.now)))
    ∙ ap (option_map (λ (q : Bool × ℕ). (is_free c.args.slash c.args.byte && q.0, q.1)))
    (sym c.items_hold-else-is_plain_at.ensures.value ∙ c.in_ok-holds-2.was)
    ∙ ap (λ f. Some (f && c.in_ok-holds-2.holds, c.in_ok-holds-2.taken)) (sym c.is_free-is_free.ensures))
