use Rattle.std.proofs.Common.{sym, ap, ◌∙◌, ◌+◌, drop, arith}
use Rattle.std.specs.Prelude.{option_map, Some}
use Rattle.std.proofs.lemmas.Option.{slice_get_within}
use Rattle.sudo_match.specs.Pattern.{is_plain, bracket_after}
use Rattle.sudo_match.specs.Body.Pattern.{part_of}
use Rattle.sudo_match.specs.Reading.{seen}
use Rattle.sudo_match.proofs.CharsLemmas.{drop-none}
use Rattle.sudo_match.proofs.PartLemmas.{part_answer, part_of-at, part-star, part-any, part-other, other-some, other-none}
use Rattle.sudo_match.proofs.patterns.Chars.part_holds.Goals as goal

pub returns-in_err-first-clause-value : goal.returns-in_err-first-clause-value
returns-in_err-first-clause-value c =
    c.from_residual.ensures
    ∙ sym (ap (λ cs. option_map (part_answer c.args.slash c.args.byte) (part_of cs))
    (drop-none c.args.at (seen c.args.self.now) (sym c.get.ensures ∙ c.in_err-first.was)))

pub returns-then-is_plain-clause-value : goal.returns-then-is_plain-clause-value
returns-then-is_plain-clause-value c =
    sym (ap (option_map (part_answer c.args.slash c.args.byte))
    (part_of-at c.args.at (seen c.args.self.now) c.in_ok-first.first (sym c.get.ensures ∙ c.in_ok-first.was)
    ∙ ap Some (part-star c.in_ok-first.first (drop (c.args.at + 1) (seen c.args.self.now)) (sym c.is_plain.ensures ∙ c.if-is_plain.true))))

pub returns-then-is_plain-clause-within : goal.returns-then-is_plain-clause-within
returns-then-is_plain-clause-within c =
    let within = slice_get_within (seen c.args.self.now) c.args.at c.in_ok-first.first (sym c.get.ensures
    ∙ c.in_ok-first.was) in omega (arith, within)

pub returns-then-is_plain-2-clause-value : goal.returns-then-is_plain-2-clause-value
returns-then-is_plain-2-clause-value c =
    ap (λ b. Some (b, 0)) c.is_free.ensures
    ∙ sym (ap (option_map (part_answer c.args.slash c.args.byte))
    (part_of-at c.args.at (seen c.args.self.now) c.in_ok-first.first (sym c.get.ensures ∙ c.in_ok-first.was)
    ∙ ap Some (part-any c.in_ok-first.first (drop (c.args.at + 1) (seen c.args.self.now)) (sym c.is_plain.ensures ∙ c.if-is_plain.false)
    (sym c.is_plain-2.ensures ∙ c.if-is_plain-2.true))))

pub returns-then-is_plain-2-clause-within : goal.returns-then-is_plain-2-clause-within
returns-then-is_plain-2-clause-within c =
    let within = slice_get_within (seen c.args.self.now) c.args.at c.in_ok-first.first (sym c.get.ensures
    ∙ c.in_ok-first.was) in omega (arith, within)

pub bracket_at-requires-clause-within : goal.bracket_at-requires-clause-within
bracket_at-requires-clause-within c = slice_get_within (seen c.args.self.now) c.args.at c.in_ok-first.first
    (sym c.get.ensures ∙ c.in_ok-first.was)

pub returns-in-Some-clause-value : goal.returns-in-Some-clause-value
returns-in-Some-clause-value c =
    sym (ap (option_map (part_answer c.args.slash c.args.byte))
    (part_of-at c.args.at (seen c.args.self.now) c.in_ok-first.first (sym c.get.ensures ∙ c.in_ok-first.was)
    ∙ ap Some (part-other c.in_ok-first.first (drop (c.args.at + 1) (seen c.args.self.now)) (sym c.is_plain.ensures ∙ c.if-is_plain.false)
    (sym c.is_plain-2.ensures ∙ c.if-is_plain-2.false)))
    ∙ ap Some (other-some c.args.slash c.args.byte c.in_ok-first.first.byte (is_plain 91 c.in_ok-first.first)
    (bracket_after (drop (c.args.at + 1) (seen c.args.self.now))) c.in-Some.bracket (sym c.bracket_at.ensures.value ∙ c.in-Some.is)))

pub returns-in-None-clause-value : goal.returns-in-None-clause-value
returns-in-None-clause-value c =
    sym (ap (option_map (part_answer c.args.slash c.args.byte))
    (part_of-at c.args.at (seen c.args.self.now) c.in_ok-first.first (sym c.get.ensures ∙ c.in_ok-first.was)
    ∙ ap Some (part-other c.in_ok-first.first (drop (c.args.at + 1) (seen c.args.self.now)) (sym c.is_plain.ensures ∙ c.if-is_plain.false)
    (sym c.is_plain-2.ensures ∙ c.if-is_plain-2.false)))
    ∙ ap Some (other-none c.args.slash c.args.byte c.in_ok-first.first.byte (is_plain 91 c.in_ok-first.first)
    (bracket_after (drop (c.args.at + 1) (seen c.args.self.now))) (sym c.bracket_at.ensures.value ∙ c.in-None.is)))

pub returns-in-None-clause-within : goal.returns-in-None-clause-within
returns-in-None-clause-within c =
    let within = slice_get_within (seen c.args.self.now) c.args.at c.in_ok-first.first (sym c.get.ensures
    ∙ c.in_ok-first.was) in omega (arith, within)
