use Rattle.std.proofs.Common.{◌≡◌, ◌+◌, ◌&&◌, not, cond, sym, ap, ◌∙◌, arith}
use Rattle.std.specs.Prelude.{slice_get}
use Rattle.std.proofs.lemmas.Option.{slice_get_within}
use Rattle.sudo_match.specs.Body.Shown.{held_by}
use Rattle.sudo_match.specs.Pattern.{Range, Single}
use Rattle.sudo_match.specs.Pattern.{has, is_plain}
use Rattle.sudo_match.specs.Reading.{seen}
use Rattle.sudo_match.proofs.CharsLemmas.{seen-short, range_at-drop-none, range_at-drop-some, and-then, and-else}
use Rattle.sudo_match.proofs.patterns.Chars.range_at.Goals as goal
use Rattle.sudo_match.proofs.patterns.Chars.range_at.Goals.{then-is_plain_at, else-is_plain_at}

pub overflow_add-at : goal.overflow_add-at
overflow_add-at c = omega (arith, seen-short c.args.self.now)

pub returns-in_default-clause-value : goal.returns-in_default-clause-value
returns-in_default-clause-value c =
    sym (ap (held_by c.args.byte) (range_at-drop-none c.args.first c.args.at (seen c.args.self.now) (sym c.get.ensures ∙ c.in_default.is)))

pub overflow_add-at-2 : goal.overflow_add-at-2
overflow_add-at-2 c = omega (arith, seen-short c.args.self.now)

pub returns-then-is_range-clause-value : goal.returns-then-is_range-clause-value
returns-then-is_range-clause-value c =
    let test : c.if-is_plain_at.is_range ≡ (has (is_plain 45) (slice_get (seen c.args.self.now) (c.args.at + 1))
    && not (is_plain 93 c.in-Some.last)) =
    elim c.if-is_plain_at.branch [
      | then-is_plain_at w ↦ w.is_range-is ∙ ap not w.is_plain.ensures
          ∙ sym (and-then (has (is_plain 45) (slice_get (seen c.args.self.now) (c.args.at + 1)))
          (not (is_plain 93 c.in-Some.last)) (sym c.is_plain_at.ensures ∙ w.if-is_plain_at.true))
      | else-is_plain_at w ↦
          let h = sym c.is_plain_at.ensures ∙ w.if-is_plain_at.false in w.is_range-is ∙ w.if-is_plain_at.false
          ∙ sym (and-else (has (is_plain 45) (slice_get (seen c.args.self.now) (c.args.at + 1)))
          (not (is_plain 93 c.in-Some.last)) h ∙ h)
    ] in
    ap (λ b. (b, 2)) c.is_between.ensures
    ∙ sym (ap (held_by c.args.byte) (range_at-drop-some c.args.first c.args.at (seen c.args.self.now) c.in-Some.last
    (sym c.get.ensures ∙ c.in-Some.is)
    ∙ ap (λ b. cond b (Range c.args.first.byte c.in-Some.last.byte, 2) (Single c.args.first.byte, 0)) (sym test ∙ c.if-is_range.true)))

pub returns-then-is_range-clause-within : goal.returns-then-is_range-clause-within
returns-then-is_range-clause-within c = slice_get_within (seen c.args.self.now) (c.args.at + 2) c.in-Some.last
    (sym c.get.ensures ∙ c.in-Some.is)

pub returns-else-is_range-clause-value : goal.returns-else-is_range-clause-value
returns-else-is_range-clause-value c =
    let test : c.if-is_plain_at.is_range ≡ (has (is_plain 45) (slice_get (seen c.args.self.now) (c.args.at + 1))
    && not (is_plain 93 c.in-Some.last)) =
    elim c.if-is_plain_at.branch [
      | then-is_plain_at w ↦ w.is_range-is ∙ ap not w.is_plain.ensures
          ∙ sym (and-then (has (is_plain 45) (slice_get (seen c.args.self.now) (c.args.at + 1)))
          (not (is_plain 93 c.in-Some.last)) (sym c.is_plain_at.ensures ∙ w.if-is_plain_at.true))
      | else-is_plain_at w ↦
          let h = sym c.is_plain_at.ensures ∙ w.if-is_plain_at.false in w.is_range-is ∙ w.if-is_plain_at.false
          ∙ sym (and-else (has (is_plain 45) (slice_get (seen c.args.self.now) (c.args.at + 1)))
          (not (is_plain 93 c.in-Some.last)) h ∙ h)
    ] in
    sym (ap (held_by c.args.byte) (range_at-drop-some c.args.first c.args.at (seen c.args.self.now) c.in-Some.last
    (sym c.get.ensures ∙ c.in-Some.is)
    ∙ ap (λ b. cond b (Range c.args.first.byte c.in-Some.last.byte, 2) (Single c.args.first.byte, 0)) (sym test ∙ c.if-is_range.false)))
