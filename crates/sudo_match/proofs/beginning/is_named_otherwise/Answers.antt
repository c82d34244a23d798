use Rattle.std.proofs.Common.{◌<◌, ◌≤◌, ◌⊎◌, inl, inr, ◌||◌, false, sym, ◌∙◌, ap, arith, get_or, length}
use Rattle.std.specs.Prelude.{◌==◌}
use Rattle.std.proofs.lemmas.Bool.{cases_lt}
use Rattle.std.proofs.lemmas.Option.{slice_get-get_or}
use Rattle.sudo_match.proofs.BeginningLemmas.{named-stop, named-more, named-found, named-end}
use Rattle.sudo_match.proofs.beginning.is_named_otherwise.Goals as goal

pub returns-then-is_special-byte : goal.returns-then-is_special-byte
returns-then-is_special-byte c =
    let here = c.loop-at-test.true in
    let least = c.min-count.ensures in
    let at = c.loop-at.at in
    let ch = get_or c.args.chars.now at (record { byte = 0; escaped = false }) in
    let b = get_or c.args.name.now at 0 in
    sym
    (c.loop-at.invariant
    ∙ named-stop c.args.chars.now c.args.name.now at b ch
    (slice_get-get_or c.args.chars.now at (record { byte = 0; escaped = false }) (omega (arith, here, least)))
    (slice_get-get_or c.args.name.now at 0 (omega (arith, here, least)))
    (ap (λ x. x || b == 46) (sym c.is_special.ensures) ∙ c.if-is_special-byte.true))

pub returns-then-to_ascii_lowercase : goal.returns-then-to_ascii_lowercase
returns-then-to_ascii_lowercase c =
    let here = c.loop-at-test.true in
    let least = c.min-count.ensures in
    let at = c.loop-at.at in
    let ch = get_or c.args.chars.now at (record { byte = 0; escaped = false }) in
    let b = get_or c.args.name.now at 0 in
    sym
    (c.loop-at.invariant
    ∙ named-found c.args.chars.now c.args.name.now at b ch
    (slice_get-get_or c.args.chars.now at (record { byte = 0; escaped = false }) (omega (arith, here, least)))
    (slice_get-get_or c.args.name.now at 0 (omega (arith, here, least)))
    (ap (λ x. x || b == 46) (sym c.is_special.ensures) ∙ c.if-is_special-byte.false)
    (λ e. c.if-to_ascii_lowercase.true (c.to_ascii_lowercase.ensures.value ∙ e ∙ sym c.to_ascii_lowercase-in-loop-at.ensures.value)))

pub loop-at-preserved : goal.loop-at-preserved
loop-at-preserved c =
    let here = c.loop-at-test.true in
    let least = c.min-count.ensures in
    let at = c.loop-at.at in
    let ch = get_or c.args.chars.now at (record { byte = 0; escaped = false }) in
    let b = get_or c.args.name.now at 0 in
    c.loop-at.invariant
    ∙ named-more c.args.chars.now c.args.name.now at b ch
    (slice_get-get_or c.args.chars.now at (record { byte = 0; escaped = false }) (omega (arith, here, least)))
    (slice_get-get_or c.args.name.now at 0 (omega (arith, here, least)))
    (ap (λ x. x || b == 46) (sym c.is_special.ensures) ∙ c.if-is_special-byte.false)
    (sym c.to_ascii_lowercase.ensures.value ∙ c.if-to_ascii_lowercase.false ∙ c.to_ascii_lowercase-in-loop-at.ensures.value)

pub returns : goal.returns
returns c = sym (c.loop-at.invariant ∙ named-end c.args.chars.now c.args.name.now c.loop-at.at
    (ends (cases_lt (length c.args.chars.now) (length c.args.name.now))))
  where
    ends : (length c.args.chars.now < length c.args.name.now) ⊎ (length c.args.name.now ≤ length c.args.chars.now) →
        (length c.args.chars.now ≤ c.loop-at.at) ⊎ (length c.args.name.now ≤ c.loop-at.at)
    ends (inl less) = let least = c.min-count.ensures in let end = c.loop-at-test.false in inl (omega (arith, less, least, end))
    ends (inr more) = let least = c.min-count.ensures in let end = c.loop-at-test.false in inr (omega (arith, more, least, end))
