use Rattle.std.proofs.Common.{◌≡◌, sym, ap, ◌∙◌, ◌+◌, map, drop, arith, get_or}
use Rattle.std.proofs.lemmas.Option.{slice_get-get_or}
use Rattle.std.proofs.lemmas.Bool.{and_left}
use Rattle.sudo_match.specs.Pattern.{begins, is_plain}
use Rattle.sudo_match.specs.Reading.{seen}
use Rattle.sudo_match.proofs.CharsLemmas.{begins-name, begins-nothing, drop-some, drop-all, and-then}
use Rattle.sudo_match.proofs.patterns.Chars.spells_at.Goals as goal

pub returns-then-not-is_plain_at : goal.returns-then-not-is_plain_at
returns-then-not-is_plain_at c =
    sym (c.loop-i.invariant
    ∙ begins-name c.args.name.now c.loop-i.i (c.args.at + c.loop-i.i) (seen c.args.self.now) (get_or c.args.name.now c.loop-i.i 0)
    (drop-some c.loop-i.i c.args.name.now _ (slice_get-get_or c.args.name.now c.loop-i.i 0 c.loop-i-test.true))
    ∙ and_left _ _ (sym c.is_plain_at.ensures ∙ c.if-not-is_plain_at.true))

pub loop-i-preserved : goal.loop-i-preserved
loop-i-preserved c =
    c.loop-i.invariant
    ∙ begins-name c.args.name.now c.loop-i.i (c.args.at + c.loop-i.i) (seen c.args.self.now) (get_or c.args.name.now c.loop-i.i 0)
    (drop-some c.loop-i.i c.args.name.now _ (slice_get-get_or c.args.name.now c.loop-i.i 0 c.loop-i-test.true))
    ∙ and-then _ _ (sym c.is_plain_at.ensures ∙ c.if-not-is_plain_at.false)
    ∙ (let e : c.args.at + c.loop-i.i + 1 ≡ c.args.at + (c.loop-i.i + 1) = omega arith in
    ap (λ k. begins (map is_plain (drop (c.loop-i.i + 1) c.args.name.now)) (drop k (seen c.args.self.now))) e)

pub returns : goal.returns
returns c =
    sym (c.loop-i.invariant
    ∙ ap (λ n. begins (map is_plain n) (drop (c.args.at + c.loop-i.i) (seen c.args.self.now)))
    (drop-all c.loop-i.i c.args.name.now c.loop-i-test.false)
    ∙ begins-nothing (drop (c.args.at + c.loop-i.i) (seen c.args.self.now)))
