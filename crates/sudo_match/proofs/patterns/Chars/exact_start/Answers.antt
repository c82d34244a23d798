use Rattle.std.proofs.Common.{false, sym, ◌∙◌, arith, get_or}
use Rattle.std.proofs.lemmas.Option.{slice_get-get_or}
use Rattle.sudo_match.specs.Reading.{seen}
use Rattle.sudo_match.specs.Body.Reading.{text_of}
use Rattle.sudo_match.proofs.CharsLemmas.{exact-char, plain-byte}
use Rattle.sudo_match.proofs.StepLemmas.{literal-kept, literal-differs}
use Rattle.sudo_match.proofs.patterns.Chars.exact_start.Goals as goal

pub returns-then-text-at-clause-differs : goal.returns-then-text-at-clause-differs
returns-then-text-at-clause-differs c _ =
    let here = c.loop-at-test.true in
    let least = c.min-count.ensures in
    let ch = get_or c.args.self.now.chars.now c.loop-at.at (record { byte = 0; escaped = false }) in
    literal-differs c.args.slash (seen c.args.self.now) (text_of c.args.text.now) c.loop-at.at
    (get_or c.args.text.now.bytes.now c.loop-at.at 0) ch c.loop-at.invariant
    (exact-char c.args.self.now c.loop-at.at c.requires.exact (omega (arith, here, least))
    ∙ slice_get-get_or c.args.self.now.chars.now c.loop-at.at (record { byte = 0; escaped = false }) (omega (arith, here, least)))
    (sym c.is_special.ensures ∙ c.if-is_special.false)
    (plain-byte c.args.text.now c.loop-at.at c.requires.plain
    ∙ slice_get-get_or c.args.text.now.bytes.now c.loop-at.at 0 (omega (arith, here, least)))
    c.if-text-at.true

pub loop-at-preserved : goal.loop-at-preserved
loop-at-preserved c =
    let here = c.loop-at-test.true in
    let least = c.min-count.ensures in
    let ch = get_or c.args.self.now.chars.now c.loop-at.at (record { byte = 0; escaped = false }) in
    literal-kept c.args.slash (seen c.args.self.now) (text_of c.args.text.now) c.loop-at.at
    (get_or c.args.text.now.bytes.now c.loop-at.at 0) ch c.loop-at.invariant
    (exact-char c.args.self.now c.loop-at.at c.requires.exact (omega (arith, here, least))
    ∙ slice_get-get_or c.args.self.now.chars.now c.loop-at.at (record { byte = 0; escaped = false }) (omega (arith, here, least)))
    (sym c.is_special.ensures ∙ c.if-is_special.false)
    (plain-byte c.args.text.now c.loop-at.at c.requires.plain
    ∙ slice_get-get_or c.args.text.now.bytes.now c.loop-at.at 0 (omega (arith, here, least)))
    c.if-text-at.false
