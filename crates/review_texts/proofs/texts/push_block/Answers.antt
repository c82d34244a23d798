use Rattle.std.proofs.Common.{List, Option, ℕ, subst}
use Rattle.std.specs.Prelude.{unwrap_or}
use Rattle.review_texts.specs.MaskedTexts.{IsBlock}
use Rattle.review_texts.proofs.Blocks.{pushed}
use Rattle.review_texts.proofs.texts.push_block.Goals as goal

pub returns-in-Some : goal.returns-in-Some
returns-in-Some c = pushed c.args.readable.now c.append.result c.args.line.now c.args.bytes.now c.in-Some.block
    c.args.masked.now c.append.new.self
    (subst (λ (found : Option (List ℕ)). IsBlock c.args.readable.now c.args.line.now c.args.bytes.now (unwrap_or found c.args.bytes.now))
    c.in-Some.is c.in_ok-block.ensures) c.append.ensures.ok

pub returns-in-None : goal.returns-in-None
returns-in-None c = pushed c.args.readable.now c.extend_from_slice.result c.args.line.now c.args.bytes.now c.args.bytes.now
    c.args.masked.now
    c.extend_from_slice.new.self
    (subst (λ (found : Option (List ℕ)). IsBlock c.args.readable.now c.args.line.now c.args.bytes.now (unwrap_or found c.args.bytes.now))
    c.in-None.is c.in_ok-block.ensures) c.extend_from_slice.ensures.ok
