use Rattle.std.proofs.Common.{sym, ap, ◌∙◌}
use Rattle.std.specs.Prelude.{Some}
use Rattle.sudo_match.specs.Reading.{seen}
use Rattle.sudo_match.specs.Body.Reading.{text_of}
use Rattle.sudo_match.proofs.StepLemmas.{starred, takes, stuck-byte, stuck-end, stuck-text, finished}
use Rattle.sudo_match.proofs.patterns.Chars.step.Goals as goal

pub returns-then-is_plain_at-clause-is : goal.returns-then-is_plain_at-clause-is
returns-then-is_plain_at-clause-is c = starred c.args.at (seen c.args.self.now) (sym c.is_plain_at.ensures ∙ c.if-is_plain_at.true)

pub returns-in_default-clause-is : goal.returns-in_default-clause-is
returns-in_default-clause-is c =
    stuck-end c.args.slash (seen c.args.self.now) (text_of c.args.text.now) c.args.at c.args.offset c.in-Some.byte
    (sym c.get.ensures ∙ c.in-Some.is) (sym c.part_holds.ensures.value ∙ c.in_default.is)

pub returns-then-holds-clause-is : goal.returns-then-holds-clause-is
returns-then-holds-clause-is c =
    takes c.args.slash (seen c.args.self.now) (text_of c.args.text.now) c.args.at c.args.offset c.in-Some.byte c.in-Some-part_holds.more
    (sym c.is_plain_at.ensures ∙ c.if-is_plain_at.false) (sym c.get.ensures ∙ c.in-Some.is)
    (sym c.part_holds.ensures.value ∙ c.in-Some-part_holds.is ∙ ap (λ b. Some (b, c.in-Some-part_holds.more)) c.if-holds.true)
    c.in-Some-part_holds.ensures.within

pub returns-else-holds-clause-is : goal.returns-else-holds-clause-is
returns-else-holds-clause-is c =
    stuck-byte c.args.slash (seen c.args.self.now) (text_of c.args.text.now) c.args.at c.args.offset c.in-Some.byte
    c.in-Some-part_holds.more
    (sym c.is_plain_at.ensures ∙ c.if-is_plain_at.false) (sym c.get.ensures ∙ c.in-Some.is)
    (sym c.part_holds.ensures.value ∙ c.in-Some-part_holds.is ∙ ap (λ b. Some (b, c.in-Some-part_holds.more)) c.if-holds.false)

pub returns-then-at-len-clause-is : goal.returns-then-at-len-clause-is
returns-then-at-len-clause-is c =
    stuck-text c.args.slash (seen c.args.self.now) (text_of c.args.text.now) c.args.at c.args.offset
    (sym c.is_plain_at.ensures ∙ c.if-is_plain_at.false) (sym c.get.ensures ∙ c.in-None.is) (rw c.len.ensures at c.if-at-len.true)

pub returns-else-at-len-clause-is : goal.returns-else-at-len-clause-is
returns-else-at-len-clause-is c =
    finished c.args.slash (seen c.args.self.now) (text_of c.args.text.now) c.args.at c.args.offset
    (sym c.get.ensures ∙ c.in-None.is) (rw c.len.ensures at c.if-at-len.false)
