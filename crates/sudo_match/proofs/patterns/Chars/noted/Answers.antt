use Rattle.std.proofs.Common.{sym, ◌∙◌, subst}
use Rattle.sudo_match.specs.Reading.{seen}
use Rattle.sudo_match.specs.Body.Closing.{Knows, NeverCloses}
use Rattle.sudo_match.proofs.ClosingLemmas.{first-never, knows-first}
use Rattle.sudo_match.proofs.patterns.Chars.noted.Goals as goal

pub returns-then-known-start : goal.returns-then-known-start
returns-then-known-start c =
    let cs = seen c.args.self.now in
    let here = first-never cs c.items_start-start.result (c.items_start-start.ensures.open c.requires.open)
    (sym c.is_plain_at.ensures ∙ c.if-is_plain_at.false) in
    record {
      knows =
          subst (Knows cs) (sym c.with_first.ensures)
          (knows-first cs c.moved_to-known.result c.moved_to-known.ensures.knows (subst (NeverCloses cs) (sym c.if-known-start.true) here));
    }

pub returns-else-known-start : goal.returns-else-known-start
returns-else-known-start c =
    let cs = seen c.args.self.now in
    let here = first-never cs c.items_start-start.result (c.items_start-start.ensures.open c.requires.open)
    (sym c.is_plain_at.ensures ∙ c.if-is_plain_at.false) in
    record {
      knows =
          subst (Knows cs) (sym c.with_first-else-known-start.ensures)
          (knows-first cs c.none.result (c.none.ensures.nothing cs) (subst (NeverCloses cs) (sym c.none.ensures.at) here));
    }
