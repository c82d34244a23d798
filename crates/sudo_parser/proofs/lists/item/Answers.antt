use Rattle.std.proofs.Common.{List, Result, Ok, Err, ℕ}
use Rattle.std.specs.Result.{IfErr}
use Rattle.sudo_text.specs.declared.token.Token.{Token}
use Rattle.sudo_grammar.specs.declared.kind.Kind.{Kind}
use Rattle.sudo_parser.specs.declared.stops.ParserStop.{ParserStop}
use Rattle.sudo_parser.specs.Body.Lists.{ReadsBangs, StopsAtMember, StopsInItem}
use Rattle.sudo_parser.specs.Body.Unread.{tokens_left}
use Rattle.sudo_parser.proofs.ListSteps.{item-stops}
use Rattle.sudo_parser.proofs.lists.item.Goals as goal

go : {X : Type 0} (kind : Kind) (ts : List Token) (count : ℕ) (rest : List Token) (r : Result X ParserStop) → ReadsBangs ts count rest
    → IfErr r (StopsAtMember kind count rest) → IfErr r (StopsInItem kind ts)
go kind ts count rest (Ok x) b h = h
go kind ts count rest (Err e) b h = item-stops kind ts count rest e b h

pub returns-clause-stops : goal.returns-clause-stops
returns-clause-stops c =
    go c.args.kind (tokens_left c.args.unread.now) c.take_bangs-bangs.result (tokens_left c.take_bangs-bangs.new.self)
    c.member.result c.take_bangs-bangs.ensures.reads c.member.ensures.stops
