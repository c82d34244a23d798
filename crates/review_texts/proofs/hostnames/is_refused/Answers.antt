use Rattle.std.proofs.Common.{List}
use Rattle.sudo_grammar.specs.declared.fault.Unsupported.TheVariants as forms
use Rattle.review_texts.proofs.LoneLines.{form_refused, refused_found}
use Rattle.review_texts.proofs.hostnames.is_refused.Goals as goal

pub returns-clause-yes : goal.returns-clause-yes
returns-clause-yes c = λ is.
    form_refused c.args.line.now c.in_ok-found.found forms.HostEscape c.in_ok-found.ensures (c.is_escape.ensures.yes is)

pub returns-clause-only : goal.returns-clause-only
returns-clause-only c = λ refused.
    c.is_escape.ensures.only
    (refused_found c.args.line.now c.in_ok-found.found forms.HostEscape c.in_ok-found.ensures refused)
