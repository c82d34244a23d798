use Rattle.std.proofs.Common.{sym, ◌∙◌, ap}
use Rattle.std.specs.Prelude.{option_copied}
use Rattle.sudo_verdict.proofs.index.keys.Lists.rule_keys.Goals as goal

pub returns-in-Some-get : goal.returns-in-Some-get
returns-in-Some-get c e users sections there is =
    rw (c.as_slice.ensures, c.as_slice-in-Some-get.ensures)
    ((c.args.self.now.known c.in-Some.keys.now (ap option_copied c.in-Some.is) c.args.index c.in-Some-get.row.now e
    (sym c.get.ensures ∙ ap option_copied c.in-Some-get.is) there).1
    users sections is)
