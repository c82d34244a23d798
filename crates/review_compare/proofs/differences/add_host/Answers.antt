use Rattle.std.proofs.Common.{◌∙◌, [], option_copied, sym}
use Rattle.sudo_base.proofs.Options.{on_ok}
use Rattle.review_compare.specs.Body.AskClasses.{HaveAsk}
use Rattle.review_compare.specs.Body.Progress.{IsOnAsked, asking}
use Rattle.review_compare.proofs.ClassLemmas.{cells-none, cells-of}
use Rattle.review_compare.proofs.DifferenceLemmas.{other-host, same-on-host}
use Rattle.review_compare.proofs.differences.add_host.Goals as goal

pub returns-then-not-is_this_host : goal.returns-then-not-is_this_host
returns-then-not-is_this_host c =
    let p = c.args.pair.now in
    let s = c.args.spot in
    let scope = option_copied c.args.scope in
    let asked = HaveAsk (asking c.args.pair.now) c.args.asked.now in
    record {
      added = cells-none p c.args.classes.now.items (IsOnAsked p scope s.user s.host asked)
          (other-host p [] s scope asked c.requires.spot (sym c.is_this_host.ensures ∙ c.if-not-is_this_host.true));
      classes = c.requires.classes;
      right = c.requires.right;
    }

pub returns-then-not-may_differ_on : goal.returns-then-not-may_differ_on
returns-then-not-may_differ_on c =
    let p = c.args.pair.now in
    let s = c.args.spot in
    let scope = option_copied c.args.scope in
    let asked = HaveAsk (asking c.args.pair.now) c.args.asked.now in
    record {
      added = cells-none p c.args.classes.now.items (IsOnAsked p scope s.user s.host asked)
          (same-on-host p [] s scope asked c.requires.spot (c.may_differ_on.ensures c.if-not-may_differ_on.true));
      classes = c.requires.classes;
      right = c.requires.right;
    }

pub returns : goal.returns
returns c = record {
  added = on_ok c.add_spot.result
      (cells-of c.args.pair.now c.args.classes.now.items c.add_spot.new.classes.items c.args.spot.user c.args.spot.host
      (option_copied c.args.scope) (HaveAsk (asking c.args.pair.now) c.args.asked.now))
      c.add_spot.ensures.added;
  classes = c.add_spot.ensures.classes;
  right = c.add_spot.ensures.right;
}
