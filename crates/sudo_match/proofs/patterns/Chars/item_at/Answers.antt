use Rattle.std.proofs.Common.{sym, ap, ◌∙◌, ◌+◌, length, drop, arith}
use Rattle.std.specs.Prelude.{Some, option_map}
use Rattle.std.proofs.lemmas.Option.{slice_get_within}
use Rattle.sudo_match.specs.Class.{class_name}
use Rattle.sudo_match.specs.Body.Pattern.{item_of}
use Rattle.sudo_match.specs.Reading.{seen}
use Rattle.sudo_match.specs.Body.Shown.{class_of, held_by}
use Rattle.sudo_match.proofs.CharsLemmas.{drop-none}
use Rattle.sudo_match.proofs.ItemLemmas.{item_of-class, item_of-other, class_at-within, class_at-class_at_start}
use Rattle.sudo_match.proofs.patterns.Chars.item_at.Goals as goal

pub returns-in_err-first-clause-value : goal.returns-in_err-first-clause-value
returns-in_err-first-clause-value c =
    c.from_residual.ensures ∙ sym (ap (λ cs. option_map (held_by c.args.byte) (item_of cs))
    (drop-none c.args.at (seen c.args.self.now) (sym c.get.ensures ∙ c.in_err-first.was)))

pub range_at-requires : goal.range_at-requires
range_at-requires c = slice_get_within (seen c.args.self.now) c.args.at c.in_ok-first.first (sym c.get.ensures ∙ c.in_ok-first.was)

pub returns-in-Some-clause-value : goal.returns-in-Some-clause-value
returns-in-Some-clause-value c =
    ap (λ n. Some (c.holds.result, length n + 3)) c.name.ensures
    ∙ ap (λ b. Some (b, length (class_name (class_of c.in-Some.class)) + 3)) c.holds.ensures
    ∙ sym (ap (option_map (held_by c.args.byte)) (item_of-class c.args.at (seen c.args.self.now) c.in_ok-first.first
    (class_of c.in-Some.class) (sym c.get.ensures ∙ c.in_ok-first.was)
    (class_at-class_at_start (drop c.args.at (seen c.args.self.now)) c.class_at.result c.class_at.ensures
    ∙ ap (option_map class_of) c.in-Some.is)))

pub returns-in-Some-clause-within : goal.returns-in-Some-clause-within
returns-in-Some-clause-within c =
    let within = class_at-within (class_of c.in-Some.class) c.args.at (seen c.args.self.now)
    (class_at-class_at_start (drop c.args.at (seen c.args.self.now)) c.class_at.result c.class_at.ensures
    ∙ ap (option_map class_of) c.in-Some.is) c.requires in
    let same = ap length c.name.ensures in omega (arith, within, same)

pub returns-in-None-clause-value : goal.returns-in-None-clause-value
returns-in-None-clause-value c =
    ap Some c.range_at.ensures.value
    ∙ sym (ap (option_map (held_by c.args.byte)) (item_of-other c.args.at (seen c.args.self.now) c.in_ok-first.first
    (sym c.get.ensures ∙ c.in_ok-first.was)
    (class_at-class_at_start (drop c.args.at (seen c.args.self.now)) c.class_at.result c.class_at.ensures
    ∙ ap (option_map class_of) c.in-None.is)))
