use Rattle.std.proofs.Common.{sym, ap, ◌∙◌, ◌+◌, map, drop, length, arith}
use Rattle.std.proofs.lemmas.Bool.{and_left}
use Rattle.sudo_match.specs.Pattern.{is_plain, begins, class_end}
use Rattle.sudo_match.specs.Reading.{seen}
use Rattle.sudo_match.specs.Body.Shown.{class_of}
use Rattle.sudo_match.proofs.CharsLemmas.{begins-class_form, and-then, seen-short, class_name-short}
use Rattle.sudo_match.proofs.patterns.Chars.opens_class.Goals as goal

pub returns-then-not-is_plain_at : goal.returns-then-not-is_plain_at
returns-then-not-is_plain_at c =
    sym (begins-class_form (class_of c.args.class) c.args.at (seen c.args.self.now)
    ∙ and_left _ _ (sym c.is_plain_at.ensures ∙ c.if-not-is_plain_at.true))

pub overflow_add-at : goal.overflow_add-at
overflow_add-at c = omega (arith, seen-short c.args.self.now)

pub returns-then-not-is_at : goal.returns-then-not-is_at
returns-then-not-is_at c =
    sym (begins-class_form (class_of c.args.class) c.args.at (seen c.args.self.now)
    ∙ and-then _ _ (sym c.is_plain_at.ensures ∙ c.if-not-is_plain_at.false)
    ∙ and_left _ _ (sym c.is_at.ensures ∙ c.if-not-is_at.true))

pub overflow_add-at-2 : goal.overflow_add-at-2
overflow_add-at-2 c = omega (arith, seen-short c.args.self.now)

pub spells_at-requires : goal.spells_at-requires
spells_at-requires c =
    let short = class_name-short (class_of c.args.class) in
    let same = ap length c.name-name.ensures in omega (arith, seen-short c.args.self.now, short, same)

pub returns-then-not-spells_at : goal.returns-then-not-spells_at
returns-then-not-spells_at c =
    let name = c.name-name.ensures in
    sym (begins-class_form (class_of c.args.class) c.args.at (seen c.args.self.now)
    ∙ and-then _ _ (sym c.is_plain_at.ensures ∙ c.if-not-is_plain_at.false)
    ∙ and-then _ _ (sym c.is_at.ensures ∙ c.if-not-is_at.false)
    ∙ and_left _ _ (ap (λ n. begins (map is_plain n) (drop (c.args.at + 2) (seen c.args.self.now))) (sym name)
    ∙ sym c.spells_at.ensures ∙ c.if-not-spells_at.true))

pub closes_class-requires : goal.closes_class-requires
closes_class-requires c =
    let short = class_name-short (class_of c.args.class) in
    let same = ap length c.name-name.ensures in omega (arith, seen-short c.args.self.now, short, same)

pub returns : goal.returns
returns c =
    let name = c.name-name.ensures in
    c.closes_class.ensures
    ∙ ap (λ n. begins class_end (drop (c.args.at + 2 + length n) (seen c.args.self.now))) name
    ∙ sym (begins-class_form (class_of c.args.class) c.args.at (seen c.args.self.now)
    ∙ and-then _ _ (sym c.is_plain_at.ensures ∙ c.if-not-is_plain_at.false)
    ∙ and-then _ _ (sym c.is_at.ensures ∙ c.if-not-is_at.false)
    ∙ and-then _ _ (ap (λ n. begins (map is_plain n) (drop (c.args.at + 2) (seen c.args.self.now))) (sym name)
    ∙ sym c.spells_at.ensures ∙ c.if-not-spells_at.false))

pub overflow_add-at-3 : goal.overflow_add-at-3
overflow_add-at-3 c = omega (arith, seen-short c.args.self.now)

pub overflow_add-at-4 : goal.overflow_add-at-4
overflow_add-at-4 c =
    let short = class_name-short (class_of c.args.class) in
    let same = ap length c.name-name.ensures in omega (arith, seen-short c.args.self.now, short, same)
