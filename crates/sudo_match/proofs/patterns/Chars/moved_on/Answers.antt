use Rattle.std.proofs.Common.{◌+◌, false, drop, sym, ◌∙◌, subst, arith}
use Rattle.std.proofs.lemmas.Bool.{not-false}
use Rattle.sudo_match.specs.Body.Pattern.{item_of}
use Rattle.sudo_match.specs.Reading.{seen}
use Rattle.sudo_match.specs.Body.Closing.{Knows, NeverCloses}
use Rattle.sudo_match.proofs.CharsLemmas.{seen-short}
use Rattle.sudo_match.proofs.ItemLemmas.{held-some}
use Rattle.sudo_match.proofs.ClosingLemmas.{knows-next, knows-first, knows-third, led_on}
use Rattle.sudo_match.proofs.patterns.Chars.moved_on.Goals as goal

pub overflow_add-next : goal.overflow_add-next
overflow_add-next c = omega (arith, seen-short c.args.self.now, c.requires.within)

pub overflow_add-known : goal.overflow_add-known
overflow_add-known c = omega (arith, seen-short c.args.self.now, c.requires.within)

pub overflow_add-known-in-Some : goal.overflow_add-known-in-Some
overflow_add-known-in-Some c = omega (arith, seen-short c.args.self.now, c.in-Some.ensures.within)

pub overflow_add-known-in-None : goal.overflow_add-known-in-None
overflow_add-known-in-None c = omega (arith, seen-short c.args.self.now, c.requires.within)

pub returns-in-Some-default-eq0-clause-knows : goal.returns-in-Some-default-eq0-clause-knows
returns-in-Some-default-eq0-clause-knows c =
    let cs = seen c.args.self.now in
    let u = c.args.known in
    let item = held-some 0 (item_of (drop u.at cs)) c.in-Some-default-eq0.field-0-0 c.in-Some-default-eq0.field-0-1
    (sym c.item_at.ensures.value ∙ c.in-Some-default-eq0.is) in
    let none = c.in-Some-default-eq0.field-0-1-is in
    let here : NeverCloses cs (u.at + 1) = led_on cs u item.0 c.in-Some-default-eq0.field-0-1
    (u.at + 1) c.requires.knows (not-false u.first c.if-not-known.false) item.1 (omega (arith, none)) in
    subst (Knows cs) (sym c.with_first.ensures)
    (knows-first cs (record { at = u.at + 1; first = u.second; second = u.third; third = false }) (knows-next cs u c.requires.knows) here)

pub returns-in-Some-default-eq2-clause-knows : goal.returns-in-Some-default-eq2-clause-knows
returns-in-Some-default-eq2-clause-knows c =
    let cs = seen c.args.self.now in
    let u = c.args.known in
    let item = held-some 0 (item_of (drop u.at cs)) c.in-Some-default-eq2.field-0-0 c.in-Some-default-eq2.field-0-1
    (sym c.item_at.ensures.value ∙ c.in-Some-default-eq2.is) in
    let two = c.in-Some-default-eq2.field-0-1-is in
    let here : NeverCloses cs (u.at + 1 + 2) = led_on cs u item.0 c.in-Some-default-eq2.field-0-1
    (u.at + 1 + 2) c.requires.knows (not-false u.first c.if-not-known.false) item.1 (omega (arith, two)) in
    knows-third cs (record { at = u.at + 1; first = u.second; second = u.third; third = false }) (knows-next cs u c.requires.knows) here

pub returns-in-Some-clause-knows : goal.returns-in-Some-clause-knows
returns-in-Some-clause-knows c =
    let cs = seen c.args.self.now in
    let u = c.args.known in
    let item = held-some 0 (item_of (drop u.at cs)) c.in-Some.field-0-0 c.in-Some.more (sym c.item_at.ensures.value ∙ c.in-Some.is) in
    let here : NeverCloses cs c.none.result.at = led_on cs u item.0 c.in-Some.more c.none.result.at c.requires.knows
    (not-false u.first c.if-not-known.false) item.1 (sym c.none.ensures.at) in
    subst (Knows cs) (sym c.with_first-in-Some.ensures) (knows-first cs c.none.result (c.none.ensures.nothing cs) here)
