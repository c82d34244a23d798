use Rattle.std.proofs.Common.{◌≡◌, ◌<◌, ℕ, List, [], arith, ap, length}
use Rattle.std.proofs.lemmas.List.{nil_from_length}
use Rattle.review_texts.proofs.Blocks.{front_last, front_more, front_other, front_end}
use Rattle.review_texts.proofs.texts.front_len.Goals as goal

pub returns-then-left-eq0-clause-len : goal.returns-then-left-eq0-clause-len
returns-then-left-eq0-clause-len c =
    let cut = c.in-Some.ensures.cases.0 in
    let size = ap (λ (xs : List ℕ). length xs) cut in
    let last = front_last c.loop-byte.left c.in-Some.byte.now c.loop-byte.rest.now c.in-Some.after.now cut
    c.if-byte-eq10.true c.if-left-eq0.true in
    omega (arith, size, last)

pub loop-byte-preserved-else-left-eq0 : goal.loop-byte-preserved-else-left-eq0
loop-byte-preserved-else-left-eq0 c =
    let cut = c.in-Some.ensures.cases.0 in
    let size = ap (λ (xs : List ℕ). length xs) cut in
    let some : 0 < c.loop-byte.left = omega arith in
    let more = front_more c.loop-byte.left c.in-Some.byte.now c.loop-byte.rest.now c.in-Some.after.now cut
    c.if-byte-eq10.true some in
    record { within = omega (arith, size); len = omega (arith, size, more) }

pub loop-byte-preserved : goal.loop-byte-preserved
loop-byte-preserved c =
    let cut = c.in-Some.ensures.cases.0 in
    let size = ap (λ (xs : List ℕ). length xs) cut in
    let more = front_other c.loop-byte.left c.in-Some.byte.now c.loop-byte.rest.now c.in-Some.after.now cut
    c.if-byte-eq10.false in
    record { within = omega (arith, size); len = omega (arith, size, more) }

pub returns-clause-len : goal.returns-clause-len
returns-clause-len c =
    let none : c.loop-byte.rest.now ≡ [] = nil_from_length c.loop-byte.rest.now c.in_default.ensures.cases in
    let end = front_end c.loop-byte.left c.loop-byte.rest.now none in
    let size = ap (λ (xs : List ℕ). length xs) none in
    omega (arith, end, size)
