use Rattle.std.proofs.Common.{get_or, take, sym, ap, ◌∙◌, arith}
use Rattle.std.specs.Prelude.{nat_eq}
use Rattle.std.proofs.lemmas.Bool.{eq-eqb}
use Rattle.std.proofs.lemmas.List.{take_all}
use Rattle.std.proofs.lemmas.List.Sums.{position_or_len_is}
use Rattle.review_texts.proofs.hostnames.short_name.Goals as goal

pub returns-then-byte-eq46 : goal.returns-then-byte-eq46
returns-then-byte-eq46 c =
    ap (λ n. take n c.args.name.now)
    (sym (position_or_len_is (λ b. nat_eq b 46) c.args.name.now c.loop-end.end 0 (omega arith) c.loop-end.invariant
    (λ h. eq-eqb (get_or c.args.name.now c.loop-end.end 0) 46 c.if-byte-eq46.true)))

pub returns : goal.returns
returns c =
    sym (ap (λ n. take n c.args.name.now)
    (position_or_len_is (λ b. nat_eq b 46) c.args.name.now c.loop-end.end 0 (omega arith) c.loop-end.invariant
    (λ h. absurd (omega (arith, h))))
    ∙ take_all c.loop-end.end c.args.name.now c.loop-end-test.false)
