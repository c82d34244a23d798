use Rattle.std.proofs.Common.{sym, ◌∙◌, arith}
use Rattle.std.proofs.lemmas.Option.{slice_get_within}
use Rattle.sudo_match.specs.Reading.{seen}
use Rattle.sudo_match.specs.Body.Reading.{text_of}
use Rattle.sudo_match.proofs.CharsLemmas.{seen-short}
use Rattle.sudo_match.proofs.StepLemmas.{literal-kept, literal-differs, literal-ends}
use Rattle.sudo_match.proofs.patterns.Chars.literal_start.Goals as goal

pub returns-in_err-byte-clause-differs : goal.returns-in_err-byte-clause-differs
returns-in_err-byte-clause-differs c _ =
    literal-ends c.args.slash (seen c.args.self.now) (text_of c.args.text.now) c.loop-ch.at c.in-Some.ch c.loop-ch.invariant.keeps
    (sym c.get.ensures ∙ c.in-Some.is) (sym c.is_special.ensures ∙ c.if-is_special.false) (sym c.get-in-Some.ensures ∙ c.in_err-byte.was)

pub returns-then-byte-ch-clause-differs : goal.returns-then-byte-ch-clause-differs
returns-then-byte-ch-clause-differs c _ =
    literal-differs c.args.slash (seen c.args.self.now) (text_of c.args.text.now) c.loop-ch.at c.in_ok-byte.byte c.in-Some.ch
    c.loop-ch.invariant.keeps (sym c.get.ensures ∙ c.in-Some.is) (sym c.is_special.ensures ∙ c.if-is_special.false)
    (sym c.get-in-Some.ensures ∙ c.in_ok-byte.was) c.if-byte-ch.true

pub overflow_add-at : goal.overflow_add-at
overflow_add-at c =
    let within = slice_get_within (seen c.args.self.now) c.loop-ch.at c.in-Some.ch (sym c.get.ensures ∙ c.in-Some.is) in
    omega (arith, seen-short c.args.self.now, within)

pub loop-ch-smaller : goal.loop-ch-smaller
loop-ch-smaller c =
    let within = slice_get_within (seen c.args.self.now) c.loop-ch.at c.in-Some.ch (sym c.get.ensures ∙ c.in-Some.is) in
    omega (arith, within)

pub loop-ch-preserved : goal.loop-ch-preserved
loop-ch-preserved c = record {
  within = let within = slice_get_within (seen c.args.self.now) c.loop-ch.at c.in-Some.ch (sym c.get.ensures
      ∙ c.in-Some.is) in omega (arith, within);
  keeps =
      literal-kept c.args.slash (seen c.args.self.now) (text_of c.args.text.now) c.loop-ch.at c.in_ok-byte.byte c.in-Some.ch
      c.loop-ch.invariant.keeps (sym c.get.ensures ∙ c.in-Some.is) (sym c.is_special.ensures ∙ c.if-is_special.false)
      (sym c.get-in-Some.ensures ∙ c.in_ok-byte.was) c.if-byte-ch.false;
}
