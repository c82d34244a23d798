use Rattle.std.proofs.Common.{ℕ, Option, sym, ◌∙◌, ◌<◌, length, subst, arith, ◌+◌}
use Rattle.std.specs.Prelude.{Some}
use Rattle.sudo_match.specs.Reading.{seen}
use Rattle.sudo_match.specs.Body.Reading.{text_of}
use Rattle.sudo_match.proofs.CharsLemmas.{seen-short, text-short}
use Rattle.sudo_match.proofs.StepLemmas.{Keeps, Retries, keeps-star, keeps-taken, keeps-back, ends-stuck, work}
use Rattle.sudo_match.proofs.StepLemmas.{work-star, work-taken, work-back, free-within}
use Rattle.sudo_match.proofs.patterns.Chars.fits.Goals as goal

pub overflow_add-at : goal.overflow_add-at
overflow_add-at c = let within = c.in-Starred.ensures.is.within in omega (arith, seen-short c.args.self.now, within)

pub loop-at-smaller-in-Starred : goal.loop-at-smaller-in-Starred
loop-at-smaller-in-Starred c =
    work-star c.args.slash (seen c.args.self.now) (text_of c.args.text.now) c.loop-at.at c.loop-at.offset c.loop-at.retry
    c.loop-at.invariant.keeps c.in-Starred.ensures.is.within

pub loop-at-preserved-in-Starred : goal.loop-at-preserved-in-Starred
loop-at-preserved-in-Starred c = record {
  within = let within = c.in-Starred.ensures.is.within in omega (arith, within);
  knows = c.step.ensures.knows;
  keeps =
      keeps-star c.args.slash (seen c.args.self.now) (text_of c.args.text.now) c.loop-at.at c.loop-at.offset c.loop-at.retry
      c.loop-at.invariant.keeps c.in-Starred.ensures.is;
}

pub overflow_add-at-in-Taken : goal.overflow_add-at-in-Taken
overflow_add-at-in-Taken c = let within = c.in-Taken.ensures.is.at_within in omega (arith, seen-short c.args.self.now, within)

pub overflow_add-at-in-Taken-2 : goal.overflow_add-at-in-Taken-2
overflow_add-at-in-Taken-2 c = let within = c.in-Taken.ensures.is.at_within in omega (arith, seen-short c.args.self.now, within)

pub loop-at-smaller-in-Taken : goal.loop-at-smaller-in-Taken
loop-at-smaller-in-Taken c =
    work-taken (length (seen c.args.self.now)) (length (text_of c.args.text.now)) c.loop-at.at c.in-Taken.more c.loop-at.retry
    c.in-Taken.ensures.is.at_within

pub loop-at-preserved-in-Taken : goal.loop-at-preserved-in-Taken
loop-at-preserved-in-Taken c = record {
  within = let within = c.in-Taken.ensures.is.at_within in omega (arith, within);
  knows = c.step.ensures.knows;
  keeps =
      keeps-taken c.args.slash (seen c.args.self.now) (text_of c.args.text.now) c.loop-at.at c.loop-at.offset c.in-Taken.more
      c.loop-at.retry c.loop-at.invariant.keeps c.in-Taken.ensures.is;
}

pub returns-then-not-is_free_at : goal.returns-then-not-is_free_at
returns-then-not-is_free_at c =
    let P : Option (ℕ × ℕ) → Type 0 = λ r. Keeps c.args.slash (seen c.args.self.now) (text_of c.args.text.now)
    c.loop-at.at c.loop-at.offset r in
    sym (ends-stuck c.args.slash (seen c.args.self.now) (text_of c.args.text.now) c.loop-at.at c.loop-at.offset
    c.in-Some-retry.start c.in-Some-retry.from
    (subst P c.in-Some-retry.is c.loop-at.invariant.keeps) c.in-Stuck.ensures.is (sym c.is_free_at.ensures ∙ c.if-not-is_free_at.true))

pub overflow_add-offset-in-Stuck : goal.overflow_add-offset-in-Stuck
overflow_add-offset-in-Stuck c =
    let within = free-within c.args.slash (text_of c.args.text.now) c.in-Some-retry.from (sym c.is_free_at.ensures
    ∙ c.if-not-is_free_at.false) in
    omega (arith, text-short c.args.text.now, within)

pub overflow_add-retry : goal.overflow_add-retry
overflow_add-retry c =
    let within = free-within c.args.slash (text_of c.args.text.now) c.in-Some-retry.from (sym c.is_free_at.ensures
    ∙ c.if-not-is_free_at.false) in
    omega (arith, text-short c.args.text.now, within)

pub loop-at-smaller : goal.loop-at-smaller
loop-at-smaller c =
    let P : Option (ℕ × ℕ) → Type 0 = λ r. work (length (seen c.args.self.now)) (length (text_of c.args.text.now))
    c.in-Some-retry.start (Some (c.in-Some-retry.start, c.in-Some-retry.from + 1)) <
    work (length (seen c.args.self.now)) (length (text_of c.args.text.now)) c.loop-at.at r in
    subst P (sym c.in-Some-retry.is)
    (work-back (length (seen c.args.self.now)) (length (text_of c.args.text.now)) c.loop-at.at c.in-Some-retry.start c.in-Some-retry.from
    (free-within c.args.slash (text_of c.args.text.now) c.in-Some-retry.from (sym c.is_free_at.ensures ∙ c.if-not-is_free_at.false)))

pub loop-at-preserved : goal.loop-at-preserved
loop-at-preserved c =
    let P : Option (ℕ × ℕ) → Type 0 = λ r. Keeps c.args.slash (seen c.args.self.now) (text_of c.args.text.now)
    c.loop-at.at c.loop-at.offset r in
    let keeps : Retries c.args.slash (seen c.args.self.now) (text_of c.args.text.now) c.loop-at.at c.loop-at.offset
    c.in-Some-retry.start c.in-Some-retry.from =
    subst P c.in-Some-retry.is c.loop-at.invariant.keeps in
    record {
      within = let before = keeps.start_within in let within = c.loop-at.invariant.within in omega (arith, before, within);
      knows = c.step.ensures.knows;
      keeps =
          keeps-back c.args.slash (seen c.args.self.now) (text_of c.args.text.now) c.loop-at.at c.loop-at.offset
          c.in-Some-retry.start c.in-Some-retry.from
          keeps c.in-Stuck.ensures.is (sym c.is_free_at.ensures ∙ c.if-not-is_free_at.false);
    }
