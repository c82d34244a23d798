use Rattle.std.proofs.Common.{◌≡◌, ◌∙◌, sym, codes, refl, Option, Some, None}
use Rattle.clap.specs.Matches.{one_text, found_of}
use Rattle.clap.specs.declared.parser.matches.Found.{Found}
use Rattle.clap.proofs.WalkLemmas.{one_text-rows}
use Rattle.clap.specs.Words.{Text, rows_of}
use Rattle.run_base.specs.Arguments.{IsNumberIn}
use Rattle.run_base.proofs.argument_values.workers.Goals as goal

pub returns-in-Some-clause-read : goal.returns-in-Some-clause-read
returns-in-Some-clause-read c = by (one_text found (codes "workers")) refl
  where
    found : Found
    found = found_of c.args.given.now

    by : (o : Option Text) → one_text found (codes "workers") ≡ o → IsNumberIn c.in-Some.count (rows_of found)
    by None none = let never : Some c.in-Some.count ≡ None = c.in-Some.ensures.none none in cc
    by (Some text) is = (text, sym (one_text-rows found (codes "workers")) ∙ is, (c.in-Some.ensures.value text is).0)
