use Rattle.std.proofs.Common.{subst}
use Rattle.clap.specs.Words.{found_of, one_text}
use Rattle.clap.proofs.WalkLemmas.{one_text-rows}
use Rattle.review_commands.specs.Words.{IsFlag}
use Rattle.review_commands.proofs.Subcommands.{flag-of}
use Rattle.review_commands.proofs.words.flag.Goals as goal

pub returns : goal.returns
returns c = subst (IsFlag c.get_flag.result) (one_text-rows (found_of c.args.given.now) c.args.id.now)
    (flag-of c.get_flag.result (one_text (found_of c.args.given.now) c.args.id.now) c.get_flag.ensures.none c.get_flag.ensures.value
    c.get_flag.ensures.other)
