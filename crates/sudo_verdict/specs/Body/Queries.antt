-- The question of a request whose names have been looked up; only proofs of bodies need it.
use Rattle.std.specs.Prelude.{option_copied}
use Rattle.sudo_verdict.specs.declared.query.Query.{Query}
use Rattle.sudo_verdict.specs.Questions.{Question}

abbrev pub question : Query → Question
question q = record {
  user = q.user.user.now;
  host = q.host.host.now;
  asked = option_copied q.asked;
  group = option_copied q.group;
  target = option_copied q.target;
  command = q.command.command.now;
  arguments = q.command.arguments.now;
}
