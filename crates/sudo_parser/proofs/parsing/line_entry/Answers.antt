use Rattle.std.proofs.Common.{rules, subst}
use Rattle.sudo_parser.specs.Body.Faults.{HasGrammarFault}
use Rattle.sudo_parser.specs.Body.Unread.{tokens_left}
use Rattle.sudo_parser.specs.Body.Limits.{room_of}
use Rattle.sudo_parser.proofs.FaultLemmas.{grammar_fault, says_entry}
use Rattle.sudo_parser.proofs.parsing.line_entry.Goals as goal

pub returns-in-Err-At-clause-fault : goal.returns-in-Err-At-clause-fault
returns-in-Err-At-clause-fault c = λ no_memory.
    let room = room_of c.args.room.now in
    let tokens = tokens_left c.read_line.new.self in
    grammar_fault room c.args.line.now tokens c.in-Err-At.refusal c.in-Err-At.left c.refused_line.result
    c.in-Ok.ensures.tokens (search rules)
    (subst (HasGrammarFault room tokens) c.in-Err-At.field-0-is c.in-Err-At.ensures.fault)
    (c.refused_line.ensures no_memory tokens c.in-Ok.ensures.tokens)

pub returns-in-Ok-entry-clause-says : goal.returns-in-Ok-entry-clause-says
returns-in-Ok-entry-clause-says c =
    says_entry (room_of c.args.room.now) c.args.line.now (tokens_left c.read_line.new.self) c.in-Ok-entry.body
    c.in-Ok.ensures.tokens (search rules) c.in-Ok-entry.ensures.written
