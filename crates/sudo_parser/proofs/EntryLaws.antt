-- The reading of a line, as the code returns it, compared with its forms and its fault.
use Rattle.std.proofs.Common.{List, subst, Result, Ok, Err}
use Rattle.std.specs.Result.{IfOk, IfErr}
use Rattle.sudo_text.specs.declared.token.Token.{Token}
use Rattle.sudo_grammar.specs.declared.policy.EntryBody.{EntryBody}
use Rattle.sudo_parser.specs.declared.stops.ParserStop.{ParserStop}
use Rattle.sudo_parser.specs.declared.stops.ParserStop.TheVariants as stops
use Rattle.sudo_grammar.specs.Faults.{Room, WritesWithin}
use Rattle.sudo_grammar.specs.Body.States.{Start}
use Rattle.sudo_grammar.specs.Body.Reading.{reading}
use Rattle.sudo_grammar.proofs.Complete.{entry-read}
use Rattle.sudo_grammar.proofs.OneFault.{read-within, leftmost}
use Rattle.sudo_parser.specs.Body.Stops.{GivesEntry}
use Rattle.sudo_parser.specs.Body.Faults.{HasGrammarFault}

pub entry-written : (room : Room) (ts : List Token) (r : Result EntryBody ParserStop)
    → GivesEntry r (reading room Start ts) → IfOk r (λ e. WritesWithin room e ts)
entry-written room ts (Ok e) h = read-within room ts e h
entry-written room ts (Err s) h = tt

pub entry-only : (room : Room) (ts : List Token) (r : Result EntryBody ParserStop) (e : EntryBody)
    → GivesEntry r (reading room Start ts) → WritesWithin room e ts → GivesEntry r (Ok e)
entry-only room ts r e h w = subst (λ x. GivesEntry r x) (entry-read room e ts w.0 w.1) h

pub entry-fault : (room : Room) (ts : List Token) (r : Result EntryBody ParserStop)
    → GivesEntry r (reading room Start ts) → IfErr r (HasGrammarFault room ts)
entry-fault room ts (Ok e) h = tt
entry-fault room ts (Err (stops.At refusal left)) (stop, (is, (refused, count))) = (stop, (leftmost room ts stop is, (refused, count)))
entry-fault room ts (Err stops.Memory) h = tt
