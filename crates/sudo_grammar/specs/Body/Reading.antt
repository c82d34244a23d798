-- The reading of a line's tokens from a state on: the entry, or where it stops and why. The parser's steps are compared with
-- these definitions; `Forms` defines what an entry is, and `Faults` what its fault is.
use Rattle.std.specs.Prelude.{List, [], ◌∷◌, Option, None, Some, Result, Ok, Err}
use Rattle.sudo_text.specs.declared.token.Token.{Token}
use Rattle.sudo_grammar.specs.declared.policy.EntryBody.{EntryBody}
use Rattle.sudo_grammar.specs.Faults.{Room, Stop}
use Rattle.sudo_grammar.specs.Body.States.{State, step, entry_after_list}
use Rattle.sudo_grammar.specs.Body.Refused.{refused_at}

abbrev pub stop_at : State → List Token → Stop
stop_at state ts = record { rest = ts; refusal = refused_at state ts }

abbrev pub entry_or_stop : State → Option EntryBody → Result EntryBody Stop
entry_or_stop state (Some e) = Ok e
entry_or_stop state None = Err (stop_at state [])

-- the entry of the tokens from a state on, or the refusal of the first of them that cannot continue the line
abbrev pub reading : Room → State → List Token → Result EntryBody Stop
reading room state [] = entry_or_stop state (entry_after_list state)
reading room state (t ∷ ts) = elim (step room state t)
    [ Some next ↦ reading room next ts | None ↦ Err (stop_at state (t ∷ ts)) ]
