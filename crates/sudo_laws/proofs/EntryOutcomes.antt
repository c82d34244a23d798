-- Lines have entries, or a first fault.
use Rattle.std.proofs.Common.{◌≡◌, true, List, [], ◌∷◌, ◌++◌, Option, Some, None, refl, inl, inr}
use Rattle.std.specs.Prelude.{◌⊎◌}
use Rattle.sudo_grammar.proofs.OneFault.{faulty_or_written}
use Rattle.sudo_grammar.specs.declared.fault.ParseFault.{ParseFault}
use Rattle.sudo_grammar.specs.declared.fault.ParseFault.TheVariants.{Text}
use Rattle.sudo_grammar.specs.declared.policy.Entry.{Entry}
use Rattle.sudo_grammar.specs.declared.policy.EntryBody.{EntryBody}
use Rattle.sudo_laws.proofs.TokenOutcomes.{tokens_or_fault}
use Rattle.sudo_parser.specs.Parsed.{AreEntries, AreEntriesAfter, IsEntryOf, IsFirstFault, IsFirstFaultAfter, IsLineFault}
use Rattle.sudo_parser.specs.Parsed.{column, entry_of, fault_at, room_after}
use Rattle.sudo_text.specs.Tokens.{spells}
use Rattle.sudo_text.specs.declared.line.Line.{Line}
use Rattle.sudo_text.specs.declared.token.Token.{Token}

module _ (before : List Entry) (line : Line) where
  -- tokens write an entry, or they have a grammar fault
  entry_or_fault : (ts : List Token) → spells line ts ≡ true
      → ((body : Option EntryBody) × IsEntryOf (room_after before) line body)
      ⊎ ((fault : ParseFault) × IsLineFault (room_after before) line fault)
  entry_or_fault [] spelled = inl (None, spelled)
  entry_or_fault (t ∷ ts) spelled = elim (faulty_or_written (room_after before) (t ∷ ts)) [
    | inl written ↦ inl (Some written.0, (t, ts, spelled, written.1))
    | inr stopped ↦
        (let stop = stopped.0 in
        inr (
          fault_at line.first (column line stop.rest) stop.refusal,
          inr (record { first = t; rest = ts; spelled = spelled; stop = stop; stopped = stopped.1; is = refl }),
        ))
  ]

  line_outcome : ((body : Option EntryBody) × IsEntryOf (room_after before) line body)
      ⊎ ((fault : ParseFault) × IsLineFault (room_after before) line fault)
  line_outcome = elim (tokens_or_fault line) [
    | inl tokens ↦ entry_or_fault tokens.0 tokens.1
    | inr faulty ↦ inr (Text faulty.0, inl (record { text = faulty.0; leftmost = faulty.1; is = refl }))
  ]

lines_outcome : (before : List Entry) (lines : List Line)
    → ((entries : List Entry) × AreEntriesAfter before lines entries) ⊎ ((fault : ParseFault) × IsFirstFaultAfter before lines fault)
lines_outcome before [] = inl ([], refl)
lines_outcome before (line ∷ lines) = elim (line_outcome before line) [
  | inr faulty ↦ inr (faulty.0, inl faulty.1)
  | inl said ↦
      (elim (lines_outcome (before ++ entry_of line said.0) lines) [
        | inl rest ↦ inl (entry_of line said.0 ++ rest.0, (said.0, rest.0, said.1, rest.1, refl))
        | inr later ↦ inr (later.0, inr (said.0, said.1, later.1))
      ])
]

pub entries_or_fault : (lines : List Line)
    → ((entries : List Entry) × AreEntries lines entries) ⊎ ((fault : ParseFault) × IsFirstFault lines fault)
entries_or_fault lines = lines_outcome [] lines
