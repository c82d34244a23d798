-- The tokens of a line. Only proofs of bodies use these.
use Rattle.std.specs.Prelude.{◌≡◌, ℕ, true, false, List}
use Rattle.std.specs.Prelude.{[], Option, Some, None, Result, Ok}
use Rattle.std.specs.Prelude.{Err}
use Rattle.sudo_text.specs.declared.token.Token.{Token}
use Rattle.sudo_text.specs.declared.token.TokenKind.{TokenKind}
use Rattle.sudo_text.specs.declared.token.TokenKind.TheVariants as kinds
use Rattle.sudo_text.specs.declared.line.Place.{Place}
use Rattle.sudo_text.specs.declared.fault.TextFault.{TextFault}
use Rattle.sudo_text.specs.declared.fault.TextFault.TheVariants as faults
use Rattle.sudo_text.specs.declared.rules.LineKind.{LineKind}
use Rattle.sudo_text.specs.declared.rules.Before.{Before}
use Rattle.sudo_text.specs.declared.run.Refusal.{Refusal}
use Rattle.sudo_text.specs.declared.run.Refusal.TheVariants as refusals
use Rattle.sudo_text.specs.declared.piece.Style.{Style}
use Rattle.sudo_text.specs.declared.piece.Flaw.{Flaw}
use Rattle.sudo_text.specs.Pieces.{run_end}
use Rattle.sudo_text.specs.Tokens.{FlawAfter, fault_of}

-- an unquoted word that begins at the offset
abbrev pub WordEnds : Style → List ℕ → ℕ → TokenKind → ℕ → Type 0
WordEnds style text at (kinds.Word true cs) end = ⊥
WordEnds style text at (kinds.Word false cs) end = run_end style text at cs ≡ Some end
WordEnds style text at (kinds.Command path args) end = ⊥
WordEnds style text at (kinds.Mark mark) end = ⊥
WordEnds style text at (kinds.Include folder hash path) end = ⊥

-- the text after an offset has a flaw before any further token
abbrev pub FlawNext : LineKind → List ℕ → List ℕ → ℕ → Before → Flaw → ℕ → Type 0
FlawNext kind text joins from before flaw offset = FlawAfter kind text joins from before [] flaw offset

-- the fault of a line that begins at this place, for a refusal of one of its tokens
abbrev pub IsFaultOf : Place → Refusal → TextFault → Type 0
IsFaultOf first refusals.Memory fault = fault ≡ faults.Memory
IsFaultOf first (refusals.Wrong flaw offset) fault = fault ≡ fault_of first flaw offset

-- the end of the line was reached; `IfToken`: a token was read, and a fact holds of it
abbrev pub IsDone : Result (Option Token) Refusal → Type 0
IsDone (Ok None) = Unit {0}
IsDone (Ok (Some token)) = ⊥
IsDone (Err refusal) = ⊥

abbrev pub IfToken : Result (Option Token) Refusal → (Token → Type 0) → Type 0
IfToken (Ok None) P = Unit {0}
IfToken (Ok (Some token)) P = P token
IfToken (Err refusal) P = Unit {0}
