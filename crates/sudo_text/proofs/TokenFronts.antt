-- The tokens of the front of a line.
use Rattle.std.proofs.Common.{◌≡◌, ℕ, List, [], ◌∷◌, ◌++◌, true, refl, sym, ◌∙◌, ap, subst, append_assoc}
use Rattle.std.specs.Prelude.{◌&&◌}
use Rattle.std.proofs.lemmas.List.{append-nil}
use Rattle.sudo_text.specs.declared.token.Token.{Token}
use Rattle.sudo_text.specs.declared.line.Line.{Line}
use Rattle.sudo_text.specs.declared.fault.TextFault.{TextFault}
use Rattle.sudo_text.specs.declared.rules.LineKind.{LineKind}
use Rattle.sudo_text.specs.declared.rules.Before.{Before}
use Rattle.sudo_text.specs.declared.rules.Before.TheVariants as befores
use Rattle.sudo_text.specs.declared.piece.Flaw.{Flaw}
use Rattle.sudo_text.specs.Rules.{before_of, line_kind}
use Rattle.sudo_text.specs.Tokens.{stands, closes_line, spells_from, spells, FlawAfter, LeftmostFault, fault_of}
use Rattle.sudo_text.specs.Body.Tokens.{FlawNext, IsFaultOf}
use Rattle.std.specs.Prelude.{◌≢◌}
use Rattle.sudo_text.specs.Body.Refusals.{Refuses}
use Rattle.sudo_text.specs.declared.run.Refusal.{Refusal}
use Rattle.sudo_text.specs.declared.run.Refusal.TheVariants as refusals
use Rattle.sudo_text.specs.declared.fault.TextFault.TheVariants as faults

-- The front of a text, up to an offset, spells the tokens, whatever comes after them.
pub record Scanned (kind : LineKind) (text joins : List ℕ) (tokens : List Token) (from : ℕ) (before : Before) : Type 0 where
  pub spelled : (rest : List Token) → spells_from kind text joins 0 befores.Nothing (tokens ++ rest) ≡ spells_from
      kind text joins from before rest
  pub flawed : (rest : List Token) (flaw : Flaw) (offset : ℕ) → FlawAfter kind text joins from before rest flaw offset
      → FlawAfter kind text joins 0 befores.Nothing (tokens ++ rest) flaw offset

pub begins : (kind : LineKind) (text joins : List ℕ) → Scanned kind text joins [] 0 befores.Nothing
begins kind text joins = record { spelled = λ rest. refl; flawed = λ rest flaw offset h. h }

-- One more token.
pub push : (kind : LineKind) (text joins : List ℕ) (tokens : List Token) (from : ℕ) (before : Before) (token : Token)
    → Scanned kind text joins tokens from before → stands kind text from before token ≡ true
    → Scanned kind text joins (tokens ++ token ∷ []) token.end (before_of token.kind)
push kind text joins tokens from before token so_far stands_there = record {
  spelled = λ rest.
      ap (spells_from kind text joins 0 befores.Nothing) (append_assoc tokens (token ∷ []) rest)
      ∙ so_far.spelled (token ∷ rest)
      ∙ ap (λ b. b && spells_from kind text joins token.end (before_of token.kind) rest) stands_there;
  flawed = λ rest flaw offset h.
      subst (λ ts. FlawAfter kind text joins 0 befores.Nothing ts flaw offset) (sym (append_assoc tokens (token ∷ []) rest))
      (so_far.flawed (token ∷ rest) flaw offset (stands_there, h));
}

-- Nothing more.
pub closes : (line : Line) (tokens : List Token) (from : ℕ) (before : Before)
    → Scanned (line_kind line.text) line.text line.joins tokens from before
    → closes_line (line_kind line.text) line.text line.joins from before ≡ true
    → spells line tokens ≡ true
unfolding spells
closes line tokens from before so_far closed =
    ap (spells_from (line_kind line.text) line.text line.joins 0 befores.Nothing) (sym (append-nil tokens)) ∙ so_far.spelled [] ∙ closed

-- A flaw after the tokens.
pub fails : (line : Line) (tokens : List Token) (from : ℕ) (before : Before) (flaw : Flaw) (offset : ℕ) (fault : TextFault)
    → Scanned (line_kind line.text) line.text line.joins tokens from before
    → FlawAfter (line_kind line.text) line.text line.joins from before [] flaw offset
    → fault ≡ fault_of line.first flaw offset → LeftmostFault line fault
fails line tokens from before flaw offset fault so_far flawed is = record {
  before = tokens;
  flaw = flaw;
  offset = offset;
  after = subst (λ ts. FlawAfter (line_kind line.text) line.text line.joins 0 befores.Nothing ts flaw offset)
      (append-nil tokens) (so_far.flawed [] flaw offset flawed);
  is = is;
}

pub closes_as : (line : Line) (kind : LineKind) (tokens : List Token) (from : ℕ) (before : Before) → kind ≡ line_kind line.text
    → Scanned kind line.text line.joins tokens from before → closes_line kind line.text line.joins from before ≡ true
    → spells line tokens ≡ true
closes_as line kind tokens from before is so_far closed =
    closes line tokens from before (subst (λ k. Scanned k line.text line.joins tokens from before) is so_far)
    (subst (λ k. closes_line k line.text line.joins from before ≡ true) is closed)

-- What a refusal of the next token means for the line.
pub refused : (line : Line) (kind : LineKind) (tokens : List Token) (from : ℕ) (before : Before) (refusal : Refusal)
    (fault : TextFault) → kind ≡ line_kind line.text
    → Scanned kind line.text line.joins tokens from before → Refuses (FlawNext kind line.text line.joins from before) refusal
    → IsFaultOf line.first refusal fault → fault ≢ faults.Memory → LeftmostFault line fault
refused line kind tokens from before refusals.Memory fault is so_far flawed fault_is other = absurd (other fault_is)
refused line kind tokens from before (refusals.Wrong flaw offset) fault is so_far flawed fault_is other =
    fails line tokens from before flaw offset fault (subst (λ k. Scanned k line.text line.joins tokens from before) is so_far)
    (subst (λ k. FlawAfter k line.text line.joins from before [] flaw offset) is flawed) fault_is
