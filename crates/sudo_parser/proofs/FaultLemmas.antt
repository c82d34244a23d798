-- The fault of a line, by the stop of its reading.
use Rattle.std.proofs.Common.{◌≡◌, ℕ, ◌-◌, ◌≤◌, List, [], ◌∷◌, ◌++◌, length, drop, true, refl, sym, ◌∙◌, ap, inr, arith, length-append}
use Rattle.std.proofs.Math.Seq.{drop-append_seam}
use Rattle.sudo_text.specs.declared.token.Token.{Token}
use Rattle.sudo_text.specs.declared.line.Line.{Line}
use Rattle.sudo_text.specs.Tokens.{spells}
use Rattle.sudo_grammar.specs.declared.fault.Refusal.{Refusal}
use Rattle.sudo_grammar.specs.declared.fault.ParseFault.{ParseFault}
use Rattle.sudo_parser.specs.declared.stops.ParserStop.TheVariants as stops
use Rattle.sudo_grammar.specs.Faults.{Room, WritesWithin}
use Rattle.sudo_parser.specs.Body.Faults.{HasGrammarFault}
use Rattle.sudo_parser.specs.Parsed.{column, fault_at, IsLineFault, IsEntryOf}
use Rattle.std.proofs.Common.{Some}
use Rattle.sudo_grammar.specs.declared.policy.EntryBody.{EntryBody}

-- What is left of a list whose end has this length.
rest_of : {A : Type 0} (front rest : List A) → drop (length (front ++ rest) - length rest) (front ++ rest) ≡ rest
rest_of front rest =
    let n : length (front ++ rest) - length rest ≡ length front = omega (arith, length-append front rest) in
    ap (λ (k : ℕ). drop k (front ++ rest)) n ∙ drop-append_seam front rest

pub left_of : {A : Type 0} (ts front rest : List A) (left : ℕ) → ts ≡ front ++ rest → length rest ≡ left → drop (length ts - left) ts ≡ rest
left_of ts front rest left whole count = rw (whole, sym count) (rest_of front rest)

pub left_fits : {A : Type 0} (ts front rest : List A) (left : ℕ) → ts ≡ front ++ rest → length rest ≡ left → left ≤ length ts
left_fits ts front rest left whole count = omega (arith, ap length whole, length-append front rest)

-- So many tokens are left as there are.
pub stop_fits : (room : Room) (ts : List Token) (refusal : Refusal) (left : ℕ)
    → HasGrammarFault room ts (stops.At refusal left) → left ≤ length ts
stop_fits room ts refusal left (stop, (is, (why, count))) = left_fits ts is.front stop.rest left is.whole count

-- A stop is the line's grammar fault.
pub grammar_fault : (room : Room) (line : Line) (ts : List Token) (refusal : Refusal) (left : ℕ) (fault : ParseFault)
    → spells line ts ≡ true → (ts ≡ [] → ⊥) → HasGrammarFault room ts (stops.At refusal left)
    → fault ≡ fault_at line.first (column line (drop (length ts - left) ts)) refusal → IsLineFault room line fault
grammar_fault room line [] refusal left fault spelled some stopped e = absurd (some refl)
grammar_fault room line (t ∷ ts) refusal left fault spelled some (stop, (is, (why, count))) e =
    let end : drop (length (t ∷ ts) - left) (t ∷ ts) ≡ stop.rest = left_of (t ∷ ts) is.front stop.rest left is.whole count in
    inr (record {
      first = t;
      rest = ts;
      spelled = spelled;
      stop = stop;
      stopped = is;
      is = e ∙ (λ i. fault_at line.first (column line (end i)) (sym why i));
    })

-- What a line's tokens write is what it says.
pub says_entry : (room : Room) (line : Line) (ts : List Token) (body : EntryBody) → spells line ts ≡ true
    → (ts ≡ [] → ⊥) → WritesWithin room body ts → IsEntryOf room line (Some body)
says_entry room line [] body spelled some h = absurd (some refl)
says_entry room line (t ∷ ts) body spelled some h = (t, ts, spelled, h)
