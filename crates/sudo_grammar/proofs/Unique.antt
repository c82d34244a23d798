-- No list of tokens is a form of two entries.
use Rattle.std.proofs.Common.{◌≡◌, ℕ, ◌+◌, ◌≤◌, List, length, sym, ◌∙◌, arith, Result, Ok}
use Rattle.sudo_text.specs.declared.token.Token.{Token}
use Rattle.sudo_grammar.specs.declared.policy.EntryBody.{EntryBody}
use Rattle.sudo_grammar.specs.declared.policy.EntryBody.TheVariants as entries
use Rattle.sudo_grammar.specs.Forms.{Writes}
use Rattle.sudo_grammar.specs.Body.States.{Start}
use Rattle.sudo_grammar.specs.Faults.{Stop, HasRoom}
use Rattle.sudo_grammar.specs.Body.Reading.{reading}
use Rattle.sudo_grammar.proofs.Complete.{entry-read}

-- how many definitions an entry has
abbrev pub count : EntryBody → ℕ
count (entries.Aliases k ds) = length ds
count _ = 0

has_room : (n : ℕ) (e : EntryBody) → count e ≤ n → HasRoom (λ k. n) e
has_room n (entries.Aliases k ds) h = h
has_room n _ h = tt

pub unique : (a b : EntryBody) (ts : List Token) → Writes a ts → Writes b ts → a ≡ b
unique a b ts wa wb =
    let n : ℕ = count a + count b in
    let first : reading (λ k. n) Start ts ≡ Ok a = entry-read (λ k. n) a ts wa (has_room n a (omega arith)) in
    let second : reading (λ k. n) Start ts ≡ Ok b = entry-read (λ k. n) b ts wb (has_room n b (omega arith)) in
    let same : ◌≡◌ {A = Result EntryBody Stop} (Ok a) (Ok b) = sym first ∙ second in
    cc
