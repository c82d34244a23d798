-- The list for an address at an offset.
use Rattle.std.proofs.Common.{◌≡◌, ℕ, ◌<◌, true, List, Option, None, Some, sym, ◌∙◌, subst, arith}
use Rattle.sudo_text.specs.declared.line.Line.{Line}
use Rattle.review_texts.specs.declared.ipv6.HostAddress.{HostAddress}
use Rattle.review_texts.specs.Addressed.{StandsMember, list_at}
use Rattle.review_texts.specs.Ipv6.{spells_ipv6}
use Rattle.review_texts.specs.Places.{TakesHost, TakesUser}
use Rattle.review_texts.specs.Words.{newline_count}

-- Without a list no address stands there.
pub no_list : (known : List HostAddress) (line : Line) (at : ℕ) (found : Option (List ℕ)) → found ≡ list_at known line.text at
    → found ≡ None → (put : List ℕ) → StandsMember known line at put → ⊥
no_list known line at found is none put stands =
    let both : Some put ≡ None = sym stands.list ∙ sym is ∙ none in
    absurd cc

-- A list with a newline does not stand there.
pub no_lines : (known : List HostAddress) (line : Line) (at : ℕ) (found : Option (List ℕ)) (list : List ℕ)
    → found ≡ list_at known line.text at → found ≡ Some list → 0 < newline_count list → (put : List ℕ)
    → StandsMember known line at put → ⊥
no_lines known line at found list is some long put stands =
    let both : Some put ≡ Some list = sym stands.list ∙ sym is ∙ some in
    let same : put ≡ list = cc in
    let none : newline_count list ≡ 0 = subst (λ (xs : List ℕ). newline_count xs ≡ 0) same stands.one_line in
    omega (arith, none, long)

-- The list stands there, where a list of hosts goes on.
pub list_stands : (known : List HostAddress) (line : Line) (at : ℕ) (found : Option (List ℕ)) (list : List ℕ)
    → found ≡ list_at known line.text at → found ≡ Some list → newline_count list ≡ 0
    → (spells_ipv6 line.text at ≡ true) × TakesHost line at × (TakesUser line at → ⊥) → StandsMember known line at list
list_stands known line at found list is some none takes = record {
  spelled = takes.0;
  hosts = takes.1;
  others = takes.2;
  list = sym is ∙ some;
  one_line = none;
}
