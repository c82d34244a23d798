-- Worked examples of the definitions in `specs/Matching.antt`, each by computation.
use Rattle.std.proofs.Common.{◌≡◌, ℕ, Bool, true, false, List, [], ◌∷◌, ◌++◌, refl, Some, None, ◌+◌, ◌*◌, lit≤}
use Rattle.std.specs.Prelude.{codes}
use Rattle.sudo_grammar.specs.declared.kind.Atom.{Atom}
use Rattle.sudo_grammar.specs.declared.kind.Atom.TheVariants as atom
use Rattle.sudo_match.specs.declared.people.Machine.{Machine}
use Rattle.sudo_match.specs.Pattern.{begins, range_at, items_after, bracket_after, part_at, parts_after, cuts, fits}
use Rattle.sudo_match.specs.HostNames.{free_bangs, host_chars, quoted_chars}
use Rattle.sudo_match.specs.Matching.{host_fits, command_fits}
use Rattle.sudo_match.proofs.PatternVectors.{plain, escaped}

abbrev pub command : List ℕ → Atom
command path = atom.Command (plain path) None

abbrev pub with_args : List ℕ → List ℕ → Atom
with_args path args = atom.Command (plain path) (Some (plain args))

pub folder : command_fits (command (codes "/usr/bin/")) (codes "/usr/bin/id") (codes "any") ∷ command_fits
    (command (codes "/usr/bin/")) (codes "/usr/bin/X11/xterm") [] ∷ command_fits (command (codes "/usr/bin/"))
    (codes "/usr/bin/") [] ∷ [] ≡ true ∷ false ∷ false ∷ []
unfolding command_fits parts_after part_at bracket_after items_after range_at begins fits cuts
folder = refl

pub arguments : command_fits (with_args (codes "/bin/cat") (codes "*")) (codes "/bin/cat") (codes "/var/log/messages")
    ∷ command_fits (with_args (codes "/bin/dd") (codes "if=/dev/zero")) (codes "/bin/dd") (codes "if=/dev/null") ∷ [] ≡ true ∷ false ∷ []
unfolding command_fits parts_after part_at bracket_after items_after range_at begins fits cuts
arguments = refl

pub no_arguments : command_fits (with_args (codes "/bin/who") (codes "\"\"")) (codes "/bin/who") [] ∷ command_fits
    (with_args (codes "/bin/who") (codes "\"\"")) (codes "/bin/who") (codes "am i") ∷ [] ≡ true ∷ false ∷ []
unfolding command_fits parts_after part_at bracket_after items_after range_at begins fits cuts
no_arguments = refl

pub edited_paths : command_fits (with_args (codes "sudoedit") (codes "/etc/*")) (codes "sudoedit") (codes "/etc/motd")
    ∷ command_fits (with_args (codes "sudoedit") (codes "/etc/*")) (codes "sudoedit") (codes "/etc/a/b") ∷ [] ≡ true ∷ false ∷ []
unfolding command_fits parts_after part_at bracket_after items_after range_at begins fits cuts
edited_paths = refl

-- two hosts, of the same domain
abbrev pub address : ℕ → ℕ → ℕ → ℕ → ℕ
address a b c d = 16777216 * a + 65536 * b + 256 * c + d

abbrev pub web1 : Machine
web1 = record {
  name = codes "web1.example.org";
  interfaces = record { addr = address 10 1 2 3; bits = 16; in_range = lit≤ tt } ∷ record {
    addr = address 127 0 0 1;
    bits = 8;
    in_range = lit≤ tt;
  } ∷ [];
}

abbrev pub web2 : Machine
web2 = record { name = codes "web2.example.org"; interfaces = record { addr = address 10 2 0 9; bits = 16; in_range = lit≤ tt } ∷ [] }

abbrev pub on_both : Atom → Bool × Bool
on_both a = (host_fits a web1, host_fits a web2)

pub network : on_both (atom.Net (address 10 1 0 0) (address 255 255 0 0)) ≡ (true, false)
unfolding host_fits
network = refl

pub network_address : on_both (atom.Address (address 10 1 0 0)) ≡ (true, false)
unfolding host_fits
network_address = refl

pub own_address : on_both (atom.Address (address 10 1 2 3)) ≡ (true, false)
unfolding host_fits
own_address = refl

pub loopback : on_both (atom.Address (address 127 0 0 1)) ∷ on_both (atom.Net (address 127 0 0 0) (address 255 0 0 0))
    ∷ [] ≡ (false, false) ∷ (false, false) ∷ []
unfolding host_fits
loopback = refl

pub whole_name : on_both (atom.Host (plain (codes "WEB1.example.org")) false) ≡ (true, false)
unfolding host_fits host_chars free_bangs parts_after part_at bracket_after items_after range_at begins fits cuts
whole_name = refl

pub name_without_dot : on_both (atom.Host (plain (codes "web?")) false) ≡ (true, true)
unfolding host_fits host_chars free_bangs parts_after part_at bracket_after items_after range_at begins fits cuts
name_without_dot = refl

pub quoted_name : on_both (atom.Host (plain (codes "web?")) true) ≡ (false, false)
unfolding host_fits quoted_chars parts_after part_at bracket_after items_after range_at begins fits cuts
quoted_name = refl

-- the `!` of a bracket may be escaped in a host pattern
pub freed_bang : on_both (atom.Host (plain (codes "web[") ++ escaped (codes "!") ++ plain (codes "1]")) false) ≡ (false, true)
unfolding host_fits host_chars free_bangs parts_after part_at bracket_after items_after range_at begins fits cuts
freed_bang = refl
