-- Where an IPv6 address stands as a member of a list of hosts.
use Rattle.std.specs.Prelude.{◌≡◌, ℕ, true, List, take, Option, None, Some}
use Rattle.std.specs.Option.{option_map}
use Rattle.sudo_text.specs.declared.line.Line.{Line}
use Rattle.review_texts.specs.declared.ipv6.HostAddress.{HostAddress}
use Rattle.review_texts.specs.Netgroups.{sign_at}
use Rattle.review_texts.specs.Ipv6.{host_list, ipv6_end, member_at, spells_ipv6}
use Rattle.review_texts.specs.Places.{TakesHost, TakesUser}
use Rattle.review_texts.specs.Words.{newline_count}

-- the list for the address or the network at an offset
abbrev pub list_at : List HostAddress → List ℕ → ℕ → Option (List ℕ)
list_at known text at = option_map (host_list known (sign_at (take at text))) (member_at text at)

-- An address or a network stands at an offset, and this list of the hosts that have it: it is spelled there, and a list of hosts goes on
-- there. The list stands on one line.
pub record StandsMember (known : List HostAddress) (line : Line) (at : ℕ) (put : List ℕ) : Type 0 where
  pub spelled : spells_ipv6 line.text at ≡ true
  pub hosts : TakesHost line at
  pub others : TakesUser line at → ⊥
  pub list : list_at known line.text at ≡ Some put
  pub one_line : newline_count put ≡ 0

-- the same up to another offset, if the addresses of hosts are known
abbrev pub StandsIpv6 : Option (List HostAddress) → Line → ℕ → ℕ → List ℕ → Type 0
StandsIpv6 None line start end put = ⊥
StandsIpv6 (Some known) line start end put = StandsMember known line start put × (end ≡ ipv6_end line.text start)
