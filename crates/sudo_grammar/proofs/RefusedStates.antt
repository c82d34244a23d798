-- The refusal at each state is that of what is expected after the tokens that led there.
use Rattle.std.proofs.Common.{◌≡◌, ℕ, List, [], refl, ap, sym, ◌∙◌, subst, Some}
use Rattle.sudo_text.specs.declared.token.Token.{Token}
use Rattle.sudo_grammar.specs.declared.kind.Kind.{Kind}
use Rattle.sudo_grammar.specs.declared.kind.Kind.TheVariants as kinds
use Rattle.sudo_grammar.specs.declared.kind.Member.{Member}
use Rattle.sudo_grammar.specs.declared.fault.Expected.TheVariants as wants
use Rattle.sudo_grammar.specs.declared.fault.Refusal.TheVariants as refusals
use Rattle.sudo_grammar.specs.Members.{atom_of, expected_in}
use Rattle.sudo_grammar.specs.Standing.{MembersStand, CanStand}
use Rattle.sudo_grammar.specs.Refusals.{refused_member, refused_first, IsRefusal}
use Rattle.sudo_grammar.specs.Faults.{Room}
use Rattle.sudo_grammar.specs.Body.States.{Purpose, Defines, Users, Hosts, RunasUsers, RunasGroups, Binds}
use Rattle.sudo_grammar.specs.Body.States.{kind_for, State, Start, AliasName, AfterName, Item, AfterItem, Command}
use Rattle.sudo_grammar.specs.Body.States.{AfterCommand, RunasStart, GroupsStart, DefaultsStart, AtParameter}
use Rattle.sudo_grammar.specs.Body.States.{AfterSwitch, AtValue, AfterValue, Included, member_state, state_after}
use Rattle.sudo_grammar.specs.Body.Refused.{is_option, or_option, refused_at}
use Rattle.sudo_grammar.proofs.Complete.{at_item-takes, runas-first, groups-first}
use Rattle.sudo_grammar.proofs.LastTokens.{slash, command_before, start-only}
use Rattle.sudo_grammar.proofs.ExpectedTokens.{step-begins, after-stands, state-stands, may-end}
use Rattle.sudo_grammar.proofs.FirstExpected.{empty, user, same-atom, same-refusal, is-end, is-equals, is-command}
use Rattle.sudo_grammar.proofs.FirstExpected.{is-parameter, is-value, is-member, is-paren, is-name, is-refusal}
use Rattle.sudo_grammar.proofs.FirstExpected.{IsRefused, by-users, by-hosts}

-- at the start of a line
refused-start : (room : Room) (ts : List Token) → IsRefused [] ts (refused_first ts)
refused-start room ts = (
  wants.Member,
  (
    is-member room [] Start refl refl (λ wide. refl) (λ wide. refl) (λ wide. refl) (state-stands room [] Start [] wants.Member refl refl),
    refl,
  ),
)

module _ (room : Room) (front ts : List Token) where
  -- in a list, by its kind
  refused-item : (p : Purpose) (n : ℕ) (d : List Member) → state_after room Start front ≡ Some (Item p n d)
      → (k : Kind) → kind_for p ≡ k → IsRefused front ts (refused_member (kind_for p) ts)
  refused-item p n d reached k is = go k is
    where
      takes : (k : Kind) → kind_for p ≡ k → MembersStand k front
      takes k is t a h = step-begins room front (Item p n d) _ t reached (at_item-takes p n d t a (ap (λ k. atom_of k t.kind) is ∙ h))

      users : kind_for p ≡ kinds.Runas → MembersStand kinds.User front
      users is t a h = takes kinds.Runas is t a (sym (same-atom t.kind) ∙ h)

      go : (k : Kind) → kind_for p ≡ k → IsRefused front ts (refused_member (kind_for p) ts)
      go kinds.Cmnd is = (
        wants.Command,
        (is-command room front (Item p n d) reached refl (λ wide. refl) (takes kinds.Cmnd is), ap (λ k. refused_member k ts) is),
      )
      go kinds.User is = (
        wants.Member,
        (
          is-member room front (Item p n d) reached refl (λ wide. refl)
              (λ wide. ap (λ k. member_state p n d slash (atom_of k slash.kind)) is)
              (λ wide. ap (λ k. member_state p n d empty (atom_of k empty.kind)) is)
              (state-stands room front (Item p n d) [] wants.Member reached (ap (λ k. refusals.Syntax (expected_in k)) is)),
          subst (IsRefusal wants.Member front ts) (ap (λ k. refused_member k ts) (sym is))
              (by-users room front ts (Item p n d) (λ e. cc) reached (takes kinds.User is)),
        ),
      )
      go kinds.Runas is = (
        wants.Member,
        (
          is-member room front (Item p n d) reached refl (λ wide. refl)
              (λ wide. ap (λ k. member_state p n d slash (atom_of k slash.kind)) is)
              (λ wide. ap (λ k. member_state p n d empty (atom_of k empty.kind)) is)
              (state-stands room front (Item p n d) [] wants.Member reached (ap (λ k. refusals.Syntax (expected_in k)) is)),
          subst (IsRefusal wants.Member front ts) (sym (ap (λ k. refused_member k ts) is ∙ same-refusal ts))
              (by-users room front ts (Item p n d) (λ e. cc) reached (users is)),
        ),
      )
      go kinds.Host is = (
        wants.Member,
        (
          is-member room front (Item p n d) reached refl (λ wide. refl)
              (λ wide. ap (λ k. member_state p n d slash (atom_of k slash.kind)) is)
              (λ wide. ap (λ k. member_state p n d empty (atom_of k empty.kind)) is)
              (state-stands room front (Item p n d) [] wants.Member reached (ap (λ k. refusals.Syntax (expected_in k)) is)),
          subst (IsRefusal wants.Member front ts) (ap (λ k. refused_member k ts) (sym is))
              (by-hosts room front ts (Item p n d) (λ e. cc) reached (λ wide. ap (λ k. member_state p n d user (atom_of k user.kind)) is)),
        ),
      )

  -- after a list, by its purpose
  refused-after : (p : Purpose) (d : List Member) → state_after room Start front ≡ Some (AfterItem p d)
      → IsRefused front ts (refused_at (AfterItem p d) ts)
  refused-after (Defines k done w) d reached =
      let q : State = AfterItem (Defines k done w) d in (
        wants.EndOfLine,
        (
          is-end room front q reached (may-end room front q _ reached refl),
          is-refusal room front q reached ts wants.EndOfLine (is_option (command_before q) ts) refl,
        ),
      )
  refused-after Users d reached =
      let q : State = AfterItem Users d in (
        wants.Member,
        (
          is-member room front q reached refl (λ wide. refl) (λ wide. refl) (λ wide. refl)
              (after-stands room front Users d [] wants.Member reached refl),
          by-hosts room front ts q (λ e. cc) reached (λ wide. refl),
        ),
      )
  refused-after (Hosts us ss) d reached =
      let q : State = AfterItem (Hosts us ss) d in (
        wants.Equals,
        (
          is-equals room front q reached refl (after-stands room front (Hosts us ss) d [] wants.Equals reached refl),
          is-refusal room front q reached ts wants.Equals (is_option (command_before q) ts) refl,
        ),
      )
  refused-after (RunasUsers g) d reached =
      let q : State = AfterItem (RunasUsers g) d in (
        wants.RightParen,
        (
          is-paren room front q reached refl (λ wide. refl) (λ wide. refl) (λ wide. refl) (λ wide. refl)
              (after-stands room front (RunasUsers g) d [] wants.RightParen reached refl),
          is-refusal room front q reached ts wants.RightParen (is_option (command_before q) ts) refl,
        ),
      )
  refused-after (RunasGroups g us) d reached =
      let q : State = AfterItem (RunasGroups g us) d in (
        wants.RightParen,
        (
          is-paren room front q reached refl (λ wide. refl) (λ wide. refl) (λ wide. refl) (λ wide. refl)
              (after-stands room front (RunasGroups g us) d [] wants.RightParen reached refl),
          is-refusal room front q reached ts wants.RightParen (is_option (command_before q) ts) refl,
        ),
      )
  refused-after (Binds k) d reached =
      let q : State = AfterItem (Binds k) d in (
        wants.Parameter,
        (
          is-parameter room front q reached refl (λ wide. refl) (λ wide. refl)
              (after-stands room front (Binds k) d [] wants.Parameter reached refl),
          is-refusal room front q reached ts wants.Parameter (is_option (command_before q) ts) refl,
        ),
      )

  -- in parentheses, where a user or a group to run as may begin
  refused-runas : (q : State) → (q ≡ Start → ⊥) → state_after room Start front ≡ Some q → MembersStand kinds.Runas front
      → IsRefusal wants.Member front ts (refused_member kinds.Runas ts)
  refused-runas q other reached stands = subst (IsRefusal wants.Member front ts) (sym (same-refusal ts))
      (by-users room front ts q other reached (λ t a h. stands t a (sym (same-atom t.kind) ∙ h)))

  -- where the line could end
  refused-end : (q : State) → state_after room Start front ≡ Some q
      → CanStand wants.EndOfLine front → IsRefused front ts (or_option (command_before q) ts (refusals.Syntax wants.EndOfLine))
  refused-end q reached stands = (
    wants.EndOfLine,
    (is-end room front q reached stands, is-refusal room front q reached ts wants.EndOfLine (is_option (command_before q) ts) refl),
  )

  pub refused-state : (q : State) → state_after room Start front ≡ Some q → IsRefused front ts (refused_at q ts)
  refused-state Start reached =
      subst (λ f. IsRefused f ts (refused_first ts)) (sym (start-only room front reached)) (refused-start room ts)
  refused-state (AliasName k d) reached =
      let q : State = AliasName k d in (
        wants.AliasName,
        (
          is-name room front q reached refl (λ wide. refl) (λ wide. refl) (λ wide. refl) (λ wide. refl) (λ wide. refl)
              (state-stands room front q [] wants.AliasName reached refl),
          refl,
        ),
      )
  refused-state (AfterName k d w) reached =
      let q : State = AfterName k d w in (
        wants.Equals,
        (
          is-equals room front q reached refl (state-stands room front q [] wants.Equals reached refl),
          is-refusal room front q reached ts wants.Equals (is_option (command_before q) ts) refl,
        ),
      )
  refused-state (Item p n d) reached = refused-item p n d reached (kind_for p) refl
  refused-state (AfterItem p d) reached = refused-after p d reached
  refused-state (Command g r tags n) reached =
      let q : State = Command g r tags n in (
        wants.Command,
        (is-command room front q reached refl (λ wide. refl) (state-stands room front q [] wants.Command reached refl), refl),
      )
  refused-state (AfterCommand g s) reached = refused-end (AfterCommand g s) reached (may-end room front (AfterCommand g s) _ reached refl)
  refused-state (RunasStart g) reached =
      let q : State = RunasStart g in (
        wants.Member,
        (
          is-member room front q reached refl (λ wide. refl) (λ wide. refl) (λ wide. refl)
              (state-stands room front q [] wants.Member reached refl),
          refused-runas q (λ e. cc) reached
              (λ t a h. step-begins room front q _ t reached
              (runas-first room g t _ t.kind refl (at_item-takes (RunasUsers g) 0 [] t a h))),
        ),
      )
  refused-state (GroupsStart g us) reached =
      let q : State = GroupsStart g us in (
        wants.Member,
        (
          is-member room front q reached refl (λ wide. refl) (λ wide. refl) (λ wide. refl)
              (state-stands room front q [] wants.Member reached refl),
          refused-runas q (λ e. cc) reached
              (λ t a h. step-begins room front q _ t reached
              (groups-first room g us t _ t.kind refl (at_item-takes (RunasGroups g us) 0 [] t a h))),
        ),
      )
  refused-state DefaultsStart reached =
      let q : State = DefaultsStart in (
        wants.Parameter,
        (
          is-parameter room front q reached refl (λ wide. refl) (λ wide. refl) (state-stands room front q [] wants.Parameter reached refl),
          is-refusal room front q reached ts wants.Parameter (is_option (command_before q) ts) refl,
        ),
      )
  refused-state (AtParameter b d n) reached =
      let q : State = AtParameter b d n in (
        wants.Parameter,
        (
          is-parameter room front q reached refl (λ wide. refl) (λ wide. refl) (state-stands room front q [] wants.Parameter reached refl),
          is-refusal room front q reached ts wants.Parameter (is_option (command_before q) ts) refl,
        ),
      )
  refused-state (AfterSwitch b d n name) reached =
      refused-end (AfterSwitch b d n name) reached (may-end room front (AfterSwitch b d n name) _ reached refl)
  refused-state (AtValue b d name o) reached =
      let q : State = AtValue b d name o in (
        wants.Value,
        (
          is-value room front q reached refl (λ wide. refl) (λ wide. refl) (λ wide. refl)
              (state-stands room front q [] wants.Value reached refl),
          is-refusal room front q reached ts wants.Value (is_option (command_before q) ts) refl,
        ),
      )
  refused-state (AfterValue b d) reached = refused-end (AfterValue b d) reached (may-end room front (AfterValue b d) _ reached refl)
  refused-state (Included folder hash path) reached =
      refused-end (Included folder hash path) reached (may-end room front (Included folder hash path) _ reached refl)
