use Rattle.sudo_laws.proofs.AddressTexts.{address_back, network_back}
use Rattle.sudo_laws.proofs.MemberTexts.{alias_read, gid_read, group_read, quoted_read, uid_read, user_read}
use Rattle.sudo_laws.proofs.texts.members_read_back.Goals as goal

pub returns-clause-aliases : goal.returns-clause-aliases
returns-clause-aliases c = alias_read

pub returns-clause-users : goal.returns-clause-users
returns-clause-users c = user_read

pub returns-clause-quoted_users : goal.returns-clause-quoted_users
returns-clause-quoted_users c = quoted_read

pub returns-clause-groups : goal.returns-clause-groups
returns-clause-groups c = group_read

pub returns-clause-user_ids : goal.returns-clause-user_ids
returns-clause-user_ids c = uid_read

pub returns-clause-group_ids : goal.returns-clause-group_ids
returns-clause-group_ids c = gid_read

pub returns-clause-addresses : goal.returns-clause-addresses
returns-clause-addresses c = address_back

pub returns-clause-networks : goal.returns-clause-networks
returns-clause-networks c = network_back
