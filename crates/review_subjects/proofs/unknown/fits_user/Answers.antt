use Rattle.review_subjects.proofs.Lookups.{name_is_known, group_has_users}
use Rattle.review_subjects.proofs.unknown.fits_user.Goals as goal

pub returns-in-Name : goal.returns-in-Name
returns-in-Name c = let known = name_is_known c.args.directory.now c.as_slice.result.now in cc

pub returns-in-Group : goal.returns-in-Group
returns-in-Group c = let known = group_has_users c.args.directory.now c.as_slice-in-Group.result.now in cc
