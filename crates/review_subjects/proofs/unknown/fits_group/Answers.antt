use Rattle.review_subjects.proofs.Lookups.{plain_group_is_known, group_is_known}
use Rattle.review_subjects.proofs.unknown.fits_group.Goals as goal

pub returns-in-Name : goal.returns-in-Name
returns-in-Name c = let known = plain_group_is_known c.args.directory.now c.as_slice.result.now in cc

pub returns-in-Group : goal.returns-in-Group
returns-in-Group c = let known = group_is_known c.args.directory.now c.as_slice-in-Group.result.now in cc
