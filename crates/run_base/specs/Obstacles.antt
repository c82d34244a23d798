-- What keeps a file from being read, by the error of the system.
use Rattle.std.specs.declared.io.ErrorKind.{ErrorKind}
use Rattle.std.specs.declared.io.ErrorKind.TheVariants as kinds
use Rattle.run_base.specs.declared.obstacle.Obstacle.{Obstacle}
use Rattle.run_base.specs.declared.obstacle.Obstacle.TheVariants as obstacles

-- ENOENT, EACCES or EPERM, EISDIR, ENOTDIR and ELOOP of open(2); any other error has no name
abbrev pub obstacle_of : ErrorKind → Obstacle
obstacle_of kinds.NotFound = obstacles.NotFound
obstacle_of kinds.PermissionDenied = obstacles.PermissionDenied
obstacle_of kinds.IsADirectory = obstacles.IsFolder
obstacle_of kinds.NotADirectory = obstacles.NotFolder
obstacle_of kinds.FilesystemLoop = obstacles.TooManyLinks
obstacle_of _ = obstacles.Other
