-- When the errors of a server come; this project's profile.
use Rattle.std.specs.Prelude.{⊤}
use Rattle.server_ports.specs.declared.error.ServerError.{ServerError}
use Rattle.server_ports.specs.declared.error.ServerError.TheVariants as server

-- an error that isn't that of a log
abbrev pub IsUnlogged : ServerError → Type 0
IsUnlogged server.Net = ⊤
IsUnlogged server.OperatorNet = ⊤
IsUnlogged server.Log = ⊥
IsUnlogged server.Folder = ⊤
IsUnlogged (server.Package name what) = ⊤
IsUnlogged server.NoPlace = ⊤
IsUnlogged server.Thread = ⊤
IsUnlogged server.RoomLeft = ⊤
IsUnlogged server.Unpublished = ⊤
IsUnlogged server.EndedEarly = ⊤
IsUnlogged server.Write = ⊤
IsUnlogged server.Memory = ⊤

-- an error that comes after the log, the folder and the packages were looked for
abbrev pub IsLater : ServerError → Type 0
IsLater server.Net = ⊤
IsLater server.OperatorNet = ⊤
IsLater server.Log = ⊥
IsLater server.Folder = ⊥
IsLater (server.Package name what) = ⊥
IsLater server.NoPlace = ⊤
IsLater server.Thread = ⊤
IsLater server.RoomLeft = ⊤
IsLater server.Unpublished = ⊤
IsLater server.EndedEarly = ⊤
IsLater server.Write = ⊤
IsLater server.Memory = ⊤

-- an error that comes before a line is sent to a log
abbrev pub IsEarly : ServerError → Type 0
IsEarly server.Net = ⊤
IsEarly server.OperatorNet = ⊤
IsEarly server.Log = ⊤
IsEarly server.Folder = ⊤
IsEarly (server.Package name what) = ⊤
IsEarly server.NoPlace = ⊤
IsEarly server.Thread = ⊥
IsEarly server.RoomLeft = ⊥
IsEarly server.Unpublished = ⊥
IsEarly server.EndedEarly = ⊥
IsEarly server.Write = ⊥
IsEarly server.Memory = ⊥
