-- What a profile says of a file that is named by its path; this project's profile.
use Rattle.std.specs.Prelude.{ℕ, List, [], ◌∷◌, codes, Result, unwrap_or}
use Rattle.std.specs.Path.{path_file_name, path_parent}
use Rattle.package_files.specs.Descriptions.{Describes}
use Rattle.package_files.specs.declared.describing.DescribeError.{DescribeError}
use Rattle.package_files.specs.Storages.{Storage}

-- the folder, `.` in place of an empty one
abbrev pub folder_or_here : List ℕ → List ℕ
folder_or_here [] = codes "."
folder_or_here (byte ∷ rest) = byte ∷ rest

-- the folder of a path, as std's `parent` gives it; `.` for a name alone
abbrev pub folder_of : List ℕ → List ℕ
folder_of path = folder_or_here (unwrap_or (path_parent path) [])

-- the name of the file at a path, as std's `file_name` gives it; empty if there is none
abbrev pub name_of : List ℕ → List ℕ
name_of path = unwrap_or (path_file_name path) []

-- rule: Description of a path
-- the file of the path's name in its folder is described, or not for that reason
abbrev pub IsDescribed : Storage → List ℕ → Result (List ℕ) DescribeError → Type 0
IsDescribed storage path described =
    Describes (storage.opens (folder_of path) (name_of path)) (storage.reads (folder_of path) (name_of path))
    (name_of path) described
