-- The class files of a request.
use Rattle.std.specs.Prelude.{ℕ, List, []}
use Rattle.std.specs.Borrow.{Bor}
use Rattle.std.specs.Global.{Vec}
use Rattle.command_line.specs.declared.request.Building.{Building}
use Rattle.command_line.specs.declared.request.Request.{Request}
use Rattle.command_line.specs.declared.request.Request.TheVariants as requests

-- the names of class files that a request has: none, where it is one of an image
abbrev pub files_of : Request → List (Bor (List ℕ))
files_of (requests.Audit audit) = audit.files.items
files_of (requests.Build build) = build.building.files.items
files_of (requests.Explain explain) = explain.building.files.items
files_of (requests.Lazy lazy) = lazy.files.items
files_of (requests.Report report) = report.building.files.items
files_of _ = []

-- the same build of other class files
abbrev pub building_with : Building → Vec (Bor (List ℕ)) → Building
building_with building files = record building { files = files }

-- the same request of other class files, where it is one of class files
abbrev pub with_files : Request → Vec (Bor (List ℕ)) → Request
with_files (requests.Audit audit) files = requests.Audit (record audit { files = files })
with_files (requests.Build build) files =
    requests.Build (record build { building = building_with build.building files })
with_files (requests.Explain explain) files =
    requests.Explain (record explain { building = building_with explain.building files })
with_files (requests.Lazy lazy) files = requests.Lazy (record lazy { files = files })
with_files (requests.Report report) files =
    requests.Report (record report { building = building_with report.building files })
with_files request _ = request
