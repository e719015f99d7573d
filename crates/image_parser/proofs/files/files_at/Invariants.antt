use Rattle.std.proofs.Common.{◌≡◌, ◌+◌, ◌-◌, None}
use Rattle.image_parser.specs.reading.Files.{last_name, files_at, after_files}
use Rattle.image_parser.proofs.files.files_at.Given as goal

abbrev pub invariant-loop-index : goal.invariant-loop-index
invariant-loop-index l =
    after_files l.files.items (files_at (l.count - l.index) (l.first + l.index) (last_name l.files.items) l.rest)
    ≡ files_at l.count l.first None l.bytes
