use Rattle.std.proofs.lemmas.Result.{err_from_is_err_and}
use Rattle.image_parser.specs.reading.Files.{last_name}
use Rattle.image_parser.proofs.FileLemmas.{file_fails, next_file, all_files}
use Rattle.image_parser.proofs.files.files_at.Goals as goal

pub returns-in_err-file : goal.returns-in_err-file
returns-in_err-file c =
    let p = err_from_is_err_and c.from_residual.result c.from_residual.ensures.1 in
    rw (p.1, p.2) (file_fails c.in_err-file.field-0.0 c.args.first c.loop-index.files.items
    (last_name c.loop-index.files.items) _ c.loop-index-test.true
    (rw (← c.as_slice.ensures.value) c.in_err-file.ensures) c.loop-index.invariant)

pub loop-index-preserved : goal.loop-index-preserved
loop-index-preserved c =
    rw (c.in_ok-push.ensures.items) (next_file c.args.first c.loop-index.files.items _ c.loop-index-test.true
    (rw (← c.as_slice.ensures.value) c.in_ok-file.ensures) c.loop-index.invariant)

pub returns : goal.returns
returns c =
    all_files _ c.loop-index.files.items
    (last_name c.loop-index.files.items) _ c.loop-index-test.false c.loop-index.invariant
