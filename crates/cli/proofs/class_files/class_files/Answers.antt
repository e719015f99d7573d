use Rattle.std.proofs.Common.{length, refl}
use Rattle.std.proofs.lemmas.Option.{slice_get_read}
use Rattle.cli.proofs.RefusalLemmas.{files_more, first_bad}
use Rattle.cli.proofs.class_files.class_files.Goals as goal

pub loop-place-preserved : goal.loop-place-preserved
loop-place-preserved c =
    files_more c.args.files.now c.loop-place.place _ c.index-files-place.result c.in-Ok.class
    c.loop-place.classes.items _ c.loop-place-test.true c.index-files-place.is c.in_ok-add_class-in-Ok.ensures
    (rw c.as_slice.ensures.value at c.in-Ok.ensures.file) c.loop-place.invariant

pub returns-in-Err-clause-refusal : goal.returns-in-Err-clause-refusal
returns-in-Err-clause-refusal c =
    let files = c.args.files.now in
    let here = slice_get_read files (length files) c.loop-place.place c.index-files-place.result refl
    c.loop-place-test.true c.index-files-place.is in
    first_bad files c.loop-place.place c.index-files-place.result c.loop-place.classes.items c.in-Err.refusal here
    c.loop-place.invariant (rw c.as_slice.ensures.value at c.in-Err.ensures.refusal)
