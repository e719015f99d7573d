use Rattle.std.proofs.Common.{length, refl}
use Rattle.std.proofs.lemmas.Option.{slice_get_read}
use Rattle.std.proofs.lemmas.Result.{err_from_is_err_and}
use Rattle.loading.proofs.LinkingFileLemmas.{memory_or, parents_more}
use Rattle.loading.proofs.linking.all_parents.Goals as goal

pub returns-in_err-parents_of-clause-fault : goal.returns-in_err-parents_of-clause-fault
returns-in_err-parents_of-clause-fault c =
    let p = err_from_is_err_and c.from_residual-in_err-parents_of.result c.from_residual-in_err-parents_of.ensures.1 in
    let files = c.args.files.now in
    let at-f = slice_get_read files (length files) c.loop-file.file-index c.file-item.result refl c.loop-file-test.true
    c.file-item.is in
    rw (p.1, p.2) (memory_or files c.loop-file.file-index c.file-item.result _ c.loop-file.parents.items c.requires.few
    c.requires.named at-f c.loop-file.invariant c.in_err-parents_of.ensures.fault)

pub loop-file-preserved : goal.loop-file-preserved
loop-file-preserved c =
    parents_more c.args.files.now c.loop-file.file-index c.file-item.result _ c.loop-file.parents.items _
    c.loop-file-test.true c.file-item.is c.in_ok-push.ensures.items
    c.in_ok-parents_of.ensures.ok c.loop-file.invariant
