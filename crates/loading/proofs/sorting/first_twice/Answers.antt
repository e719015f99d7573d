use Rattle.std.proofs.Common.{◌<◌, length, sym, refl, ◌∙◌, arith}
use Rattle.std.proofs.lemmas.Option.{slice_get_read}
use Rattle.std.proofs.lemmas.Slice.Eq.{bytes_eq-Decides}
use mathlib.Core.Bool.{true≢false}
use Rattle.loading.proofs.FilesTwiceLemmas.{least_twice, apart_more, ascending_files}
use Rattle.loading.proofs.sorting.first_twice.Goals as goal

pub returns-then-eq : goal.returns-then-eq
returns-then-eq c =
    let files = c.args.files.now in
    let within : c.loop-next.next < length files = omega arith in
    let at-g = slice_get_read files (length files) c.loop-next.next _ refl within c.index-files-next.is in
    let at-f = slice_get_read files (length files) _ _ refl (omega arith) c.index-files-next-in-loop-next.is in
    let same = (bytes_eq-Decides c.name_of.result.now c.name_of-in-loop-next.result.now).0
    (sym c.eq.ensures ∙ c.if-eq.true) in
    least_twice files c.requires _ c.loop-next.next _ _ (omega arith) at-f at-g
    (sym c.name_of.ensures.value ∙ same ∙ c.name_of-in-loop-next.ensures.value) c.loop-next.invariant

pub loop-next-preserved : goal.loop-next-preserved
loop-next-preserved c =
    let files = c.args.files.now in
    let within : c.loop-next.next < length files = omega arith in
    let at-g = slice_get_read files (length files) c.loop-next.next _ refl within c.index-files-next.is in
    let at-f = slice_get_read files (length files) _ _ refl (omega arith) c.index-files-next-in-loop-next.is in
    apart_more files _ c.loop-next.next _ _ (omega arith) at-f at-g c.loop-next.invariant (λ same.
    let equal = (bytes_eq-Decides c.name_of.result.now c.name_of-in-loop-next.result.now).1
    (c.name_of.ensures.value ∙ same ∙ sym c.name_of-in-loop-next.ensures.value) in
    true≢false (sym equal ∙ sym c.eq.ensures ∙ c.if-eq.false))

pub returns : goal.returns
returns c = ascending_files c.args.files.now c.loop-next.next c.requires (omega arith) c.loop-next.invariant
