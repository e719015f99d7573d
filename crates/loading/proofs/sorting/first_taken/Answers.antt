use Rattle.std.proofs.Common.{ℕ, List, length, sym, refl, ◌∙◌, subst, arith}
use Rattle.std.proofs.lemmas.Option.{slice_get_read}
use Rattle.loading.specs.Files.{IsBuiltIn}
use Rattle.loading.proofs.LinkingPlaceLemmas.{none_more}
use Rattle.loading.proofs.FilesTakenLemmas.{HasTakenName, HasArrayName, found_built_in, found_none, least_taken}
use Rattle.loading.proofs.FilesTakenLemmas.{none_taken, none_array}
use Rattle.loading.proofs.sorting.first_taken.Goals as goal

pub returns-then-is_some : goal.returns-then-is_some
returns-then-is_some c =
    let files = c.args.files.now in
    let at-f = slice_get_read files (length files) c.loop-file.file-index c.file-item.result refl c.loop-file-test.true
    c.file-item.is in
    let built = found_built_in c.named.result c.name_of.result.now c.named.ensures
    (sym c.is_some.ensures ∙ c.if-is_some.true) in
    least_taken files c.loop-file.file-index c.file-item.result c.requires at-f c.loop-file.invariant.free
    (subst (λ (z : List ℕ). IsBuiltIn z) c.name_of.ensures.value built)

pub loop-file-preserved : goal.loop-file-preserved
loop-file-preserved c =
    let files = c.args.files.now in
    let at-f = slice_get_read files (length files) c.loop-file.file-index c.file-item.result refl c.loop-file-test.true
    c.file-item.is in
    record {
      free = none_more HasTakenName files c.loop-file.file-index c.file-item.result at-f c.loop-file.invariant.free
          (λ built. found_none c.named.result c.name_of.result.now c.named.ensures
          (sym c.is_some.ensures ∙ c.if-is_some.false)
          (subst (λ (z : List ℕ). IsBuiltIn z) (sym c.name_of.ensures.value) built));
      plain = none_more HasArrayName files c.loop-file.file-index c.file-item.result at-f c.loop-file.invariant.plain
          (λ array. c.name_of.ensures.plain array.0 (c.name_of.ensures.value ∙ array.1));
    }

pub returns : goal.returns
returns c = (
  none_taken c.args.files.now c.loop-file.file-index (omega arith) c.loop-file.invariant.free,
  none_array c.args.files.now c.loop-file.file-index (omega arith) c.loop-file.invariant.plain,
)
