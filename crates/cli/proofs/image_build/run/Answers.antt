use Rattle.std.proofs.lemmas.Result.{on_ok_weaker}
use Rattle.building.specs.declared.build.BuildOptions.{BuildOptions}
use Rattle.command_line.specs.Requests.{texts}
use Rattle.cli.specs.Files.{AreTextsOf}
use Rattle.cli.specs.Runs.{texts_of}
use Rattle.cli.specs.steps.BuildTexts.{AreTextsOfBuild, wanted_of}
use Rattle.cli.proofs.LeftLemmas.{build_left}
use Rattle.cli.proofs.OutputLemmas.{has_built}
use Rattle.cli.proofs.image_build.run.Goals as goal

pub returns-in-Ok-clause-built : goal.returns-in-Ok-clause-built
returns-in-Ok-clause-built g c =
    let old = g.F.Files.holds c.args.files.now in
    let files = texts_of c.in_ok-texts.texts.items in
    let held : AreTextsOf old (texts c.args.words.now.building.files.items) files =
    rw c.as_slice.ensures.value at c.in_ok-texts.ensures.texts in
    let of : AreTextsOfBuild files c.options_of-options.result (wanted_of c.args.words.now) c.in-Ok.made =
    rw (c.as_slice-2.ensures.value, c.wanted_of-wanted.ensures) at c.in-Ok.ensures in
    on_ok_weaker c.write_texts.result
    (has_built old (g.F.Files.holds c.contents.new.files) (g.F.Files.holds c.write_texts.new.files) c.args.words.now
    files c.options_of-options.result c.in-Ok.made held c.options_of-options.ensures c.contents.ensures.same of)
    c.write_texts.ensures.written

pub returns-in-Ok-clause-left : goal.returns-in-Ok-clause-left
returns-in-Ok-clause-left g c =
    let old = g.F.Files.holds c.args.files.now in
    let files = texts_of c.in_ok-texts.texts.items in
    let held : AreTextsOf old (texts c.args.words.now.building.files.items) files =
    rw c.as_slice.ensures.value at c.in_ok-texts.ensures.texts in
    let of : AreTextsOfBuild files c.options_of-options.result (wanted_of c.args.words.now) c.in-Ok.made =
    rw (c.as_slice-2.ensures.value, c.wanted_of-wanted.ensures) at c.in-Ok.ensures in
    build_left old (g.F.Files.holds c.contents.new.files) (g.F.Files.holds c.write_texts.new.files) c.args.words.now
    files c.options_of-options.result c.in-Ok.made _ c.write_texts.result held c.options_of-options.ensures
    c.contents.ensures.same of c.write_texts.ensures.left
