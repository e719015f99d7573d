use Rattle.std.proofs.Common.{◌∙◌}
use Rattle.cli.proofs.ListLemmas.{given_more}
use Rattle.cli.proofs.lists.words_given.Goals as goal

pub loop-word-preserved : goal.loop-word-preserved
loop-word-preserved g c = record {
  given = given_more (g.F.Files.holds c.args.files.now) (g.F.Files.holds c.loop-word.files) c.args.words.now
      c.loop-word.word-index _ c.in-Ok.one c.loop-word.given.items c.add_given.new.given.items c.loop-word-test.true
      c.in_ok-add_given-in-Ok.ensures c.loop-word.invariant.same c.in-Ok.ensures.given c.loop-word.invariant.given;
  same = c.given_as.ensures.same ∙ c.loop-word.invariant.same;
}
