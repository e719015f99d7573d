use Rattle.std.proofs.Common.{◌∙◌}
use Rattle.cli.proofs.FileLemmas.{most_more, texts_more}
use Rattle.cli.proofs.files.contents.Goals as goal

pub loop-name-preserved : goal.loop-name-preserved
loop-name-preserved g c = record {
  most = most_more c.args.most c.in-Ok.bytes c.loop-name.contents.items c.add_bytes.new.contents.items
      c.in_ok-add_bytes-in-Ok.ensures c.in-Ok.ensures.most c.loop-name.invariant.most;
  texts = texts_more (g.F.Files.holds c.args.files.now) (g.F.Files.holds c.loop-name.files) c.args.names.now
      c.loop-name.name-index _ c.in-Ok.bytes c.loop-name.contents.items c.add_bytes.new.contents.items
      c.loop-name-test.true c.in_ok-add_bytes-in-Ok.ensures c.loop-name.invariant.same c.in-Ok.ensures.bytes
      c.loop-name.invariant.texts;
  same = c.content.ensures.same ∙ c.loop-name.invariant.same;
}
