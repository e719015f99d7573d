use Rattle.cli.proofs.build_texts.texts_of_build.Goals as goal

pub returns-in-Ok-page_if : goal.returns-in-Ok-page_if
returns-in-Ok-page_if c = λ texts by. record {
  answer = c.args.built.now;
  build = by;
  built = c.in-Ok.ensures.built texts c.args.options.now by;
  text = c.in-Ok.ensures.text;
  report = c.in-Ok-report_if.ensures;
  page = c.in-Ok-page_if.ensures;
}
