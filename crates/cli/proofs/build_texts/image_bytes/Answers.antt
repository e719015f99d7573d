use Rattle.std.proofs.lemmas.Result.{IfOk-weaker}
use Rattle.cli.proofs.ImageBuildLemmas.{built_text, is_text_of}
use Rattle.cli.proofs.build_texts.image_bytes.Goals as goal

pub returns-clause-built : goal.returns-clause-built
returns-clause-built c = λ texts options by.
    IfOk-weaker c.image_text.result _ _
    (λ bytes same.
    built_text texts options c.args.built.now bytes.items c.region-region.ensures.whole c.region-region.ensures.small by
    (is_text_of c.args.built.now.image bytes.items same c.image_text.ensures.image))
    c.image_text.ensures.text

pub returns-clause-text : goal.returns-clause-text
returns-clause-text c =
    IfOk-weaker c.image_text.result _ _
    (λ bytes same. is_text_of c.args.built.now.image bytes.items same c.image_text.ensures.image)
    c.image_text.ensures.text
