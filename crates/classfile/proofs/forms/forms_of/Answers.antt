use Rattle.std.proofs.Common.{[], ◌∷◌, ◌++◌, take, sym, ap, ◌∙◌}
use Rattle.std.proofs.lemmas.List.{map_more}
use Rattle.classfile.specs.declared.constant.Constant.{Constant}
use Rattle.classfile.specs.reading.Forms.{form_of, forms_of}
use Rattle.classfile.proofs.forms.forms_of.Goals as goal

pub loop-constant-preserved : goal.loop-constant-preserved
loop-constant-preserved c =
    let pool = c.args.pool.now in
    let more = map_more form_of c.args.pool.now c.loop-constant.constant-index c.constant-item.result
    c.loop-constant-test.true in
    let one = ap (λ (z : Constant). forms_of (take c.loop-constant.constant-index c.args.pool.now) ++ form_of z ∷ [])
    c.constant-item.is in
    rw (c.in_ok-push.ensures.items, c.loop-constant.invariant, c.form_of.ensures) (one ∙ sym more)
