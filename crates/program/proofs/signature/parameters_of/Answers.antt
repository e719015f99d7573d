use Rattle.std.proofs.Common.{◌≡◌, true, false, [], ◌∷◌, ◌++◌, take, drop, ap, subst, sym, ◌∙◌}
use Rattle.program.specs.Fields.{field_kind}
use Rattle.program.specs.steps.ParsedSignatures.{type_length, ends_parameters, AreParameters}
use Rattle.program.proofs.SignatureLemmas.{one_type, all_read}
use Rattle.program.proofs.signature.parameters_of.Goals as goal

pub loop-rest-preserved : goal.loop-rest-preserved
loop-rest-preserved c =
    let rest = c.loop-rest.rest.now in
    let kinds = c.loop-rest.kinds.items in
    let more : ends_parameters rest ≡ false = sym c.ends_parameters.ensures ∙ c.loop-rest-test.true in
    let count = c.type_length.ensures.length in
    let first : c.split_at.result.0.now ≡ take (type_length rest) rest =
    c.split_at.ensures.front ∙ ap (λ n. take n rest) count in
    let after : c.split_at.result.1.now ≡ drop (type_length rest) rest =
    c.split_at.ensures.back ∙ ap (λ n. drop n rest) count in
    let kind : c.field_kind.result ≡ field_kind (take (type_length rest) rest) =
    c.field_kind.ensures ∙ ap field_kind first in
    one_type c.args.text.now kinds c.push.new.self.items rest c.split_at.result.1.now more c.loop-rest.invariant
    (c.in_ok-push.ensures.items ∙ ap (λ k. kinds ++ k ∷ []) kind) after

pub returns : goal.returns
returns c =
    let ends : ends_parameters c.loop-rest.rest.now ≡ true = sym c.ends_parameters.ensures ∙ c.loop-rest-test.false in
    subst (λ kinds. AreParameters c.args.text.now kinds c.loop-rest.rest.now) (sym c.of_kinds.ensures)
    (all_read c.args.text.now c.loop-rest.kinds.items c.loop-rest.rest.now ends c.loop-rest.invariant)
