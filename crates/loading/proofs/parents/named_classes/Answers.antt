use Rattle.std.proofs.Common.{◌≡◌, ◌<◌, ℕ, List, Some, length, get_or, refl, ap, ◌∙◌, arith}
use Rattle.loading.specs.Names.{class_name_at}
use Rattle.loading.specs.steps.Linking.{name_among, one_unknown}
use Rattle.loading.proofs.LinkingInterfaceLemmas.{interface_in, one_more, all_named}
use Rattle.loading.proofs.parents.named_classes.Goals as goal

pub loop-index-preserved : goal.loop-index-preserved
loop-index-preserved c =
    let files = c.args.files.now in
    let f = c.args.file.now in
    let k = c.loop-index.index-index in
    let within : k < length f.interfaces = omega (arith, ap length c.interfaces-indices.ensures) in
    let named : name_among files c.in-Some.class ≡ Some (class_name_at f (get_or f.interfaces k 0)) =
    c.in-Some.ensures.class
    ∙ ap (λ (z : List ℕ). Some (class_name_at f (get_or z k 0))) c.interfaces-indices.ensures in
    record {
      found = c.class_at.ensures.found;
      named = one_more files f k c.loop-index.classes.items c.push.new.self.items c.in-Some.class within
          c.loop-index.invariant.named c.in_ok-push-in-Some.ensures.items named;
    }

pub returns-in-None : goal.returns-in-None
returns-in-None c =
    one_unknown (interface_in c.args.file.now _ _ _ c.interfaces-indices.ensures c.loop-index-test.true
    refl)
    c.in-None.ensures.class

pub returns : goal.returns
returns c = all_named c.args.files.now c.args.file.now c.loop-index.index-index c.loop-index.classes.items
    (omega (arith, ap length c.interfaces-indices.ensures)) c.loop-index.invariant.named
