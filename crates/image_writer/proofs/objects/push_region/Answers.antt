use Rattle.std.proofs.Common.{◌≡◌, ◌∙◌, ◌++◌, ℕ, List, length, map, sym, ap, arith}
use Rattle.std.specs.List.{flat_map}
use Rattle.std.proofs.lemmas.List.{length-map}
use Rattle.std.proofs.lemmas.Result.{on_ok_weaker}
use Rattle.classfile.specs.Spelling.{u4}
use Rattle.vm_state.specs.declared.object.Object.{Object}
use Rattle.vm_state.specs.Pools.{pool_by}
use Rattle.vm_state.specs.Statics.{field_in}
use Rattle.program.specs.Tables.{Tables, statics_in}
use Rattle.image_format.specs.Regions.{KeptObject}
use Rattle.image_format.specs.declared.version.Version.TheVariants.{Two}
use Rattle.image_format.specs.Texts.{value_text, kept_text}
use Rattle.image_format.specs.Told.{told_fields, told_kept, told_objects}
use Rattle.image_format.proofs.RowsLemmas.{told_row, all_row, numbers_low, row_few}
use Rattle.image_writer.specs.steps.Sizes.{IsSizedObject}
use Rattle.image_writer.proofs.TextLemmas.{two_parts, three_parts}
use Rattle.image_writer.proofs.objects.push_region.Goals as goal

pub overflow_cast-made : goal.overflow_cast-made
overflow_cast-made c = omega (arith, c.count-made.ensures, c.requires.few)

pub overflow_cast-kept : goal.overflow_cast-kept
overflow_cast-kept c =
    let row = c.args.region.now.objects in
    let few = row_few 0 row.objects row.count c.len-kept.ensures.ascending in
    omega (arith, few, c.requires.few, c.len-kept.ensures.all)

pub push_objects-requires-clause-sized : goal.push_objects-requires-clause-sized
push_objects-requires-clause-sized c =
    let row = c.args.region.now.objects in
    rw c.program-program.ensures (all_row (λ n o. IsSizedObject c.args.image.now.program o) 0 row.objects row.count
    c.len-kept.ensures.ascending (λ n o le at. c.requires.sized.objects n o at))

pub push_objects-requires-clause-numbers : goal.push_objects-requires-clause-numbers
push_objects-requires-clause-numbers c =
    numbers_low 0 c.args.region.now.objects.objects c.args.region.now.objects.count c.len-kept.ensures.ascending
    c.requires.few

pub returns : goal.returns
returns c =
    let P = c.args.image.now.program in
    let pool = pool_by c.args.region.now.objects in
    let fields = field_in c.args.region.now.fields in
    let row : List (ℕ × Object) = c.args.region.now.objects.objects in
    let told : told_objects P.strings pool ≡ map (told_kept P.strings) row =
    told_row P.strings row pool c.len-kept.ensures.pool in
    let many : c.len-kept.result ≡ length (told_objects P.strings pool) =
    c.len-kept.ensures.all ∙ sym (ap length told ∙ length-map row (told_kept P.strings)) in
    let before : List ℕ = c.push_u32.new.out.items in
    let third : List ℕ = c.push_u32-2.new.out.items in
    let declared : ℕ = length (statics_in P c.args.class) in
    let statics : c.push_fields.new.out.items ≡ before ++ flat_map value_text (told_fields P.strings fields declared) =
    c.in_ok-push_fields.ensures
    ∙ ap (λ (Q : Tables). before ++ flat_map value_text (told_fields Q.strings fields c.static_count.result))
    c.program-program.ensures
    ∙ ap (λ (n : ℕ). before ++ flat_map value_text (told_fields P.strings fields n)) c.static_count.ensures in
    on_ok_weaker c.push_objects.result
    (λ e. three_parts c.args.out.now.items before c.push_fields.new.out.items
    c.push_objects.new.out.items (u4 pool.count)
    (flat_map value_text (told_fields P.strings fields (length (statics_in P c.args.class))))
    (u4 (length (told_objects P.strings pool)) ++ flat_map (kept_text Two P.family) (told_objects P.strings pool))
    (c.in_ok-push_u32.ensures ∙ ap (λ (n : ℕ). c.args.out.now.items ++ u4 n) c.count-made.ensures) statics
    (two_parts c.push_fields.new.out.items third c.push_objects.new.out.items
    (u4 (length (told_objects P.strings pool))) (flat_map (kept_text Two P.family) (told_objects P.strings pool))
    (c.in_ok-push_u32-2.ensures ∙ ap (λ (n : ℕ). c.push_fields.new.out.items ++ u4 n) many)
    (e ∙ ap (λ (Q : Tables). third ++ flat_map (kept_text Two Q.family) (map (told_kept Q.strings) row))
    c.program-program.ensures
    ∙ ap (λ (ks : List KeptObject). third ++ flat_map (kept_text Two P.family) ks) (sym told))))
    c.push_objects.ensures
