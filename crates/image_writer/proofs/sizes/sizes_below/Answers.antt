use Rattle.std.proofs.Common.{◌≡◌, ◌∙◌, ◌+◌, ◌++◌, ◌∷◌, ℕ, List, [], length, map, sym, ap, arith}
use Rattle.std.specs.List.{range_with_len}
use Rattle.std.proofs.lemmas.List.{length_push}
use Rattle.std.proofs.lemmas.List.FromFn.{map-range_with_len_more}
use Rattle.image_writer.specs.ImageTexts.{region_size}
use Rattle.image_writer.proofs.sizes.sizes_below.Goals as goal

pub loop-class-preserved : goal.loop-class-preserved
loop-class-preserved c =
    let size = region_size c.args.image.now in
    let before = map size (range_with_len 0 c.loop-class.class) in
    record {
      sizes = c.in_ok-push.ensures.items
          ∙ ap (λ (xs : List ℕ). xs ++ c.in_ok-size.size ∷ []) c.loop-class.invariant.sizes
          ∙ ap (λ (n : ℕ). before ++ n ∷ []) c.in_ok-size.ensures
          ∙ sym (map-range_with_len_more size 0 c.loop-class.class c.loop-class.class (omega arith));
      count = ap length c.in_ok-push.ensures.items
          ∙ length_push c.loop-class.sizes.items c.in_ok-size.size
          ∙ ap (λ (n : ℕ). n + 1) c.loop-class.invariant.count;
    }
