-- The next object of a row: its numbers fit, it is sized, and its text is the next.
use Rattle.std.proofs.Common.{◌≡◌, ◌∙◌, ℕ, ◌+◌, ◌<◌, ◌^◌, List, ◌++◌, Some, map, take, slice_get, option_map, sym, ap}
use Rattle.std.proofs.Common.{subst}
use Rattle.std.specs.List.{All, flat_map}
use Rattle.std.proofs.lemmas.List.Elements.{All-more}
use Rattle.std.proofs.lemmas.Option.{get_or_from_slice_get, slice_get_within}
use Rattle.vm_state.specs.declared.kept.Kept.{Kept}
use Rattle.vm_state.specs.declared.object.Object.{Object}
use Rattle.vm_state.specs.Objects.{numbered_kept}
use Rattle.object_graph.proofs.RowPlaceLemmas.{is_at}
use Rattle.loading.specs.Families.{Family}
use Rattle.program.specs.Tables.{Tables}
use Rattle.image_format.specs.declared.version.Version.TheVariants.{Two}
use Rattle.image_format.specs.Texts.{kept_text}
use Rattle.image_format.specs.Told.{told_kept}
use Rattle.image_writer.specs.steps.Fits.{FitsType}
use Rattle.image_writer.specs.steps.Sizes.{IsSizedObject, object_by}
use Rattle.image_writer.proofs.TextLemmas.{told_one_more}

module _ (os : List (ℕ × Object)) (place n : ℕ) (k : Kept)
    (there : Some (n, k) ≡ option_map numbered_kept (slice_get os place)) where
  abbrev pub Fits : ℕ × Object → Type 0
  Fits o = All FitsType o.1.slots

  pub fit_more : All Fits (take place os) → All FitsType k.slots → All Fits (take (place + 1) os)
  fit_more before fits =
      let r = is_at os place n k there in
      let is = get_or_from_slice_get os place r.held r.held r.at in
      All-more Fits os place r.held (slice_get_within os place r.held r.at) before
      (subst Fits (sym is) (subst (λ (z : Kept). All FitsType z.slots) (sym r.kept) fits))

  pub sized_at : (P : Tables) → All (λ (o : ℕ × Object). IsSizedObject P o.1) os
      → IsSizedObject P (object_by k.class k.slots)
  sized_at P all =
      let r = is_at os place n k there in
      let low = slice_get_within os place r.held r.at in
      let is = get_or_from_slice_get os place r.held r.held r.at in
      let sized : IsSizedObject P r.held.1 =
      subst (λ (o : ℕ × Object). IsSizedObject P o.1) is (all place r.held low) in
      subst (λ (z : Kept). IsSizedObject P (object_by z.class z.slots)) r.kept
      (record { name = sized.name; elements = sized.elements; slots = sized.slots })

  pub low_at : All (λ (o : ℕ × Object). o.0 < 2 ^ 32) os → n < 2 ^ 32
  low_at all =
      let r = is_at os place n k there in
      let low = slice_get_within os place r.held r.at in
      let is = get_or_from_slice_get os place r.held r.held r.at in
      subst (λ (m : ℕ). m < 2 ^ 32) (sym r.number)
      (subst (λ (o : ℕ × Object). o.0 < 2 ^ 32) is (all place r.held low))

  pub text_more : (family : Family) (S : List (List ℕ)) (before after front : List ℕ)
      → before ≡ front ++ flat_map (kept_text Two family) (map (told_kept S) (take place os))
      → after ≡ before ++ kept_text Two family (told_kept S (n, object_by k.class k.slots))
      → after ≡ front ++ flat_map (kept_text Two family) (map (told_kept S) (take (place + 1) os))
  text_more family S before after front so_far pushed =
      let r = is_at os place n k there in
      let is = get_or_from_slice_get os place r.held r.held r.at in
      told_one_more (kept_text Two family) (told_kept S) os place r.held before after front
      (slice_get_within os place r.held r.at) (sym is) so_far
      (pushed
      ∙ ap (λ (m : ℕ). before ++ kept_text Two family (told_kept S (m, object_by k.class k.slots))) r.number
      ∙ ap (λ (z : Kept). before ++ kept_text Two family (told_kept S (r.held.0, object_by z.class z.slots)))
      (sym r.kept))
